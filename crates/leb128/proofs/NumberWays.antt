-- Each way of `judged` and of a turn of `scan`, the room that the sum of the groups has, and a turn of the loops that count and write groups.
-- Assumes nothing.
use Prim.Native.Nat.{ℕ, zero, suc, ◌+◌, ◌-◌, ◌*◌, ◌/◌, ◌%◌, ◌^◌, ◌≤◌, ◌<◌}
use mathlib.Core.Path.{◌≡◌, ◌∙◌, sym, ap, refl}
use mathlib.Core.Bool.{Bool, true, false, cond}
use lib.Dec.{ltb}
use mathlib.Core.List.{List, [], ◌∷◌, ◌++◌, append_assoc}
use native.Mathlib.Omega.{arith}
use native.Mathlib.Nat.{pow-le-pow_right, pow-succ'}
use lib.Arith.{digits_lt}
use lib.Pow.{pow-add}
use lib.ListN.{length, get_or, set, take, drop, length-set}
use lib.Seq.{set_split, take-suc-set, drop-set-lt, drop-drop}
use borrow.Author.Tests.{lt-ltb, le-ltb, eq-eqb, ne_eqb}
use Rattle.numbers.specs.Limits.{no_number}
use Rattle.leb128.specs.declared.Number.TheVariants.{Value, CutOff, Malformed}
use Rattle.leb128.specs.Number.{judged, scan, groups_from, groups}
use Rattle.laws.specs.Overwrite.{overwrite}

module _ (start at b v : ℕ) (low : start ≤ at) where
  pub judged_zero : (at ≡ start → ⊥) → b ≡ 0 → Malformed start ≡ judged start (at - start) b v
  unfolding judged
  judged_zero n z = simp (lt-ltb 0 (at - start) (omega arith), eq-eqb _ _ z)

  -- the only group, or a last one that is not zero
  pub judged_first : at ≡ start → v < no_number → Value v (at + 1) ≡ judged start (at - start) b v
  unfolding judged
  judged_first e h = let p : at + 1 ≡ start + (at - start) + 1 = omega arith in simp (le-ltb 0 (at - start) (omega arith), lt-ltb _ _ h) (ap (Value v) p)

  pub judged_more : (at ≡ start → ⊥) → (b ≡ 0 → ⊥) → v < no_number → Value v (at + 1) ≡ judged start (at - start) b v
  unfolding judged
  judged_more n z h =
      let p : at + 1 ≡ start + (at - start) + 1 = omega arith in
      simp (lt-ltb 0 (at - start) (omega arith), ne_eqb _ _ z, lt-ltb _ _ h) (ap (Value v) p)

  pub judged_great_first : at ≡ start → no_number ≤ v → Malformed start ≡ judged start (at - start) b v
  unfolding judged
  judged_great_first e h = simp (le-ltb 0 (at - start) (omega arith), le-ltb _ _ h)

  pub judged_great_more : (at ≡ start → ⊥) → (b ≡ 0 → ⊥) → no_number ≤ v → Malformed start ≡ judged start (at - start) b v
  unfolding judged
  judged_great_more n z h = simp (lt-ltb 0 (at - start) (omega arith), ne_eqb _ _ z, le-ltb _ _ h)

module _ (s : List ℕ) (start at sum w : ℕ) where
  pub scan_none : (left : ℕ) → left ≤ 0 → scan left s start at sum w ≡ Malformed start
  unfolding scan
  scan_none zero h = refl
  scan_none (suc left) h = absurd (omega arith)

  pub scan_short : (left : ℕ) → 0 < left → length s ≤ at → scan left s start at sum w ≡ CutOff (length s)
  unfolding scan
  scan_short zero p h = absurd (omega arith)
  scan_short (suc left) p h = simp (le-ltb _ _ h)

  pub scan_last : (left : ℕ) → 0 < left → at < length s → get_or s at 0 < 128
      → scan left s start at sum w ≡ judged start (at - start) (get_or s at 0) (sum + get_or s at 0 * w)
  unfolding scan
  scan_last zero p h b = absurd (omega arith)
  scan_last (suc left) p h b = simp (lt-ltb _ _ h, lt-ltb _ _ b)

  pub scan_more : (left : ℕ) → 0 < left → at < length s → 128 ≤ get_or s at 0
      → scan left s start at sum w ≡ scan (left - 1) s start (at + 1) (sum + get_or s at 0 % 128 * w) (w * 128)
  unfolding scan
  scan_more zero p h b = absurd (omega arith)
  scan_more (suc left) p h b =
      let e : left ≡ suc left - 1 = omega arith in
      simp (lt-ltb _ _ h, le-ltb _ _ b) (ap (λ (n : ℕ). scan n s start (at + 1) (sum + get_or s at 0 % 128 * w) (w * 128)) e)

-- what the groups read so far leave: left more groups fit five in all, and their sum is below the next weight
pub record Room (left shift sum : ℕ) : Type 0 where
  pub whole : shift + 7 * left ≡ 35
  pub below : sum < 2 ^ shift

-- the weight of the group after one that stands `shift` bits up
pub next_weight : (shift : ℕ) → 2 ^ (shift + 7) ≡ 2 ^ shift * 128
next_weight shift = pow-add 2 shift 7

-- one group more stays below the next weight
room_group : (left shift sum g : ℕ) → Room left shift sum → g < 128 → sum + g * 2 ^ shift < 2 ^ shift * 128
room_group left shift sum g r h =
    let d : g * 2 ^ shift + sum < 128 * 2 ^ shift = digits_lt h r.below in
    omega arith

-- and within 64 bits
pub room_sum : (left shift sum g : ℕ) → Room left shift sum → 0 < left → g < 128 → (shift < 64) × (sum + g * 2 ^ shift < 2 ^ 64)
room_sum left shift sum g r p h =
    let s : shift + 7 ≤ 35 = omega (arith, r.whole) in
    let w : 2 ^ (shift + 7) ≤ 2 ^ 35 = pow-le-pow_right {n = 2} (omega arith) s in
    omega (arith, r.whole, room_group left shift sum g r h, next_weight shift)

pub room_more : (left shift sum g : ℕ) → Room left shift sum → 0 < left → g < 128 → Room (left - 1) (shift + 7) (sum + g * 2 ^ shift)
room_more left shift sum g r p h = record { whole = omega (arith, r.whole); below = rw (next_weight shift) (room_group left shift sum g r h) }

-- ---- the groups of what is left of a number

-- a further group: k, the groups that may still follow, is not used up
pub record Further (k rest : ℕ) : Type 0 where
  pub some : 0 < k
  pub small : rest / 128 < 128 ^ suc (k - 1)
  pub is : groups_from k rest ≡ (rest % 128 + 128) ∷ groups_from (k - 1) (rest / 128)

pub groups_further : (k rest : ℕ) → rest < 128 ^ suc k → 128 ≤ rest → Further k rest
unfolding groups_from
groups_further zero rest s h = absurd (omega arith)
groups_further (suc k) rest s h =
    let e : suc k - 1 ≡ k = omega arith in
    let p = pow-succ' 128 (suc k) in
    record { some = omega arith; small = rw e (omega arith); is = rw (e, le-ltb rest 128 h) }

pub groups_last : (k rest : ℕ) → rest < 128 → groups_from k rest ≡ rest ∷ []
unfolding groups_from
groups_last zero rest h = refl
groups_last (suc k) rest h = rw (lt-ltb rest 128 h)

-- counting: with count groups begun, the rest has at most 5 - count after its first
pub record Counting (v rest count : ℕ) : Type 0 where
  pub low : 0 < count
  pub high : count ≤ 5
  pub small : rest < 128 ^ suc (5 - count)
  pub whole : count + length (groups_from (5 - count) rest) ≡ length (groups v) + 1

pub count_start : (v : ℕ) → v < no_number → Counting v v 1
unfolding groups
count_start v h = record { low = omega arith; high = omega arith; small = omega arith; whole = omega arith }

pub count_more : (v rest count : ℕ) → Counting v rest count → 128 ≤ rest → Counting v (rest / 128) (count + 1)
count_more v rest count c h =
    let f = groups_further (5 - count) rest c.small h in
    let e : 5 - (count + 1) ≡ 5 - count - 1 = omega arith in
    let l : length (groups_from (5 - count) rest) ≡ suc (length (groups_from (5 - count - 1) (rest / 128))) = ap length f.is in
    record { low = omega arith; high = omega (arith, f.some); small = rw e f.small; whole = rw e (omega (arith, c.whole)) }

pub count_end : (v rest count : ℕ) → Counting v rest count → rest < 128 → (count ≡ length (groups v)) × (count ≤ 5)
count_end v rest count c h = omega (arith, c.whole, ap length (groups_last (5 - count) rest h))

-- writing: what stands before at, the groups of the rest and the old bytes after the number are the bytes to be
pub record Writing (out₀ : List ℕ) (start v : ℕ) (out : List ℕ) (rest at : ℕ) : Type 0 where
  pub low : start ≤ at
  pub high : at ≤ start + 4
  pub small : rest < 128 ^ suc (start + 4 - at)
  pub long : at + length (groups_from (start + 4 - at) rest) ≡ start + length (groups v)
  pub kept : length out ≡ length out₀
  pub whole : take at out ++ (groups_from (start + 4 - at) rest ++ drop (start + length (groups v)) out₀) ≡ overwrite out₀ start (groups v)
  pub later : drop at out ≡ drop at out₀

pub write_start : (out : List ℕ) (start v : ℕ) → v < no_number → Writing out start v out v start
unfolding groups overwrite
write_start out start v h =
    let e : start + 4 - start ≡ 4 = omega arith in
    record { low = omega arith; high = omega arith; small = rw e (omega arith); long = rw e; kept = refl; whole = rw e; later = refl }

-- some group is left to write
some_group : (k rest : ℕ) → 0 < length (groups_from k rest)
unfolding groups_from
some_group zero rest = omega arith
some_group (suc k) rest = go (ltb rest 128)
  where
    go : (t : Bool) → 0 < length {A = ℕ} (cond t (rest ∷ []) ((rest % 128 + 128) ∷ groups_from k (rest / 128)))
    go true = omega arith
    go false = omega arith

pub write_room : (out₀ : List ℕ) (start v : ℕ) (out : List ℕ) (rest at : ℕ) → Writing out₀ start v out rest at → start + length (groups v) ≤ length out₀
    → at < length out
write_room out₀ start v out rest at w h = omega (arith, w.long, w.kept, some_group (start + 4 - at) rest)

-- one byte more is written
put : (out : List ℕ) (at b : ℕ) (gs d : List ℕ) → at < length out → take (at + 1) (set out at b) ++ (gs ++ d) ≡ take at out ++ ((b ∷ gs) ++ d)
put out at b gs d l =
    let e : at + 1 ≡ suc at = omega arith in
    rw (e, take-suc-set out at b l, append_assoc)

pub write_more : (out₀ : List ℕ) (start v : ℕ) (out : List ℕ) (rest at : ℕ) → Writing out₀ start v out rest at → at < length out → 128 ≤ rest
    → Writing out₀ start v (set out at (rest % 128 + 128)) (rest / 128) (at + 1)
write_more out₀ start v out rest at w l h =
    let f = groups_further (start + 4 - at) rest w.small h in
    let e : start + 4 - (at + 1) ≡ start + 4 - at - 1 = omega arith in
    record {
      low = omega (arith, w.low);
      high = omega (arith, f.some);
      small = rw e f.small;
      long = rw e (omega (arith, w.long, ap length f.is));
      kept = length-set out at (rest % 128 + 128) ∙ w.kept;
      whole = rw e (put out at (rest % 128 + 128) (groups_from (start + 4 - at - 1) (rest / 128)) (drop (start + length (groups v)) out₀) l
          ∙ rw f.is at w.whole);
      later = drop-set-lt (at + 1) out at (rest % 128 + 128) (omega arith) ∙ sym (drop-drop 1 at out) ∙ ap (λ (x : List ℕ). drop 1 x) w.later
          ∙ drop-drop 1 at out₀;
    }

pub write_end : (out₀ : List ℕ) (start v : ℕ) (out : List ℕ) (rest at : ℕ) → Writing out₀ start v out rest at → at < length out → rest < 128
    → (at + 1 ≡ start + length (groups v)) × (set out at rest ≡ overwrite out₀ start (groups v))
write_end out₀ start v out rest at w l h =
    let g = groups_last (start + 4 - at) rest h in
    let e : start + length (groups v) ≡ suc at = omega (arith, w.long, ap length g) in
    let d : drop (suc at) out ≡ drop (suc at) out₀ = let q : at + 1 ≡ suc at = omega arith in
    rw q at (sym (drop-drop 1 at out) ∙ ap (λ (x : List ℕ). drop 1 x) w.later ∙ drop-drop 1 at out₀) in
    (omega (arith, e), set_split out at rest l ∙ ap (λ (x : List ℕ). take at out ++ rest ∷ x) d ∙ (rw (g, e) at w.whole))
