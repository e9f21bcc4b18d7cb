-- Laws of one number: what is written is read back, what is read is what would be written, and the code's scan is the definition.
-- Assumes nothing.
use Rattle.std.specs.Prelude.{ℕ, zero, suc, ◌+◌, ◌-◌, ◌*◌, ◌/◌, ◌%◌, ◌^◌, ◌≤◌, ◌<◌, ◌≡◌, refl, List, [], ◌∷◌, ◌++◌, Bool, true, false, cond, ◌&&◌, length, get_or, take, drop, leb, ltb, eqb}
use Rattle.std.proofs.Common.{sym, ap, ap₂, ◌∙◌, subst, arith, length-drop, length-append, take-append-drop, get_or-drop, drop-drop, length-take-le, ltb-true, ltb-false, leb-false, lt-ltb, le-ltb, ne_eqb}
use Rattle.std.proofs.Math.Nat.{pow-succ'}
use Rattle.std.proofs.Math.Seq.{drop-append_seam}
use Rattle.std.proofs.Math.Dec.{leb-suc-suc}
use Rattle.std.proofs.lemmas.Bool.{lt-leb}
use Rattle.laws.specs.Bools.{clash}
use Rattle.numbers.specs.Limits.{no_number}
use Rattle.leb128.specs.declared.Number.{Number}
use Rattle.leb128.specs.declared.Number.TheVariants.{Value, CutOff, Malformed}
use Rattle.leb128.specs.Number.{Bytes, groups_from, groups, continuing, joined, judged, number_in, number_at, scan}

-- ---- the groups of a number

-- the groups of v before any bytes: m of them continue, the last is not 0 unless it is alone
record Grouped (k v m : ℕ) (post : List ℕ) : Type 0 where
  long : length (groups_from k v) ≡ suc m
  few : m ≤ k
  stop : continuing (suc k) (groups_from k v ++ post) ≡ m
  value : joined (take (suc m) (groups_from k v ++ post)) ≡ v
  last : 0 < m → 0 < get_or (groups_from k v ++ post) m 0
  alone : m ≡ 0 → get_or (groups_from k v ++ post) 0 0 ≡ v

grouped : (k v : ℕ) (post : List ℕ) → v < 128 ^ suc k → (m : ℕ) × Grouped k v m post
unfolding groups_from continuing joined
grouped zero v post h = (
  0,
  record {
    long = refl;
    few = omega arith;
    stop = rw (lt-ltb v 128 (omega arith));
    value = omega arith;
    last = λ p. absurd (omega arith);
    alone = λ p. refl;
  },
)
grouped (suc k) v post h = go (ltb v 128) refl (grouped k (v / 128) post (let e = pow-succ' 128 (suc k) in omega arith))
  where
    go : (t : Bool) → ltb v 128 ≡ t → (m : ℕ) × Grouped k (v / 128) m post → (m : ℕ) × Grouped (suc k) v m post
    go true e g = (
      0,
      record {
        long = rw e;
        few = omega arith;
        stop = rw (e, e);
        value = rw e (omega (arith, ltb-true v 128 e));
        last = λ p. absurd (omega arith);
        alone = λ p. rw e;
      },
    )
    go false e (m, g) = (
      suc m,
      record {
        long = rw e (ap suc g.long);
        few = omega (arith, g.few);
        stop = rw (e, le-ltb (v % 128 + 128) 128 (omega arith)) (ap suc g.stop);
        value = rw e (omega (arith, g.value));
        last = λ p. rw e (lasts m g);
        alone = λ p. absurd (omega arith);
      },
    )
      where
        lasts : (m : ℕ) → Grouped k (v / 128) m post → 0 < get_or (groups_from k (v / 128) ++ post) m 0
        lasts zero g = omega (arith, g.alone refl, ltb-false v 128 e)
        lasts (suc m) g = g.last (omega arith)

-- a number takes one to five bytes
pub groups_long : (v : ℕ) → v < no_number → (0 < length (groups v)) × (length (groups v) ≤ 5)
unfolding groups
groups_long v h = go (grouped 4 v [] (omega arith))
  where
    go : (m : ℕ) × Grouped 4 v m [] → (0 < length (groups_from 4 v)) × (length (groups_from 4 v) ≤ 5)
    go (m, g) = omega (arith, g.long, g.few)

-- ---- a number that is read

-- the shortest form is the only one
shortest : (k b : ℕ) → (0 < k → 0 < b) → (ltb 0 k && eqb b 0) ≡ false
shortest zero b h = refl
shortest (suc k) b h = rw (lt-ltb 0 (suc k) (omega arith)) (ne_eqb b 0 (λ e. omega (arith, h (omega arith))))

value_of : (size start : ℕ) (bs : List ℕ) (k : ℕ) → k < 5 → k < length bs → (0 < k → 0 < get_or bs k 0) → joined (take (suc k) bs) < no_number
    → number_in size start bs k ≡ Value (joined (take (suc k) bs)) (start + k + 1)
unfolding number_in judged
value_of size start bs k f l s v = simp (lt-leb _ _ f, lt-leb _ _ l, shortest k (get_or bs k 0) s, lt-ltb _ _ v)

-- WHAT IS WRITTEN IS READ BACK
pub written_read : (pre post : List ℕ) (v : ℕ) → v < no_number → number_at (pre ++ (groups v ++ post)) (length pre) ≡ Value v (length pre + length (groups v))
unfolding number_at groups
written_read pre post v h = rw drop-append_seam (go (grouped 4 v post (omega arith)))
  where
    go : (m : ℕ) × Grouped 4 v m post
        → number_in (length (pre ++ (groups_from 4 v ++ post))) (length pre) (groups_from 4 v ++ post) (continuing 5 (groups_from 4 v ++ post))
        ≡ Value v (length pre + length (groups_from 4 v))
    go (m, g) =
        let long : m < length (groups_from 4 v ++ post) = omega (arith, length-append (groups_from 4 v) post, g.long) in
        rw g.stop
        (value_of _ (length pre) (groups_from 4 v ++ post) m (omega (arith, g.few)) long g.last (omega (arith, g.value))
        ∙ ap₂ Value g.value (omega (arith, g.long)))

-- the bytes that a value was read from
record Found (start v next : ℕ) (bs : List ℕ) (k : ℕ) : Type 0 where
  five : k < 5
  inside : k < length bs
  short : 0 < k → 0 < get_or bs k 0
  small : v < no_number
  is : v ≡ joined (take (suc k) bs)
  after : next ≡ start + k + 1

found : (size start v next : ℕ) (bs : List ℕ) (k : ℕ) → number_in size start bs k ≡ Value v next → Found start v next bs k
unfolding number_in judged
found size start v next bs k e =
    go (leb 5 k) refl (leb (length bs) k) refl (ltb 0 k && eqb (get_or bs k 0) 0) refl (ltb (joined (take (suc k) bs)) no_number) refl e
  where
    go : (a : Bool) → leb 5 k ≡ a → (b : Bool) → leb (length bs) k ≡ b → (c : Bool) → (ltb 0 k && eqb (get_or bs k 0) 0) ≡ c
        → (d : Bool) → ltb (joined (take (suc k) bs)) no_number ≡ d
        → cond a (Malformed start) (cond b (CutOff size) (cond c (Malformed start)
        (cond d (Value (joined (take (suc k) bs)) (start + k + 1)) (Malformed start)))) ≡ Value v next
        → Found start v next bs k
    go true p b q c r d s e = absurd (let z : ◌≡◌ {A = ℕ} 0 1 = cc in omega arith)
    go false p true q c r d s e = absurd (let z : ◌≡◌ {A = ℕ} 0 1 = cc in omega arith)
    go false p false q true r d s e = absurd (let z : ◌≡◌ {A = ℕ} 0 1 = cc in omega arith)
    go false p false q false r false s e = absurd (let z : ◌≡◌ {A = ℕ} 0 1 = cc in omega arith)
    go false p false q false r true s e =
        let is : joined (take (suc k) bs) ≡ v = cc in
        let after : start + k + 1 ≡ next = cc in
        record {
          five = leb-false 5 k p;
          inside = leb-false (length bs) k q;
          short = λ h. shorts (get_or bs k 0) h r;
          small = omega (arith, ltb-true (joined (take (suc k) bs)) no_number s);
          is = sym is;
          after = sym after;
        }
      where
        shorts : (b : ℕ) → 0 < k → (ltb 0 k && eqb b 0) ≡ false → 0 < b
        shorts zero h r = clash (rw (lt-ltb 0 k h)) r
        shorts (suc b) h r = omega arith

-- the byte that does not continue
stops : (n : ℕ) (bs : List ℕ) → continuing n bs < n → continuing n bs < length bs → get_or bs (continuing n bs) 0 < 128
unfolding continuing
stops zero bs h l = absurd (omega arith)
stops (suc n) [] h l = absurd (omega arith)
stops (suc n) (b ∷ bs) h l = go (ltb b 128) refl h l (stops n bs)
  where
    go : (t : Bool) → ltb b 128 ≡ t → cond t 0 (suc (continuing n bs)) < suc n → cond t 0 (suc (continuing n bs)) < suc (length bs)
        → (continuing n bs < n → continuing n bs < length bs → get_or bs (continuing n bs) 0 < 128) → get_or (b ∷ bs) (cond t 0 (suc (continuing n bs))) 0 < 128
    go true e h l ih = ltb-true b 128 e
    go false e h l ih = ih (omega arith) (omega arith)

joined_some : (k : ℕ) (bs : List ℕ) → 0 < get_or bs k 0 % 128 → 0 < joined (take (suc k) bs)
unfolding joined
joined_some k [] h = absurd (omega arith)
joined_some zero (b ∷ bs) h = omega arith
joined_some (suc k) (b ∷ bs) h = omega (arith, joined_some k bs h)

-- the groups of the number that bytes make are those bytes
regrouped : (n : ℕ) (bs : List ℕ) → Bytes bs → continuing (suc n) bs ≤ n → continuing (suc n) bs < length bs
    → (0 < continuing (suc n) bs → 0 < get_or bs (continuing (suc n) bs) 0)
    → groups_from n (joined (take (suc (continuing (suc n) bs)) bs)) ≡ take (suc (continuing (suc n) bs)) bs
unfolding continuing joined groups_from
regrouped n [] y h l s = absurd (omega arith)
regrouped zero (b ∷ bs) y h l s = go (ltb b 128) refl h
  where
    go : (t : Bool) → ltb b 128 ≡ t → cond t 0 1 ≤ 0 → ◌≡◌ {A = List ℕ} (joined (take (suc (cond t 0 1)) (b ∷ bs)) ∷ []) (take (suc (cond t 0 1)) (b ∷ bs))
    go true e h = ap (λ (x : ℕ). x ∷ []) (omega (arith, ltb-true b 128 e))
    go false e h = absurd (omega arith)
regrouped (suc n) (b ∷ bs) y h l s = go (ltb b 128) refl h l s (regrouped n bs (λ i. y (suc i)))
  where
    k : ℕ
    k = continuing (suc n) bs

    go : (t : Bool) → ltb b 128 ≡ t → cond t 0 (suc k) ≤ suc n → cond t 0 (suc k) < suc (length bs)
        → (0 < cond t 0 (suc k) → 0 < get_or (b ∷ bs) (cond t 0 (suc k)) 0)
        → (k ≤ n → k < length bs → (0 < k → 0 < get_or bs k 0) → groups_from n (joined (take (suc k) bs)) ≡ take (suc k) bs)
        → groups_from (suc n) (joined (take (suc (cond t 0 (suc k))) (b ∷ bs))) ≡ take (suc (cond t 0 (suc k))) (b ∷ bs)
    go true e h l s ih =
        let small = ltb-true b 128 e in
        let v : b % 128 + 128 * 0 ≡ b = omega arith in
        rw v (rw (lt-ltb b 128 small))
    go false e h l s ih =
        let last : get_or bs k 0 < 128 = stops (suc n) bs (omega arith) (omega arith) in
        let some : 0 < joined (take (suc k) bs) = joined_some k bs (omega (arith, s (omega arith))) in
        let byte : b < 256 = y 0 in
        let low : (b % 128 + 128 * joined (take (suc k) bs)) % 128 + 128 ≡ b = omega (arith, ltb-false b 128 e) in
        let high : (b % 128 + 128 * joined (take (suc k) bs)) / 128 ≡ joined (take (suc k) bs) = omega arith in
        rw (le-ltb (b % 128 + 128 * joined (take (suc k) bs)) 128 (omega arith), low, high)
        (ap (λ (r : List ℕ). b ∷ r) (ih (omega arith) (omega arith) (λ p. s (omega arith))))

-- the number v stands at an offset of s, and next is the offset after it
pub record Stands (s : List ℕ) (start v next : ℕ) : Type 0 where
  pub small : v < no_number
  pub after : next ≡ start + length (groups v)
  pub inside : next ≤ length s
  pub bytes : drop start s ≡ groups v ++ drop next s

-- WHAT IS READ IS WHAT WOULD BE WRITTEN
pub read_written : (s : List ℕ) (start v next : ℕ) → Bytes s → number_at s start ≡ Value v next → Stands s start v next
unfolding number_at groups
read_written s start v next y e = go (found (length s) start v next (drop start s) (continuing 5 (drop start s)) e)
  where
    bs : List ℕ
    bs = drop start s

    k : ℕ
    k = continuing 5 bs

    go : Found start v next bs k → Stands s start v next
    go f =
        let same : groups_from 4 v ≡ take (suc k) bs =
        ap (groups_from 4) f.is
        ∙ regrouped 4 bs (λ i. subst (λ (x : ℕ). x < 256) (sym (get_or-drop start s i 0)) (y (start + i))) (omega (arith, f.five)) f.inside f.short in
        let long : length (groups_from 4 v) ≡ suc k = ap length same ∙ length-take-le (suc k) bs f.inside in
        let n : start + suc k ≡ next = omega (arith, f.after) in
        record {
          small = f.small;
          after = omega (arith, f.after);
          inside = omega (arith, f.after, f.inside, length-drop start s);
          bytes = sym (take-append-drop (suc k) bs) ∙ ap₂ (λ (a c : List ℕ). a ++ c) (sym same) (drop-drop (suc k) start s ∙ ap (λ (j : ℕ). drop j s) n);
        }

-- ---- the code's scan

-- what is found from the j-th byte on, with the bytes before it added up to sum and the weight w
scanned : ℕ → ℕ → ℕ → ℕ → ℕ → ℕ → List ℕ → ℕ → Number
scanned left size start j sum w bs k =
    cond (leb left k) (Malformed start) (cond (leb (length bs) k) (CutOff size) (judged start (j + k) (get_or bs k 0) (sum + w * joined (take (suc k) bs))))

scan_is : (left : ℕ) (s : List ℕ) (start j sum w : ℕ) (bs : List ℕ) → drop (start + j) s ≡ bs
    → scan left s start (start + j) sum w ≡ scanned left (length s) start j sum w bs (continuing left bs)
unfolding scan scanned continuing joined
scan_is zero s start j sum w bs e = refl
scan_is (suc left) s start j sum w [] e =
    let l : length s ≤ start + j = omega (arith, length-drop (start + j) s, ap length e) in
    rw (le-ltb _ _ l, lt-leb (suc left) 0 (omega arith))
scan_is (suc left) s start j sum w (b ∷ bs) e =
    let l : start + j < length s = omega (arith, length-drop (start + j) s, ap length e) in
    let here : get_or s (start + j) 0 ≡ b = ap (λ (n : ℕ). get_or s n 0) (omega arith) ∙ sym (get_or-drop (start + j) s 0 0) ∙ ap (λ (r : List ℕ). get_or r 0 0) e in
    let rest : drop (start + j + 1) s ≡ bs = sym (drop-drop 1 (start + j) s) ∙ ap (λ (r : List ℕ). drop 1 r) e in
    let again : start + j + 1 ≡ start + (j + 1) = omega arith in
    rw (lt-ltb _ _ l, here, again) (go (ltb b 128) refl (scan_is left s start (j + 1) (sum + b % 128 * w) (w * 128) bs (rw again at rest)))
  where
    go : (t : Bool) → ltb b 128 ≡ t
        → scan left s start (start + (j + 1)) (sum + b % 128 * w) (w * 128)
        ≡ scanned left (length s) start (j + 1) (sum + b % 128 * w) (w * 128) bs (continuing left bs)
        → cond t (judged start (start + j - start) b (sum + b * w)) (scan left s start (start + (j + 1)) (sum + b % 128 * w) (w * 128))
        ≡ scanned (suc left) (length s) start j sum w (b ∷ bs) (cond t 0 (suc (continuing left bs)))
    go true t ih =
        let index : start + j - start ≡ j + 0 = omega arith in
        let whole : b % 128 + 128 * 0 ≡ b = omega (arith, ltb-true b 128 t) in
        let sums : sum + b * w ≡ sum + w * b = omega arith in
        rw (lt-leb (suc left) 0 (omega arith), lt-leb (suc (length bs)) 0 (omega arith), index, whole, sums)
    go false t ih =
        let k = continuing left bs in
        let index : j + 1 + k ≡ j + suc k = omega arith in
        let sums : sum + b % 128 * w + w * 128 * joined (take (suc k) bs) ≡ sum + w * (b % 128 + 128 * joined (take (suc k) bs)) = omega arith in
        ih ∙ rw (leb-suc-suc left k, leb-suc-suc (length bs) k, index, sums)

-- THE CODE'S SCAN IS THE DEFINITION
pub scan_number : (s : List ℕ) (start : ℕ) → scan 5 s start start 0 1 ≡ number_at s start
unfolding number_at number_in scanned
scan_number s start =
    let here : start + 0 ≡ start = omega arith in
    let one : 0 + 1 * joined (take (suc (continuing 5 (drop start s))) (drop start s)) ≡ joined
    (take (suc (continuing 5 (drop start s))) (drop start s)) = omega arith in
    let at : 0 + continuing 5 (drop start s) ≡ continuing 5 (drop start s) = omega arith in
    rw (at, one) at (rw here at (scan_is 5 s start 0 0 1 (drop (start + 0) s) refl))
