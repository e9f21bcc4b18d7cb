-- Entries that are written or compared one run after another.
-- Assumes nothing.
use Prim.Native.Nat.{ℕ, ◌+◌, ◌-◌, ◌*◌, ◌%◌, ◌≤◌, ◌<◌}
use mathlib.Core.Path.{◌≡◌, sym, ap, ap₂, ◌∙◌}
use mathlib.Core.Bool.{Bool, true, false, cond, ◌&&◌, and-true, and_comm}
use mathlib.Core.List.{List, [], ◌∷◌, ◌++◌}
use native.Mathlib.Omega.{arith}
use lib.ListN.{length, get_or, drop}
use lib.Seq.{drop-cons, drop-drop}
use lib.Dec.{eqb}
use Rattle.placement.specs.Zones.{time_at}
use Rattle.words.specs.Words.{words_of, with_word, with_words}
use Rattle.words.specs.Laws.{with_words_none, with_words_cons, with_words_append, with_words_entries}
use Rattle.walk.specs.declared.Walk.{Walk}
use Rattle.walk.specs.Walk.{side_of, Runs}
use Rattle.plan.specs.Plan.{row}
use Rattle.plan.specs.Answer.{begins}
use Rattle.plan.specs.Disk.{lead_at}
use Rattle.plan.specs.Rows.{row_length, row_append, row_same, begins_append}
use Rattle.block_lists.specs.Runs.{written, has}

-- ---- one run after another

module _ (g h : ℕ → ℕ) (a b c : ℕ) (l : a ≤ b) (u : b ≤ c) (same : (k : ℕ) → b ≤ k → k < c → h k ≡ g k) where
  row_split : row g a (c - a) ≡ row g a (b - a) ++ row h b (c - b)
  row_split =
      let e : c - a ≡ (b - a) + (c - b) = omega arith in
      let d : a + (b - a) ≡ b = omega arith in
      ap (row g a) e ∙ row_append g a (b - a) (c - b) ∙ ap (λ (n : ℕ). row g a (b - a) ++ row g n (c - b)) d
      ∙ ap (λ (t : List ℕ). row g a (b - a) ++ t) (sym (row_same h g b (c - b) (λ k i j. same k i (omega arith))))

  pub written_run : (s : List ℕ) → written (written s g a b) h b c ≡ written s g a c
  written_run s =
      let e : b ≡ a + length (row g a (b - a)) = omega (arith, row_length g a (b - a)) in
      ap (λ (n : ℕ). with_words (written s g a b) n (row h b (c - b))) e
      ∙ sym (ap (with_words s a) row_split ∙ with_words_append s a (row g a (b - a)) (row h b (c - b)))

  pub has_run : (ws : List ℕ) → (has g ws a b && has h ws b c) ≡ has g ws a c
  has_run ws =
      let e : a + length (row g a (b - a)) ≡ b = omega (arith, row_length g a (b - a)) in
      let d : drop (length (row g a (b - a))) (drop a ws) ≡ drop b ws = drop-drop (length (row g a (b - a))) a ws ∙ ap (λ (n : ℕ). drop n ws) e in
      sym (ap (λ (vs : List ℕ). begins vs (drop a ws)) row_split ∙ begins_append (row g a (b - a)) (row h b (c - b)) (drop a ws)
      ∙ ap (λ (t : List ℕ). has g ws a b && begins (row h b (c - b)) t) d)

-- ---- entry by entry

one : (b v : ℕ) → row (λ _. v) b (b + 1 - b) ≡ v ∷ []
unfolding row
one b v = let d : b + 1 - b ≡ 1 = omega arith in rw d

module _ (g : ℕ → ℕ) (a : ℕ) where
  pub written_none : (s : List ℕ) → s ≡ written s g a a
  unfolding row
  written_none s = let e : a - a ≡ 0 = omega arith in rw e (sym (with_words_none s a))

  pub has_none : (ws : List ℕ) → true ≡ has g ws a a
  unfolding row begins
  has_none ws = let e : a - a ≡ 0 = omega arith in rw e

  module _ (b v : ℕ) (l : a ≤ b) (e : v ≡ g b) where
    again : (k : ℕ) → b ≤ k → k < b + 1 → v ≡ g k
    again k i j = let d : b ≡ k = omega arith in e ∙ ap g d

    pub written_one : (s : List ℕ) → with_word (written s g a b) b v ≡ written s g a (b + 1)
    written_one s =
        sym (ap (with_words (written s g a b) b) (one b v) ∙ with_words_cons (written s g a b) b v [] ∙ with_words_none (with_word (written s g a b) b v) (b + 1))
        ∙ written_run g (λ _. v) a b (b + 1) l (omega arith) again s

    pub has_one : (ws : List ℕ) → b < length ws → (eqb (get_or ws b 0) v && has g ws a b) ≡ has g ws a (b + 1)
    unfolding begins
    has_one ws u =
        and_comm (eqb (get_or ws b 0) v) (has g ws a b)
        ∙ ap (λ (t : Bool). has g ws a b && t) (sym (rw (one b v, drop-cons ws b 0 u) (and-true (eqb (get_or ws b 0) v))))
        ∙ has_run g (λ _. v) a b (b + 1) l (omega arith) again ws

-- ---- loops over the entries from a up to c

-- t is s with the entries before b written
pub record Writes (s : List ℕ) (g : ℕ → ℕ) (a c : ℕ) (t : List ℕ) (b : ℕ) : Type 0 where
  pub from : a ≤ b
  pub to : b ≤ c
  pub is : t ≡ written s g a b
  pub entries : length (words_of t) ≡ length (words_of s)

writes : {s : List ℕ} {g : ℕ → ℕ} {a c : ℕ} {t : List ℕ} {b : ℕ} → a ≤ b → b ≤ c → t ≡ written s g a b → Writes s g a c t b
writes {s} {g} {a} {c} {t} {b} l u e = record {
  from = l;
  to = u;
  is = e;
  entries = ap (λ (x : List ℕ). length (words_of x)) e ∙ with_words_entries s a (row g a (b - a));
}

pub writes_start : (s : List ℕ) (g : ℕ → ℕ) (a c : ℕ) → a ≤ c → Writes s g a c s a
writes_start s g a c u = writes (omega arith) u (written_none g a s)

module _ {s : List ℕ} {g : ℕ → ℕ} {a c : ℕ} {t : List ℕ} {b : ℕ} (w : Writes s g a c t b) where
  -- one entry more
  pub writes_one : {r : List ℕ} {v : ℕ} → b < c → r ≡ with_word t b v → v ≡ g b → Writes s g a c r (b + 1)
  writes_one {v = v} u e d = writes (omega (arith, w.from)) u' (e ∙ ap (λ (x : List ℕ). with_word x b v) w.is ∙ written_one g a b v w.from d s)
    where
      u' : b + 1 ≤ c
      u' = omega arith

  -- a run more
  pub writes_run : {r : List ℕ} {h : ℕ → ℕ} {n : ℕ} → b ≤ n → n ≤ c → r ≡ written t h b n → ((k : ℕ) → b ≤ k → k < n → h k ≡ g k) → Writes s g a c r n
  writes_run {h = h} {n = n} u v e same =
      writes (omega (arith, w.from)) v (e ∙ ap (λ (x : List ℕ). written x h b n) w.is ∙ written_run g h a b n w.from u same s)

  pub writes_end : c ≤ b → t ≡ written s g a c
  writes_end u = let e : b ≡ c = omega (arith, w.to) in w.is ∙ ap (written s g a) e

-- x says of ws that the entries before b are those of g
pub record Compares (ws : List ℕ) (g : ℕ → ℕ) (a c : ℕ) (x : Bool) (b : ℕ) : Type 0 where
  pub from : a ≤ b
  pub to : b ≤ c
  pub is : x ≡ has g ws a b

pub compares_start : (ws : List ℕ) (g : ℕ → ℕ) (a c : ℕ) → a ≤ c → Compares ws g a c true a
compares_start ws g a c u = record { from = omega arith; to = u; is = has_none g a ws }

module _ {ws : List ℕ} {g : ℕ → ℕ} {a c : ℕ} {x : Bool} {b : ℕ} (w : Compares ws g a c x b) where
  -- one entry more
  pub compares_one : {y : Bool} {q v : ℕ} → b < c → c ≤ length ws → y ≡ (eqb q v && x) → q ≡ get_or ws b 0 → v ≡ g b → Compares ws g a c y (b + 1)
  compares_one {v = v} u l e p d = record {
    from = omega (arith, w.from);
    to = omega arith;
    is = e ∙ ap₂ (λ (n : ℕ) (z : Bool). eqb n v && z) p w.is ∙ has_one g a b v w.from d ws (omega arith);
  }

  -- a run more
  pub compares_run : {y z : Bool} {h : ℕ → ℕ} {n : ℕ} → b ≤ n → n ≤ c → y ≡ (z && x) → z ≡ has h ws b n → ((k : ℕ) → b ≤ k → k < n → h k ≡ g k)
      → Compares ws g a c y n
  compares_run {h = h} {n = n} u v e p same = record {
    from = omega (arith, w.from);
    to = v;
    is = e ∙ ap₂ ◌&&◌ p w.is ∙ and_comm (has h ws b n) (has g ws a b) ∙ has_run g h a b n w.from u same ws;
  }

  pub compares_end : c ≤ b → x ≡ has g ws a c
  compares_end u = let e : b ≡ c = omega (arith, w.to) in w.is ∙ ap (has g ws a) e

-- all of a list's first entries
pub written_all : (s : List ℕ) (g : ℕ → ℕ) (n : ℕ) → written s g 0 n ≡ with_words s 0 (row g 0 n)
written_all s g n = let e : n - 0 ≡ n = omega arith in rw e

pub has_all : (g : ℕ → ℕ) (ws : List ℕ) (n : ℕ) → has g ws 0 n ≡ begins (row g 0 n) ws
has_all g ws n = let e : n - 0 ≡ n = omega arith in rw e

-- ---- leads

-- the leads of a run
pub run_leads : {ps ts : List ℕ} {l : ℕ → ℕ} {N b : ℕ} {r : Walk} → Runs ps ts l N b r → (w : ℕ) {x y : ℕ} → x ≡ 2 * r.even - w → y ≡ 2 * r.odd - w
    → (k : ℕ) → b ≤ k → k < r.until → side_of x y k ≡ lead_at ps ts l w k
run_leads {ps} {ts} {l} {N} {b} {r} h w {x} {y} p q k i u = go (eqb (k % 2) 0) (h.times k i u)
  where
    go : (z : Bool) → time_at ps ts (l k) ≡ cond z r.even r.odd → cond z x y ≡ 2 * time_at ps ts (l k) - w
    go true e = omega arith
    go false e = omega arith
