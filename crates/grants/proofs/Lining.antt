-- Places that are 1 up to their number, each once, are all taken: the pigeonhole. One turn of the loop that puts slots into a line.
-- Assumes nothing.
use Prim.Native.Nat.{ℕ, zero, suc, ◌+◌, ◌-◌, ◌≤◌, ◌<◌}
use mathlib.Core.Path.{◌≡◌, refl, sym, ap, ◌∙◌}
use mathlib.Core.Logic.{◌≢◌, by_cases}
use mathlib.Core.Bool.{Bool, true, false, cond, ◌&&◌}
use mathlib.Core.List.{List, [], ◌∷◌}
use native.Mathlib.Omega.{arith}
use native.Mathlib.Decide.{dec_lt, ℕ_discrete}
use lib.ListN.{length, get_or, set, take, length-set}
use lib.Dec.{ltb, eqb}
use borrow.Author.Tests.{ltb-true, ltb-false, eqb-true, lt-ltb, eq-eqb, ne_eqb}
use Rattle.laws.specs.Bools.{bit, bit_le, and_left, and_right, and_other}
use Rattle.laws.specs.Runs.{sum_by}
use Rattle.laws.specs.Sums.{sum_none, sum_next, sum_rest}
use Rattle.laws.specs.Count.{count, count_or, pigeons}
use Rattle.turns.specs.Places.{get_self, get_other}
use Rattle.rules.specs.Kinds.{slot_at}
use Rattle.grants.specs.Line.{taken, asking, Queued, Lined}

-- ---- as many as there are numbers that are not 0

asking_le : (qs : List ℕ) → asking qs ≤ length qs
unfolding asking sum_by
asking_le [] = omega arith
asking_le (x ∷ qs) = omega (arith, asking_le qs, bit_le (ltb 0 x))

count_front : (f : ℕ → Bool) (n : ℕ) → count f (suc n) ≡ bit (f 0) + count (λ i. f (suc i)) n
unfolding count
count_front f zero = refl
count_front f (suc n) = omega (arith, count_front f n)

asking_count : (qs : List ℕ) → asking qs ≡ count (λ i. ltb 0 (get_or qs i 0)) (length qs)
unfolding asking sum_by count
asking_count [] = refl
asking_count (x ∷ qs) = omega (arith, asking_count qs, count_front (λ i. ltb 0 (get_or (x ∷ qs) i 0)) (length qs))

-- ---- each place up to their number is one slot's

slot_is : (k : ℕ) (qs : List ℕ) → slot_at k qs < length qs → get_or qs (slot_at k qs) 0 ≡ k
unfolding slot_at
slot_is k [] h = absurd (omega arith)
slot_is k (x ∷ qs) h = go (eqb x k) refl h (slot_is k qs)
  where
    go : (t : Bool) → eqb x k ≡ t → cond t 0 (suc (slot_at k qs)) < suc (length qs) → (slot_at k qs < length qs → get_or qs (slot_at k qs) 0 ≡ k)
        → get_or (x ∷ qs) (cond t 0 (suc (slot_at k qs))) 0 ≡ k
    go true e u ih = eqb-true x k e
    go false e u ih = ih (omega arith)

slot_before : (k i : ℕ) (qs : List ℕ) → i < length qs → get_or qs i 0 ≡ k → slot_at k qs < length qs
unfolding slot_at
slot_before k i [] l e = absurd (omega arith)
slot_before k zero (x ∷ qs) l e = rw (eq-eqb x k e) (omega arith)
slot_before k (suc i) (x ∷ qs) l e = go (eqb x k) (slot_before k i qs (omega arith) e)
  where
    go : (t : Bool) → slot_at k qs < length qs → cond t 0 (suc (slot_at k qs)) < suc (length qs)
    go true h = omega arith
    go false h = omega arith

module _ (qs : List ℕ) (n : ℕ) (q : Queued qs n) where
  -- free slots go past all places, each to one of its own
  abbrev away : ℕ → ℕ
  away i = get_or qs i 0 + cond (eqb (get_or qs i 0) 0) (asking qs + suc i) 0

  away_free : (i : ℕ) → get_or qs i 0 ≡ 0 → away i ≡ asking qs + suc i
  away_free i e = rw (eq-eqb (get_or qs i 0) 0 e) (omega arith)

  away_own : (i : ℕ) → 0 < get_or qs i 0 → away i ≡ get_or qs i 0
  away_own i h = rw (ne_eqb (get_or qs i 0) 0 (λ e. omega arith)) (omega arith)

  away_apart : (i j : ℕ) → i < length qs → j < length qs → away i ≡ away j → i ≡ j
  away_apart i j l m e =
      by_cases (ℕ_discrete (get_or qs i 0) 0)
      (λ a. by_cases (ℕ_discrete (get_or qs j 0) 0)
      (λ b. omega (arith, away_free i a, away_free j b))
      (λ b. absurd (omega (arith, away_free i a, away_own j (omega arith), q.low j))))
      (λ a. by_cases (ℕ_discrete (get_or qs j 0) 0)
      (λ b. absurd (omega (arith, away_own i (omega arith), away_free j b, q.low i)))
      (λ b. q.apart i j (omega arith) (omega (arith, away_own i (omega arith), away_own j (omega arith)))))

  -- were place k nobody's, fewer would ask
  gap : (k : ℕ) → 0 < k → k ≤ asking qs → ((i : ℕ) → i < length qs → get_or qs i 0 ≢ k) → ⊥
  gap k h m none =
      omega (
        arith,
        asking_count qs,
        count_or all below above (length qs) parts,
        pigeons (length qs) away away_apart 1 (k - 1) below lower,
        pigeons (length qs) away away_apart (suc k) (asking qs - k) above upper,
      )
    where
      all : ℕ → Bool
      all i = ltb 0 (get_or qs i 0)

      below : ℕ → Bool
      below i = ltb (get_or qs i 0) k && ltb 0 (get_or qs i 0)

      above : ℕ → Bool
      above i = ltb k (get_or qs i 0)

      parts : (i : ℕ) → i < length qs → all i ≡ true → below i ≡ false → above i ≡ true
      parts i l a b = lt-ltb k (get_or qs i 0) (omega (arith, ltb-false (get_or qs i 0) k (and_other (ltb (get_or qs i 0) k) (all i) a b), none i l))

      lower : (i : ℕ) → i < length qs → below i ≡ true → (1 ≤ away i) × (away i < 1 + (k - 1))
      lower i l b =
          let u = ltb-true (get_or qs i 0) k (and_left (ltb (get_or qs i 0) k) (all i) b) in
          let v = ltb-true 0 (get_or qs i 0) (and_right (ltb (get_or qs i 0) k) (all i) b) in
          omega (arith, away_own i v)

      upper : (i : ℕ) → i < length qs → above i ≡ true → (suc k ≤ away i) × (away i < suc k + (asking qs - k))
      upper i l a = let u = ltb-true k (get_or qs i 0) a in omega (arith, away_own i (omega arith), q.low i)

  taken_by : (k : ℕ) → 0 < k → k ≤ asking qs → (i : ℕ) × (get_or qs i 0 ≡ k)
  taken_by k h m =
      by_cases (dec_lt (slot_at k qs) (length qs)) (λ l. (slot_at k qs, slot_is k qs l))
      (λ l. absurd (gap k h m (λ i u e. l (slot_before k i qs u e))))

  -- ---- the loop: the first i slots stand in the line, and so many of them ask

  pub record Standing (line : List ℕ) (count i : ℕ) : Type 0 where
    pub long : length line ≡ 257
    pub many : count ≡ asking (take i qs)
    pub stands : (j : ℕ) → j < i → 0 < get_or qs j 0 → get_or line (get_or qs j 0) 0 ≡ j

  pub none_stand : (line : List ℕ) → length line ≡ 257 → Standing line 0 0
  unfolding asking
  none_stand line l = record { long = l; many = sym (sum_none taken qs); stands = λ j u v. absurd (omega arith) }

  -- every place is one of the line's
  pub place_within : (i : ℕ) → get_or qs i 0 < 257
  place_within i = omega (arith, q.low i, asking_le qs, q.long)

  module _ (line : List ℕ) (count i : ℕ) (inv : Standing line count i) where
    -- slot i joins it, at its own place
    pub one_stands : i < n → n ≤ 256 → Standing (set line (get_or qs i 0) i) (count + taken (get_or qs i 0)) (i + 1)
    unfolding asking
    one_stands l h = record {
      long = length-set line (get_or qs i 0) i ∙ inv.long;
      many = omega (arith, inv.many, sum_next taken 0 qs i (omega (arith, q.long)));
      stands = λ j u v. by_cases (ℕ_discrete (get_or qs j 0) (get_or qs i 0))
          (λ e. ap (λ (x : ℕ). get_or (set line (get_or qs i 0) i) x 0) e ∙ get_self line (get_or qs i 0) i 0 room ∙ sym (q.apart j i v e))
          (λ e. get_other line (get_or qs i 0) (get_or qs j 0) i 0 room e ∙ inv.stands j (by_cases (ℕ_discrete j i)
          (λ s. absurd (e (ap (λ (x : ℕ). get_or qs x 0) s))) (λ s. omega arith)) v);
    }
      where
        room : get_or qs i 0 < length line
        room = omega (arith, place_within i, inv.long)

    -- the slots from n on do not ask
    pub all_stand : i ≡ n → n ≤ 256 → Lined qs line count
    unfolding asking
    all_stand e h = record {
      all = λ j. omega (arith, q.low j, many);
      few = omega (arith, asking_le qs, q.long, many);
      slot = λ k u v. go (taken_by k u (omega (arith, many))) u;
    }
      where
        many : count ≡ asking qs
        many =
            inv.many ∙ ap (λ (m : ℕ). asking (take m qs)) e
            ∙ sum_rest taken 0 n qs (λ j u v. ap taken (q.unused j u))

        go : {k : ℕ} → (j : ℕ) × (get_or qs j 0 ≡ k) → 0 < k → get_or qs (get_or line k 0) 0 ≡ k
        go {k} (j, own) u =
            let l : j < i = by_cases (dec_lt j i) (λ z. z) (λ z. absurd (omega (arith, q.unused j (omega arith)))) in
            ap (λ (x : ℕ). get_or qs (get_or line x 0) 0) (sym own) ∙ ap (λ (x : ℕ). get_or qs x 0) (inv.stands j l (omega arith)) ∙ own
