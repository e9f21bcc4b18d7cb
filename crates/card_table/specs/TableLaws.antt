-- Laws of the table of overheads.
-- Assumes nothing.
use Rattle.std.specs.Prelude.{ℕ, zero, suc, ◌+◌, ◌-◌, ◌*◌, ◌≤◌, ◌<◌, ◌≡◌, refl, true, List, length, get_or, eqb}
use Rattle.std.proofs.Common.{sym, subst, arith, mul-le-mul, mul-le-mul_left, eqb-true, eq-eqb}
use Rattle.std.proofs.Math.Logic.{by_cases}
use Rattle.std.proofs.Math.Decide.{ℕ_discrete}
use Rattle.laws.specs.Bools.{and_left, and_right, and_both}
use Rattle.numbers.specs.Limits.{max_move, table_length, max_overhead, max_streams}
use Rattle.card_table.specs.Table.{straight_from, straight, is_line, Straight}

-- ---- the table of hop and return

pub straight_from_long : (left k hop back : ℕ) → length (straight_from left k hop back) ≡ left
unfolding straight_from
straight_from_long zero k hop back = refl
straight_from_long (suc left) k hop back = omega (arith, straight_from_long left (k + 1) hop back)

pub straight_from_at : (left k hop back i : ℕ) → i < left → get_or (straight_from left k hop back) i 0 ≡ hop * (k + i) + back
unfolding straight_from
straight_from_at zero k hop back i h = absurd (omega arith)
straight_from_at (suc left) k hop back zero h = let e : k + 0 ≡ k = omega arith in rw e
straight_from_at (suc left) k hop back (suc i) h =
    let e : k + 1 + i ≡ k + suc i = omega arith in
    rw (sym e) (straight_from_at left (k + 1) hop back i (omega arith))

pub straight_long : (hop back : ℕ) → length (straight hop back) ≡ table_length
unfolding straight
straight_long hop back = straight_from_long table_length 0 hop back

-- the overhead of k blocks is hop times k plus return
pub straight_at : (hop back k : ℕ) → k < table_length → get_or (straight hop back) k 0 ≡ hop * k + back
unfolding straight
straight_at hop back k h = let e : 0 + k ≡ k = omega arith in rw e at (straight_from_at table_length 0 hop back k h)

-- the test on each entry says that each is that of hop and return, and back
pub line_at : (left k : ℕ) (t : List ℕ) (hop back : ℕ) → is_line left k t hop back ≡ true → (i : ℕ) → k ≤ i → i < k + left → get_or t i 0 ≡ hop * i + back
unfolding is_line
line_at zero k t hop back e i l h = absurd (omega arith)
line_at (suc left) k t hop back e i l h = by_cases (ℕ_discrete k i)
    (λ q. subst (λ (j : ℕ). get_or t j 0 ≡ hop * j + back) q (eqb-true _ _ (and_left (eqb (get_or t k 0) (hop * k + back)) _ e)))
    (λ q. line_at left (k + 1) t hop back (and_right (eqb (get_or t k 0) (hop * k + back)) _ e) i (omega arith) (omega arith))

pub at_line : (left k : ℕ) (t : List ℕ) (hop back : ℕ) → ((i : ℕ) → k ≤ i → i < k + left → get_or t i 0 ≡ hop * i + back) → is_line left k t hop back ≡ true
unfolding is_line
at_line zero k t hop back h = refl
at_line (suc left) k t hop back h =
    and_both (eq-eqb _ _ (h k (omega arith) (omega arith))) (at_line left (k + 1) t hop back (λ i l u. h i (omega arith) (omega arith)))

-- ---- no legal table falls, and each entry is in its range

-- no entry is below the one before
abbrev pub NoFall : List ℕ → Type 0
NoFall t = (k : ℕ) → suc k < table_length → get_or t k 0 ≤ get_or t (suc k) 0

-- nor below any earlier one
abbrev pub Rises : List ℕ → Type 0
Rises t = (j k : ℕ) → j ≤ k → k < table_length → get_or t j 0 ≤ get_or t k 0

abbrev pub InRange : List ℕ → Type 0
InRange t = (k : ℕ) → k < table_length → (1 ≤ get_or t k 0) × (get_or t k 0 ≤ max_overhead)

rising_steps : (t : List ℕ) → NoFall t → (j d : ℕ) → j + d < table_length → get_or t j 0 ≤ get_or t (j + d) 0
rising_steps t r j zero h = let e : j + 0 ≡ j = omega arith in rw e (omega arith)
rising_steps t r j (suc d) h =
    let e : j + suc d ≡ suc (j + d) = omega arith in
    rw e (omega (arith, rising_steps t r j d (omega arith), r (j + d) (omega arith)))

pub no_fall_rises : (t : List ℕ) → NoFall t → Rises t
no_fall_rises t r j k l h = let e : j + (k - j) ≡ k = omega arith in rw e at (rising_steps t r j (k - j) (omega arith))

pub straight_rises : (t : List ℕ) → Straight t → Rises t
straight_rises t s j k l h =
    rw s.same (omega (arith, straight_at s.hop s.back j (omega arith), straight_at s.hop s.back k h, mul-le-mul_left s.hop l))

pub straight_range : (t : List ℕ) → Straight t → InRange t
straight_range t s k h =
    let few : k ≤ max_streams = omega arith in
    let most : s.hop * k ≤ max_move * max_streams = mul-le-mul s.hops.1 few in
    let here = straight_at s.hop s.back k h in
    rw s.same (omega (arith, here, s.backs), omega (arith, here, most, s.backs))
