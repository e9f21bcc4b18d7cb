-- Values along rows that stand one after the other: the greatest of all, and the earliest place, counted through the rows, where it is reached.
-- Row i has N i places, and a value g i b for each of the first n i.
-- Assumes nothing.
use Rattle.std.specs.Prelude.{ℕ, suc, ◌+◌, ◌≤◌, ◌<◌, ◌≡◌}
use Rattle.std.proofs.Common.{ap, ◌∙◌, arith}
use Rattle.std.proofs.Math.Logic.{by_cases}
use Rattle.std.proofs.Math.Decide.{dec_lt, ℕ_discrete}
use Rattle.laws.specs.Greatest.{greatest_of, greatest_of_above, earliest_of, earliest_is, Peak, peak_start, peak_earliest, peak_higher, peak_lower}
use Rattle.laws.specs.Starts.{start_of, start_next, start_rises}

-- ---- places through the rows

module _ (N : ℕ → ℕ) where
  -- a place of a row lies before the end of the rows, and before every place of a later row
  pub through_below : (i j b : ℕ) → i < j → b < N i → start_of N i + b < start_of N j
  through_below i j b l u = omega (arith, start_next N i, start_rises N (suc i) j l)

  -- of two places the later lies in no earlier row
  pub through_row : (i j b c : ℕ) → b < N i → start_of N j + c ≤ start_of N i + b → j ≤ i
  through_row i j b c u h = by_cases (dec_lt i j) (λ l. absurd (omega (arith, through_below i j b l u))) (λ l. omega arith)

-- ---- the greatest of them all

module _ (g : ℕ → ℕ → ℕ) (n N : ℕ → ℕ) where
  -- the value w is reached at a place, no value is above it, and none before that place reaches it
  pub record EarliestThrough (F w at : ℕ) : Type 0 where
    pub here : (i : ℕ) × (b : ℕ) × (i < F) × (b < n i) × (at ≡ start_of N i + b) × (g i b ≡ w)
    pub above : (i b : ℕ) → i < F → b < n i → g i b ≤ w
    pub first : (i b : ℕ) → i < F → b < n i → start_of N i + b < at → g i b < w

  -- no other number has this
  pub through_only : (F w v at to : ℕ) → EarliestThrough F w at → EarliestThrough F v to → (w ≡ v) × (at ≡ to)
  through_only F w v at to p q =
      let (i, b, u, h, e, d) = p.here in
      let (j, c, l, k, f, s) = q.here in
      let same : w ≡ v = omega (arith, q.above i b u h, p.above j c l k) in
      (same, omega (arith, early at to (λ m. omega (arith, q.first i b u h (omega arith))), early to at (λ m. omega (arith, p.first j c l k (omega arith)))))
    where
      early : (a b : ℕ) → (a < b → ⊥) → b ≤ a
      early a b h = by_cases (dec_lt a b) (λ m. absurd (h m)) (λ m. omega arith)

  -- it is the greatest of a row's, where no row has a greater and each before it that has a value a smaller
  pub through_is : (F : ℕ) → ((i : ℕ) → i < F → n i ≤ N i) → (i : ℕ) → i < F → 0 < n i
      → ((j : ℕ) → j < F → greatest_of (g j) (n j) ≤ greatest_of (g i) (n i))
      → ((j : ℕ) → j < i → 0 < n j → greatest_of (g j) (n j) < greatest_of (g i) (n i))
      → EarliestThrough F (greatest_of (g i) (n i)) (start_of N i + earliest_of (g i) (n i))
  through_is F few i u some most less =
      let e = earliest_is (g i) (n i) some in
      let b = earliest_of (g i) (n i) in
      record {
        here = (i, b, u, e.below, omega arith, e.reached);
        above = λ j c l h. omega (arith, greatest_of_above (g j) (n j) c h, most j l);
        first = λ j c l h s. by_cases (ℕ_discrete j i)
            (λ q. before j c q h s)
            (λ q. let m : j < i = omega (arith, through_row N i j b c (omega (arith, e.below, few i u)) (omega arith)) in
            omega (arith, greatest_of_above (g j) (n j) c h, less j m (omega arith)));
      }
    where
      before : (j c : ℕ) → j ≡ i → c < n j → start_of N j + c < start_of N i + earliest_of (g i) (n i) → g j c < greatest_of (g i) (n i)
      before j c q h s =
          let l : c < earliest_of (g i) (n i) = omega (arith, ap (start_of N) q) in
          rw q ((earliest_is (g i) (n i) some).first c l)

-- ---- as a walk over the rows finds them: w i is the greatest of row i, and at i where it is reached

-- the greatest of the first n rows, and where it is; no place is known while it is 0
pub record Found (w at : ℕ → ℕ) (n time first : ℕ) : Type 0 where
  pub row : ℕ
  pub peak : Peak w n row time
  pub place : 0 < time → first ≡ at row

pub found_none : (w at : ℕ → ℕ) → Found w at 0 0 0
found_none w at = record { row = 0; peak = peak_start w; place = λ h. absurd (omega arith) }

-- the place is that of the earliest row that reaches it
pub found_at : (w at : ℕ → ℕ) (n time first : ℕ) → Found w at n time first → 0 < time → first ≡ at (earliest_of w n)
found_at w at n time first f h = f.place h ∙ ap at (peak_earliest w n f.row time f.peak)

module _ (w at : ℕ → ℕ) (n time first : ℕ) (f : Found w at n time first) where
  only : (k : ℕ) → n ≤ k → k < suc n → w k ≡ w n
  only k l u = let e : k ≡ n = omega arith in ap w e

  -- a row that has more
  pub found_higher : time < w n → Found w at (suc n) (w n) (at n)
  found_higher h = record { row = n; peak = peak_higher w n (suc n) (w n) f.row time (omega arith) only f.peak h; place = λ s. omega arith }

  -- one that has not
  pub found_lower : w n ≤ time → Found w at (suc n) time first
  found_lower h = record { row = f.row; peak = peak_lower w n (suc n) (w n) f.row time (omega arith) only f.peak h; place = f.place }

  -- the worse of both, as code chooses it
  pub found_next : (t b r s : ℕ) → t ≡ w n → b ≡ at n → (time < t → (r ≡ t) × (s ≡ b)) → (t ≤ time → (r ≡ time) × (s ≡ first)) → Found w at (n + 1) r s
  found_next t b r s e d higher lower = let q : n + 1 ≡ suc n = omega arith in by_cases (dec_lt time t)
      (λ h. let p = higher h in rw (q, p.0 ∙ e, p.1 ∙ d) (found_higher (omega arith)))
      (λ h. let p = lower (omega arith) in rw (q, p.0, p.1) (found_lower (omega arith)))
