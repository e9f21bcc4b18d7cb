-- The ways that the call can answer.
-- Assumes nothing.
use Prim.Native.Nat.{ℕ, ◌*◌, ◌/◌, ◌≤◌, ◌<◌}
use mathlib.Core.Path.{◌≡◌, refl, ap, ◌∙◌, subst}
use mathlib.Core.Bool.{Bool, true, false, ◌||◌}
use mathlib.Core.List.{List}
use native.Mathlib.Omega.{arith}
use lib.Dec.{ltb, eqb}
use borrow.Author.Tests.{eqb-false, ltb-false}
use Rattle.laws.specs.Bools.{clash}
use Rattle.laws.specs.Greatest.{Peak, peak_earliest, peak_same}
use Rattle.numbers.specs.Limits.{max_window}
use Rattle.numbers.specs.Refusals.{not_sound, wrong_window}
use Rattle.placement.specs.Placement.{Falling}
use Rattle.placement.specs.Showing.{Showing, visits_of, laying, walked, walked_single}
use Rattle.placement.specs.Zones.{time_at}
use Rattle.pacing.specs.Window.{places_of, window_time, worst_window, window_at}
use Rattle.pacing.proofs.HalfWindows.{walked_window, walked_window_at}
use Rattle.plan.specs.declared.Plan.{Plan}
use Rattle.plan.specs.Plan.{showing_in, longest_of}
use Rattle.window.specs.declared.Window.{Window}
use Rattle.worst_row.specs.Rows.{row_time}
use Rattle.window.specs.Window.{worst_window_of, window_at_of, is_laid, is_outside, window_fault, refusal, window_answer}
use Rattle.worst_row.proofs.RowLaws.{row_window}

-- the worst row over all visits of a film of N blocks on P positions is its worst window, and starts at a visit of its first block
worst_is : (x : Showing) (ps ts : List ℕ) (P N k n at w : ℕ) → visits_of x * N ≤ P → Falling P (time_at ps ts) → 0 < k → k ≤ N
    → n ≡ places_of (walked x) (visits_of x * N) (visits_of x * k)
    → Peak (row_time ps ts (laying (walked x) P (visits_of x * N)) (visits_of x * N) (visits_of x * k)) n at w
    → (w ≡ worst_window x (time_at ps ts) (laying x P N) N k) × (at / visits_of x ≡ window_at x (time_at ps ts) (laying x P N) N k)
unfolding worst_window window_at
worst_is x ps ts P N k n at w np falls some within d p =
    let l = laying (walked x) P (visits_of x * N) in
    let g = window_time (walked x) (time_at ps ts) l (visits_of x * N) (visits_of x * k) in
    let m = places_of (walked x) (visits_of x * N) (visits_of x * k) in
    let p₁ = subst (λ (i : ℕ). Peak (row_time ps ts l (visits_of x * N) (visits_of x * k)) i at w) d p in
    let q = peak_same _ g m at w (λ b u. row_window ps ts l (visits_of x * N) (walked x) (walked_single x) (visits_of x * k) b u) p₁ in (
      q.value ∙ walked_window x P N np (time_at ps ts) falls k some within,
      ap (λ (a : ℕ). a / visits_of x) (peak_earliest g m at w q) ∙ walked_window_at x P N np (time_at ps ts) falls k some within,
    )

-- the same where a block has v visits
pub worst_visits : (x : Showing) (ps ts : List ℕ) (P N k v n at w : ℕ) → v ≡ visits_of x → visits_of x * N ≤ P → Falling P (time_at ps ts) → 0 < k → k ≤ N
    → n ≡ places_of (walked x) (v * N) (v * k) → Peak (row_time ps ts (laying (walked x) P (v * N)) (v * N) (v * k)) n at w
    → (w ≡ worst_window x (time_at ps ts) (laying x P N) N k) × (at / v ≡ window_at x (time_at ps ts) (laying x P N) N k)
worst_visits x ps ts P N k v n at w e np falls some within d p = rw e (worst_is x ps ts P N k n at w np falls some within (rw e at d) (rw e at p))

module _ (p : Plan) (ps : List ℕ) (k : ℕ) where
  -- 14
  pub not_laid : is_laid p ps ≡ false → refusal not_sound ≡ window_answer p ps k
  unfolding window_answer window_fault
  not_laid e = rw e

  module _ (l : is_laid p ps ≡ true) where
    -- 27
    pub out_of_range : is_outside k (longest_of p.figures) ≡ true → refusal wrong_window ≡ window_answer p ps k
    unfolding window_answer window_fault
    out_of_range e = rw (l, e)

    -- accepted
    pub answered : is_outside k (longest_of p.figures) ≡ false → (t b bytes : ℕ)
        → (t ≡ worst_window_of (showing_in p) p.figures k) × (b ≡ window_at_of (showing_in p) p.figures k) → bytes ≡ k * p.figures.bytes
        → ◌≡◌ {A = Window} (record { verdict = record { number = 0; place = 0 }; time = t; first = b; bytes = bytes }) (window_answer p ps k)
    unfolding window_answer window_fault
    answered e t b bytes w q = rw (l, e) (λ i. record { verdict = record { number = 0; place = 0 }; time = w.0 i; first = w.1 i; bytes = q i })

-- what a window in range is
pub in_range : (k N : ℕ) → is_outside k N ≡ false → (0 < k) × (k ≤ max_window) × (k ≤ N)
unfolding is_outside
in_range k N e = go (eqb k 0) refl (ltb max_window k) refl (ltb N k) refl e
  where
    go : (s : Bool) → eqb k 0 ≡ s → (t : Bool) → ltb max_window k ≡ t → (u : Bool) → ltb N k ≡ u → (s || (t || u)) ≡ false
        → (0 < k) × (k ≤ max_window) × (k ≤ N)
    go true a t b u c q = clash refl q
    go false a true b u c q = clash refl q
    go false a false b true c q = clash refl q
    go false a false b false c q = (omega (arith, eqb-false k 0 a), ltb-false max_window k b, ltb-false N k c)
