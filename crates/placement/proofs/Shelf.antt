-- Laws of what specs/Shelf defines.
use Rattle.std.specs.Prelude.{ℕ, suc, ◌*◌, ◌-◌, ◌≤◌, ◌<◌, ◌≡◌}
use Rattle.std.proofs.Common.{ap, arith, mul-le-mul_left}
use Rattle.laws.specs.Starts.{start_of, start_next, start_rises}
use Rattle.placement.specs.Placement.{Laying, Falling}
use Rattle.placement.specs.Showing.{Showing, visits_of, laying, worst_of, laying_lays, laying_high}
use Rattle.placement.proofs.Showing.{laying_best}
use Rattle.placement.specs.Shelf.{free_for, laying_in, falling_less}

-- F films that have room
module _ (x : Showing) (P : ℕ) (N : ℕ → ℕ) (F : ℕ) (room : visits_of x * start_of N F ≤ P) where
  -- each has
  pub film_room : (i : ℕ) → i < F → visits_of x * N i ≤ free_for x P N i
  film_room i u = omega (arith, ap (λ (n : ℕ). visits_of x * n) (start_next N i), mul-le-mul_left (visits_of x) (start_rises N (suc i) F u))

  -- what it leaves is free for the next
  pub free_next : (i : ℕ) → i < F → free_for x P N i - visits_of x * N i ≡ free_for x P N (suc i)
  free_next i u = omega (arith, ap (λ (n : ℕ). visits_of x * n) (start_next N i))

  free_falls : (i j : ℕ) → i ≤ j → free_for x P N j ≤ free_for x P N i
  free_falls i j h = omega (arith, mul-le-mul_left (visits_of x) (start_rises N i j h))

  -- each lies on free positions, no two visits on one
  pub film_lays : (i : ℕ) → i < F → Laying (free_for x P N i) (visits_of x * N i) (laying_in x P N i)
  film_lays i u = laying_lays x (free_for x P N i) (N i) (film_room i u)

  -- below P
  pub film_below : (i v : ℕ) → i < F → v < visits_of x * N i → laying_in x P N i v < P
  film_below i v u h = omega (arith, (film_lays i u).into v h)

  -- on the highest of them, all above those of a later film
  pub film_above : (i j v w : ℕ) → i < j → j < F → v < visits_of x * N i → w < visits_of x * N j → laying_in x P N j w < laying_in x P N i v
  film_above i j v w l u h k =
      omega (
        arith,
        laying_high x (free_for x P N i) (N i) v (film_room i (omega arith)) h,
        free_next i (omega arith),
        free_falls (suc i) j l,
        (film_lays j u).into w k,
      )

  -- NO LAYING OF A FILM ON THE POSITIONS THAT WERE FREE HAS A SMALLER WORST TIME OF ITS OWN
  pub film_best : (i : ℕ) → i < F → 1 < N i → (τ : ℕ → ℕ) → Falling P τ → (l : ℕ → ℕ) → Laying (free_for x P N i) (visits_of x * N i) l
      → worst_of x τ (laying_in x P N i) (N i) ≤ worst_of x τ l (N i)
  film_best i u two τ falls l lay =
      laying_best x (free_for x P N i) (N i) (film_room i u) two τ (falling_less P (free_for x P N i) τ (omega arith) falls) l lay
