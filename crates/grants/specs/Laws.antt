-- The places of sound slots are queued.
-- Assumes nothing.
use Rattle.std.specs.Prelude.{ℕ, suc, ◌≡◌, length, get_or, eqb}
use Rattle.std.proofs.Math.Path.{refl}
use Rattle.std.proofs.Common.{sym, ap, ◌∙◌, arith, lt-ltb, le-ltb, eq-eqb, ne_eqb}
use Rattle.std.proofs.Math.Logic.{by_cases}
use mathlib.Core.List.{List, [], ◌∷◌}
use Rattle.std.proofs.Math.Decide.{ℕ_discrete}
use Rattle.laws.specs.Bools.{bit}
use Rattle.laws.specs.Runs.{sum_by}
use Rattle.numbers.specs.Limits.{max_streams}
use Rattle.numbers.specs.Slots.{waiting}
use Rattle.rules.specs.Supply.{Supply}
use Rattle.rules.specs.Scheduler.{Slot, at}
use Rattle.rules.specs.Order.{waiting_count}
use Rattle.turns.specs.Facts.{FreeFrom}
use Rattle.turns.specs.Places.{Places}
use Rattle.grants.specs.Line.{taken, asking, Queued}

module _ (p : Supply ℕ) where
  -- as many places are taken as slots ask
  same_count : (ss : List (Slot ℕ)) (qs : List ℕ) → length qs ≡ length ss → ((i : ℕ) → taken (get_or qs i 0) ≡ bit (eqb (at p ss i).kind waiting))
      → asking qs ≡ waiting_count p ss
  unfolding asking waiting_count sum_by
  same_count [] [] l h = refl
  same_count [] (x ∷ qs) l h = absurd (omega arith)
  same_count (s ∷ ss) [] l h = absurd (omega arith)
  same_count (s ∷ ss) (x ∷ qs) l h = omega (arith, h 0, same_count ss qs (omega arith) (λ i. h (suc i)))

  module _ (n : ℕ) (ss : List (Slot ℕ)) (qs : List ℕ) (long : length ss ≡ max_streams) (u : FreeFrom p n ss) (q : Places p ss qs) where
    -- a place is taken where the slot asks
    one_asks : (i : ℕ) → taken (get_or qs i 0) ≡ bit (eqb (at p ss i).kind waiting)
    one_asks i =
        by_cases (ℕ_discrete (at p ss i).kind waiting)
        (λ e. ap bit (lt-ltb 0 (get_or qs i 0) (q.named i e) ∙ sym (eq-eqb (at p ss i).kind waiting e)))
        (λ e. ap bit (le-ltb 0 (get_or qs i 0) (omega (arith, q.idle i e)) ∙ sym (ne_eqb (at p ss i).kind waiting e)))

    pub places_queued : Queued qs n
    places_queued = record {
      long = q.long ∙ long;
      unused = λ i l. q.idle i (λ e. omega (arith, u i l));
      low = λ i. omega (arith, q.low i, same_count ss qs q.long one_asks);
      apart = q.apart;
    }
