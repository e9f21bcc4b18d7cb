-- Laws of what specs/Films defines.
use Prim.Native.Nat.{◌*◌}
use native.Mathlib.Omega.{arith}
use Rattle.words.specs.Words.{Words}
use Rattle.card.specs.declared.Figures.{Figures}
use Rattle.card.specs.Card.{Legal, length_in}
use Rattle.placement.specs.Showing.{Showing, visits_of}
use Rattle.plan.specs.Plan.{position_in, lead_in, positions_of, leads_of}
use Rattle.plan.proofs.Legal.{position_below, lead_small}
use Rattle.plan.specs.Films.{rows_words}

-- ---- the two lists of a plan

module _ (x : Showing) (f : Figures) where
  -- of legal figures they are numbers of 32 bits
  module _ (ok : Legal (visits_of x) f) where
    pub positions_words : Words (positions_of x f)
    unfolding positions_of
    positions_words = rows_words (position_in x f) (λ i. visits_of x * length_in f i) f.films
        (λ i v u h. omega (arith, position_below x f ok i v u h, ok.total))

    pub leads_words : Words (leads_of x f)
    unfolding leads_of
    leads_words = rows_words (lead_in x f) (length_in f) f.films (λ i b u h. omega (arith, lead_small x f ok i b u h))
