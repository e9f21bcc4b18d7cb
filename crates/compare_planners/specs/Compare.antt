-- Both planners on one card, and what is counted (document 02, ticket 13).
use Rattle.std.specs.Prelude.{ℕ, ◌+◌, cond, List, replicate, eqb}
use Rattle.card.specs.Read.{read_card}
use Rattle.placement.specs.Showing.{Showing}
use Rattle.plan.specs.Answer.{planned}
use Rattle.try_all.specs.Answer.{tried}
use Rattle.compare_planners.specs.declared.compare.Tally.{Tally}

-- 1 where two worst2 are unequal
unfoldable pub unequal_of : ℕ → ℕ → ℕ
unequal_of a b = cond (eqb a b) 0 1

-- a list of eight entries, as it is lent to the planner
unfoldable pub eight : List ℕ
eight = replicate 32 0

-- of a card in a showing (T13.4)
unfoldable pub unequal_on : Showing → List ℕ → ℕ
unequal_on x card = unequal_of (planned x (read_card 1 card) eight eight).plan.worst2 (tried x (read_card 1 card)).worst2

-- one card more, with so many unequal worst2
unfoldable pub counted_with : Tally → ℕ → Tally
counted_with t n = record { cards = t.cards + 1; unequal = t.unequal + n }
