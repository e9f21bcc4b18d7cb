-- Each turn compares one small card more.
use Rattle.std.proofs.Common.{◌-◌, length}
use Rattle.small_cards.specs.Cards.{small_cards}
use Rattle.compare_planners.proofs.Comparing.{Comparing}
use Rattle.compare_planners.proofs.compare.compare_all.Given as goal

abbrev pub invariant-loop-card : goal.invariant-loop-card
invariant-loop-card l = Comparing l.tally l.card

abbrev pub decreases-loop-card : goal.decreases-loop-card
decreases-loop-card l = length small_cards - l.tally.cards
