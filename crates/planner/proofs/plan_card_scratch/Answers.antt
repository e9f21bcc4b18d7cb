use mathlib.Core.Bool.{false}
use Rattle.placement.specs.Showing.{one}
use Rattle.words.specs.Laws.{bytes_fit}
use Rattle.plan.specs.Plan.{showing_of}
use Rattle.plan.specs.Check.{showing_back}
use Rattle.round_trip.specs.RoundTrip.{card_legal}
use Rattle.plan.specs.Scratch.{planned_scratch, positions_scratch}
use Rattle.plan.specs.Ways.{outcome_same}
use Rattle.planner.proofs.plan_card_scratch.Goals as goal

pub plan_figures-requires : goal.plan_figures-requires
unfolding showing_of
plan_figures-requires c = let s = c.args.card.now in
    card_legal 1 s (bytes_fit s c.shared_slice_known-1.given) c.read_card.result c.read_card.ensures

pub returns : goal.returns
unfolding planned_scratch positions_scratch
returns c = let a = c.args in
    outcome_same false a.positions.now a.scratch.now _ _ _ (showing_back one) c.read_card.ensures c.plan_figures.ensures
