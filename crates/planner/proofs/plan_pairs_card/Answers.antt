use mathlib.Core.Bool.{true}
use Rattle.placement.specs.Showing.{pairs}
use Rattle.words.specs.Laws.{bytes_fit}
use Rattle.plan.specs.Plan.{showing_of}
use Rattle.plan.specs.Check.{showing_back}
use Rattle.round_trip.specs.RoundTrip.{card_legal}
use Rattle.plan.specs.Ways.{outcome_same}
use Rattle.planner.proofs.plan_pairs_card.Goals as goal

pub plan_figures-requires : goal.plan_figures-requires
unfolding showing_of
plan_figures-requires c = let s = c.args.card.now in
    card_legal 2 s (bytes_fit s c.shared_slice_known-1.given) c.read_card_of.result c.read_card_of.ensures

pub returns : goal.returns
returns c = let a = c.args in
    outcome_same true a.positions.now a.leads.now _ _ _ (showing_back pairs) c.read_card_of.ensures c.plan_figures.ensures
