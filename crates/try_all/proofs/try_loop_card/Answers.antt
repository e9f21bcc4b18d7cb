use mathlib.Core.Path.{ap, ap₂, ◌∙◌}
use Rattle.words.specs.Laws.{bytes_fit}
use Rattle.placement.specs.Showing.{loop, walked}
use Rattle.plan.specs.Check.{showing_back}
use Rattle.round_trip.specs.RoundTrip.{card_legal}
use Rattle.try_all.specs.Answer.{tried}
use Rattle.try_all.proofs.try_loop_card.Goals as goal

pub try_figures-requires : goal.try_figures-requires
try_figures-requires c = let s = c.args.card.now in
    card_legal 1 s (bytes_fit s c.shared_slice_known-1.given) c.read_card.result c.read_card.ensures

pub returns : goal.returns
returns c = c.try_figures.ensures ∙ ap₂ tried (ap walked (showing_back loop)) c.read_card.ensures
