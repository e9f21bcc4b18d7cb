use Rattle.std.proofs.Common.{refl, ◌∙◌}
use Rattle.numbers.specs.Numbered.{number_some, handed_on, refused_is, accepted_is}
use Rattle.card_field.specs.Ranges.{then_above, then_below, fault_of}
use Rattle.card_field.specs.RangeLaws.{first_stops, first_goes}
use Rattle.card_field.proofs.FieldWays.{by_rule}
use Rattle.card_field.proofs.fault.Goals as goal

pub returns-in-Kind : goal.returns-in-Kind
unfolding fault_of
returns-in-Kind c = c.outside.ensures ∙ by_rule _ _ c.in-Kind.is

pub returns-in-Zones : goal.returns-in-Zones
unfolding fault_of
returns-in-Zones c = c.outside-in-Zones.ensures ∙ by_rule _ _ c.in-Zones.is

pub returns-in_err-outside-in-Positions : goal.returns-in_err-outside-in-Positions
unfolding fault_of then_above
returns-in_err-outside-in-Positions c =
    handed_on _ _ c.from_residual.ensures.1
    ∙ first_stops (refused_is c.in_err-outside-in-Positions.was c.outside-in-Positions.ensures) _ (number_some _)
    ∙ by_rule _ _ c.in-Positions.is

pub returns-in_ok-outside-in-Positions : goal.returns-in_ok-outside-in-Positions
unfolding fault_of then_above
returns-in_ok-outside-in-Positions c =
    c.above.ensures
    ∙ first_goes (accepted_is c.in_ok-outside-in-Positions.was c.outside-in-Positions.ensures) _ refl
    ∙ by_rule _ _ c.in-Positions.is

pub returns-in-Films : goal.returns-in-Films
unfolding fault_of
returns-in-Films c = c.outside-in-Films.ensures ∙ by_rule _ _ c.in-Films.is

pub returns-in-Measure : goal.returns-in-Measure
unfolding fault_of
returns-in-Measure c = c.outside-in-Measure.ensures ∙ by_rule _ _ c.in-Measure.is

pub returns-in_err-outside-in-Overhead : goal.returns-in_err-outside-in-Overhead
unfolding fault_of then_below
returns-in_err-outside-in-Overhead c =
    handed_on _ _ c.from_residual-in_err-outside-in-Overhead.ensures.1
    ∙ first_stops (refused_is c.in_err-outside-in-Overhead.was c.outside-in-Overhead.ensures) _ (number_some _)
    ∙ by_rule _ _ c.in-Overhead.is

pub returns-in_ok-outside-in-Overhead : goal.returns-in_ok-outside-in-Overhead
unfolding fault_of then_below
returns-in_ok-outside-in-Overhead c =
    c.below.ensures
    ∙ first_goes (accepted_is c.in_ok-outside-in-Overhead.was c.outside-in-Overhead.ensures) _ refl
    ∙ by_rule _ _ c.in-Overhead.is
