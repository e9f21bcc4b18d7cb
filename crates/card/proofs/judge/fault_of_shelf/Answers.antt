use Rattle.std.proofs.Common.{refl, sym, ◌∙◌}
use Rattle.numbers.specs.Numbered.{number_some, handed_on, refused_is, accepted_is}
use Rattle.card_field.specs.RangeLaws.{first_stops, first_goes, films_range}
use Rattle.card.specs.Card.{shelf_fault}
use Rattle.card.proofs.judge.fault_of_shelf.Goals as goal

pub returns-in_err-fault : goal.returns-in_err-fault
unfolding shelf_fault
returns-in_err-fault c =
    handed_on _ _ c.from_residual.ensures.1 ∙ first_stops (refused_is c.in_err-fault.was c.fault.ensures) _ (number_some _)

pub fault_of_idle-requires : goal.fault_of_idle-requires
fault_of_idle-requires c = ((films_range 0 _ (sym (accepted_is c.in_ok-fault.was c.fault.ensures))).1, c.requires)

pub returns-in_err-fault_of_idle : goal.returns-in_err-fault_of_idle
unfolding shelf_fault
returns-in_err-fault_of_idle c =
    handed_on _ _ c.from_residual-in_err-fault_of_idle.ensures.1
    ∙ first_stops (refused_is c.in_err-fault_of_idle.was c.fault_of_idle.ensures) _ (number_some _)
    ∙ first_goes (accepted_is c.in_ok-fault.was c.fault.ensures) _ refl

pub fault_of_lengths-requires : goal.fault_of_lengths-requires
fault_of_lengths-requires c = (films_range 0 _ (sym (accepted_is c.in_ok-fault.was c.fault.ensures))).1

pub returns : goal.returns
unfolding shelf_fault
returns c =
    c.fault_of_lengths.ensures
    ∙ first_goes (accepted_is c.in_ok-fault_of_idle.was c.fault_of_idle.ensures) _ refl
    ∙ first_goes (accepted_is c.in_ok-fault.was c.fault.ensures) _ refl
