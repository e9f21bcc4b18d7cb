use Rattle.std.proofs.Common.{refl, ◌∙◌}
use Rattle.numbers.specs.Numbered.{number_some, handed_on, refused_is, accepted_is}
use Rattle.card_field.specs.RangeLaws.{first_stops, first_goes}
use Rattle.card.specs.Card.{film_fault}
use Rattle.card.proofs.judge.fault_of_film.Goals as goal

pub returns-in_err-fault_of_shelf : goal.returns-in_err-fault_of_shelf
unfolding film_fault
returns-in_err-fault_of_shelf c =
    handed_on _ _ c.from_residual.ensures.1
    ∙ first_stops (refused_is c.in_err-fault_of_shelf.was c.fault_of_shelf.ensures) _ (number_some _)

pub returns-in_err-fault : goal.returns-in_err-fault
unfolding film_fault
returns-in_err-fault c =
    handed_on _ _ c.from_residual-in_err-fault.ensures.1
    ∙ first_stops (refused_is c.in_err-fault.was c.fault.ensures) _ (number_some _)
    ∙ first_goes (accepted_is c.in_ok-fault_of_shelf.was c.fault_of_shelf.ensures) _ refl

pub returns-in_err-fault-2 : goal.returns-in_err-fault-2
unfolding film_fault
returns-in_err-fault-2 c =
    handed_on _ _ c.from_residual-in_err-fault-2.ensures.1
    ∙ first_stops (refused_is c.in_err-fault-2.was c.fault-2.ensures) _ (number_some _)
    ∙ first_goes (accepted_is c.in_ok-fault.was c.fault.ensures) _ refl
    ∙ first_goes (accepted_is c.in_ok-fault_of_shelf.was c.fault_of_shelf.ensures) _ refl

pub returns : goal.returns
unfolding film_fault
returns c =
    c.fault_of_table.ensures
    ∙ first_goes (accepted_is c.in_ok-fault-2.was c.fault-2.ensures) _ refl
    ∙ first_goes (accepted_is c.in_ok-fault.was c.fault.ensures) _ refl
    ∙ first_goes (accepted_is c.in_ok-fault_of_shelf.was c.fault_of_shelf.ensures) _ refl
