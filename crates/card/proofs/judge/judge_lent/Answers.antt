use Rattle.std.proofs.Common.{refl, sym, ap, ◌∙◌}
use Rattle.numbers.specs.Numbered.{number_some, handed_on, refused_is, accepted_is}
use Rattle.card_field.specs.RangeLaws.{first_stops, first_goes, zones_range}
use Rattle.card.specs.Read.{figures_from}
use Rattle.card.specs.Card.{film_fault, fault_with, unused_zero, record_fault}
use Rattle.card.proofs.judge.judge_lent.Goals as goal

pub returns-in_err-fault : goal.returns-in_err-fault
unfolding record_fault
returns-in_err-fault c =
    handed_on _ _ c.from_residual.ensures.1 ∙ first_stops (refused_is c.in_err-fault.was c.fault.ensures) _ (number_some _)

pub returns-in_err-fault-2 : goal.returns-in_err-fault-2
unfolding record_fault
returns-in_err-fault-2 c =
    handed_on _ _ c.from_residual-in_err-fault-2.ensures.1
    ∙ first_stops (refused_is c.in_err-fault-2.was c.fault-2.ensures) _ (number_some _)
    ∙ first_goes (accepted_is c.in_ok-fault.was c.fault.ensures) _ refl

pub fault_of_unused-requires : goal.fault_of_unused-requires
fault_of_unused-requires c =
    ((zones_range 0 _ (sym (accepted_is c.in_ok-fault-2.was c.fault-2.ensures))).1, c.requires.0, c.requires.1)

pub returns-in_err-fault_of_unused : goal.returns-in_err-fault_of_unused
unfolding record_fault unused_zero
returns-in_err-fault_of_unused c =
    handed_on _ _ c.from_residual-in_err-fault_of_unused.ensures.1
    ∙ first_stops (refused_is c.in_err-fault_of_unused.was c.fault_of_unused.ensures) _ (number_some _)
    ∙ first_goes (accepted_is c.in_ok-fault-2.was c.fault-2.ensures) _ refl
    ∙ first_goes (accepted_is c.in_ok-fault.was c.fault.ensures) _ refl

pub fault_of_zones-requires : goal.fault_of_zones-requires
fault_of_zones-requires c = (zones_range 0 _ (sym (accepted_is c.in_ok-fault-2.was c.fault-2.ensures))).1

pub returns-in_err-total : goal.returns-in_err-total
unfolding record_fault unused_zero fault_with
returns-in_err-total c =
    let a = c.args in
    handed_on _ _ c.from_residual-in_err-total.ensures.1
    ∙ ap (fault_with a.visits (figures_from a.figures a.positions.now a.times.now a.table.now)) (sym c.in_err-total.was)
    ∙ c.fault_of_zones.ensures _ _ _
    ∙ first_goes (accepted_is c.in_ok-fault_of_unused.was c.fault_of_unused.ensures) _ refl
    ∙ first_goes (accepted_is c.in_ok-fault-2.was c.fault-2.ensures) _ refl
    ∙ first_goes (accepted_is c.in_ok-fault.was c.fault.ensures) _ refl

pub returns : goal.returns
unfolding record_fault unused_zero fault_with film_fault
returns c =
    let a = c.args in
    c.fault_of_film.ensures
    ∙ ap (fault_with a.visits (figures_from a.figures a.positions.now a.times.now a.table.now)) (sym c.in_ok-total.was)
    ∙ c.fault_of_zones.ensures _ _ _
    ∙ first_goes (accepted_is c.in_ok-fault_of_unused.was c.fault_of_unused.ensures) _ refl
    ∙ first_goes (accepted_is c.in_ok-fault-2.was c.fault-2.ensures) _ refl
    ∙ first_goes (accepted_is c.in_ok-fault.was c.fault.ensures) _ refl
