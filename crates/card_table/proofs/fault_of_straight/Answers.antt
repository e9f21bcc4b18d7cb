use Rattle.std.proofs.Common.{ℕ, cond, refl, sym, ap, ◌∙◌}
use Rattle.numbers.specs.Limits.{max_move, table_length}
use Rattle.numbers.specs.Refusals.{wrong_measure}
use Rattle.numbers.specs.Numbered.{number_some, handed_on, refused_is, accepted_is}
use Rattle.card_field.specs.declared.Rule.TheVariants.{Measure}
use Rattle.card_field.specs.Ranges.{fault_of}
use Rattle.card_field.specs.RangeLaws.{measure_range, first_stops, first_goes}
use Rattle.card_table.specs.Table.{back_in, is_line, straight_fault}
use Rattle.card_table.proofs.fault_of_straight.Goals as goal

pub returns-in-Err : goal.returns-in-Err
unfolding straight_fault
returns-in-Err c =
    first_stops (refused_is c.in-Err.is (c.fault.ensures ∙ ap (fault_of Measure max_move) c.hop_in-hop.ensures)) _ (number_some _)

pub returns-in_err-fault : goal.returns-in_err-fault
unfolding straight_fault
returns-in_err-fault c =
    handed_on _ _ c.from_residual.ensures.1
    ∙ first_stops (refused_is c.in_err-fault.was c.fault-2.ensures) _ (number_some _)
    ∙ first_goes (accepted_is c.in_default.is (c.fault.ensures ∙ ap (fault_of Measure max_move) c.hop_in-hop.ensures)) _ refl

pub fault_of_line-requires : goal.fault_of_line-requires
fault_of_line-requires c =
    let hop = measure_range max_move _ (sym (accepted_is c.in_default.is c.fault.ensures)) in
    let back = measure_range max_move _ (sym (accepted_is c.in_ok-fault.was c.fault-2.ensures)) in
    (hop.1, back.1)

pub returns : goal.returns
unfolding straight_fault
returns c =
    let t = c.args.table.now in
    c.fault_of_line.ensures
    ∙ ap (λ (h : ℕ). cond (is_line table_length 0 t h (back_in t)) 0 wrong_measure) c.hop_in-hop.ensures
    ∙ first_goes (accepted_is c.in_ok-fault.was c.fault-2.ensures) _ refl
    ∙ first_goes (accepted_is c.in_default.is (c.fault.ensures ∙ ap (fault_of Measure max_move) c.hop_in-hop.ensures)) _ refl
