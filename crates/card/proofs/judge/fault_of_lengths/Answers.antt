use Rattle.std.proofs.Common.{refl, sym, ◌∙◌, arith}
use Rattle.std.proofs.lemmas.List.{get_or-take}
use Rattle.numbers.specs.Numbered.{number_some, handed_on, refused_is, accepted_is}
use Rattle.card_field.specs.RangeLaws.{blocks_range}
use Rattle.card.proofs.JudgeWays.{row_done, row_stops, row_more}
use Rattle.card.proofs.judge.fault_of_lengths.Goals as goal

pub returns-in_err-fault_of_blocks : goal.returns-in_err-fault_of_blocks
returns-in_err-fault_of_blocks c =
    let l = c.loop-n in
    let same = get_or-take c.args.films c.args.blocks.now l.n-index 0 (omega arith) in
    handed_on _ _ c.from_residual.ensures.1
    ∙ row_stops _ _ _ _ _ _ (omega arith) (rw same at (refused_is c.in_err-fault_of_blocks.was c.fault_of_blocks.ensures)) (number_some _)
    ∙ l.invariant.same

pub overflow_add-sofar : goal.overflow_add-sofar
overflow_add-sofar c =
    omega (arith, (blocks_range _ _ _ _ (sym (accepted_is c.in_ok-fault_of_blocks.was c.fault_of_blocks.ensures))).2)

pub loop-n-preserved : goal.loop-n-preserved
loop-n-preserved c =
    let l = c.loop-n in
    let same = get_or-take c.args.films c.args.blocks.now l.n-index 0 (omega arith) in
    let good = accepted_is c.in_ok-fault_of_blocks.was c.fault_of_blocks.ensures in
    record {
      few = (blocks_range _ _ _ _ (sym good)).2;
      same = rw same (row_more _ _ _ _ _ _ _ (omega arith) (rw same at good) refl ∙ l.invariant.same);
    }

pub returns : goal.returns
returns c = row_done _ _ _ _ _ _ (omega arith) ∙ c.loop-n.invariant.same
