use Rattle.std.proofs.Common.{sym, ◌∙◌, arith}
use Rattle.card.proofs.JudgeWays.{zeros_rest, unused_clear, unused_positions, unused_times}
use Rattle.card.proofs.judge.fault_of_unused.Goals as goal
use Rattle.card.proofs.judge.fault_of_unused.Goals.{else-all_zero-via-then-all_zero+else-all_zero-2, else-all_zero-via-else-all_zero}

pub returns-then-all_zero-2 : goal.returns-then-all_zero-2
returns-then-all_zero-2 c =
    unused_clear _ _ _ (sym (zeros_rest _ _ c.args.positions.now (omega arith)) ∙ sym c.all_zero.ensures ∙ c.if-all_zero.true)
    (sym (zeros_rest _ _ c.args.times.now (omega arith)) ∙ sym c.all_zero-then-all_zero.ensures ∙ c.if-all_zero-2.true)

pub returns : goal.returns
returns c =
    let positions = sym (zeros_rest _ _ c.args.positions.now (omega arith)) ∙ sym c.all_zero.ensures in
    elim c.else-all_zero.branch [
      | else-all_zero-via-then-all_zero+else-all_zero-2 w ↦
          unused_times _ _ _ (positions ∙ w.if-all_zero.true)
          (sym (zeros_rest _ _ c.args.times.now (omega arith)) ∙ sym w.all_zero-then-all_zero.ensures ∙ w.if-all_zero-2.false)
      | else-all_zero-via-else-all_zero w ↦ unused_positions _ _ _ (positions ∙ w.if-all_zero.false)
    ]
