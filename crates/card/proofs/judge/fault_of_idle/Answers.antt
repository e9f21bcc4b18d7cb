use Rattle.std.proofs.Common.{sym, ◌∙◌, arith}
use Rattle.card.proofs.JudgeWays.{zeros_rest}
use Rattle.card.proofs.judge.fault_of_idle.Goals as goal

pub returns-then-all_zero : goal.returns-then-all_zero
returns-then-all_zero c = rw (sym (zeros_rest _ _ c.args.blocks.now (omega arith)) ∙ sym c.all_zero.ensures ∙ c.if-all_zero.true)

pub returns : goal.returns
returns c = rw (sym (zeros_rest _ _ c.args.blocks.now (omega arith)) ∙ sym c.all_zero.ensures ∙ c.if-all_zero.false)
