use Rattle.std.proofs.Common.{arith, ◌∙◌}
use Rattle.std.proofs.Math.ListN.{length-set}
use Rattle.grants.proofs.Starting.{started_none, started_turn, started_end}
use Rattle.grants.proofs.start_playing.Goals as goal

pub loop-i-init : goal.loop-i-init
loop-i-init c = record { long = c.requires.1; started = λ p xs w. started_none p _ _ xs _ w _ }

pub loop-i-preserved : goal.loop-i-preserved
loop-i-preserved c =
    let l = c.loop-i in
    record {
      long = length-set l.kinds l.i _ ∙ l.invariant.long;
      started = λ p xs w. started_turn p _ _ xs _ w c.args.mark l.i c.started_kind.result l.kinds l.invariant.long (l.invariant.started p xs w)
          (omega arith) c.started_kind.ensures;
    }

pub returns : goal.returns
returns c = λ p xs w. started_end p _ _ xs _ w _ c.loop-i.i c.loop-i.kinds (c.loop-i.invariant.started p xs w) (omega arith)
