use Rattle.std.proofs.Common.{arith}
use Rattle.block_lists.proofs.Runs.{compares_start, compares_one, compares_end}
use Rattle.block_lists.proofs.same_each.Goals as goal

pub loop-b-init : goal.loop-b-init
loop-b-init g c = λ h gives. compares_start _ h _ _ c.requires.within.order

pub loop-b-preserved : goal.loop-b-preserved
loop-b-preserved g c =
    λ h gives. compares_one (c.loop-b.invariant h gives) (omega arith) c.requires.within.long c.both-same.ensures c.word_at-have.ensures
    (gives c.loop-b.b c.entry.result (omega arith) (omega arith) c.entry.ensures)

pub returns : goal.returns
returns g c = λ h gives. compares_end (c.loop-b.invariant h gives) (omega arith)
