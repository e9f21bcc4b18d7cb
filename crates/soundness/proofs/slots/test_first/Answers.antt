use Rattle.std.proofs.Common.{arith}
use Rattle.desk_layout.specs.Sized.{wide_in}
use Rattle.soundness.proofs.Unset.{unset_none, unset_next}
use Rattle.soundness.proofs.slots.test_first.Goals as goal

pub loop-i-init : goal.loop-i-init
loop-i-init g c = unset_none _ _

pub loop-i-preserved : goal.loop-i-preserved
loop-i-preserved g c =
    let l = c.loop-i in
    let q = c.requires in
    unset_next _ _ l.bits l.asked l.i l.invariant c.loop-i-test.true (omega (arith, q.few, (wide_in c.args.desk.now q.long).kinds)) _ _ _ _ _
    c.kind_in-kind.ensures c.place_in.ensures c.untidy_at-slot.ensures c.idle_place.ensures c.asking-asked.ensures
