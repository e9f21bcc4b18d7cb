use Rattle.std.proofs.Common.{arith}
use Rattle.desk_calls.specs.Limits.{limit_other, limit_past, limit_read}
use Rattle.sweep_strings.proofs.draw_limit.Goals as goal

pub returns-then-desk-ne-DESK_BYTES : goal.returns-then-desk-ne-DESK_BYTES
returns-then-desk-ne-DESK_BYTES c = limit_other _ _ _ c.if-desk-ne-DESK_BYTES.true

pub returns-then-slot-ge-MAX_STREAMS : goal.returns-then-slot-ge-MAX_STREAMS
returns-then-slot-ge-MAX_STREAMS c = limit_past _ _ _ c.if-desk-ne-DESK_BYTES.false (omega (arith, c.if-slot-ge-MAX_STREAMS.true))

pub kind_in-requires : goal.kind_in-requires
kind_in-requires c = omega (arith, c.if-slot-ge-MAX_STREAMS.false, c.if-desk-ne-DESK_BYTES.false)

pub rate_in-requires : goal.rate_in-requires
rate_in-requires c = omega (arith, c.if-desk-ne-DESK_BYTES.false)

pub returns : goal.returns
returns c =
    limit_read _ _ _ c.if-desk-ne-DESK_BYTES.false c.if-slot-ge-MAX_STREAMS.false _ c.kind_in.ensures c.rate_in.ensures c.most_drawn.ensures
    c.draw_limit.ensures
