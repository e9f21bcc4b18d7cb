use Rattle.std.proofs.Common.{arith}
use Rattle.card_writer.proofs.WriterWays.{put_written, put_counted}
use Rattle.card_writer.proofs.writing.put_number.Goals as goal

pub write_number-requires : goal.write_number-requires
write_number-requires c = c.requires.written c.if-write.true

pub returns-then-write : goal.returns-then-write
returns-then-write c = put_written c.if-write.true c.write_number.ensures

pub overflow_add-result : goal.overflow_add-result
overflow_add-result c = omega (arith, c.requires.counted, c.number_length.ensures.0)

pub returns : goal.returns
returns c = put_counted c.if-write.false c.number_length.ensures.0
