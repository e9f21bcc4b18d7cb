-- A number's groups, or those of one that is too great, fit the room.
use Rattle.std.proofs.Common.{arith, ap, length, length-set, ◌∙◌}
use Rattle.decimal.specs.DecimalLaws.{capped_small}
use Rattle.leb128.specs.NumberLaws.{groups_long}
use Rattle.mkcard.proofs.WordWays.{groups_great, great_long, put_great}
use Rattle.mkcard.proofs.make.write_word.Goals as goal

pub write_number-requires : goal.write_number-requires
write_number-requires c = omega (arith, groups_long c.args.value c.if-value-lt-NO_NUMBER.true, c.requires)

pub returns-then-value-lt-NO_NUMBER : goal.returns-then-value-lt-NO_NUMBER
returns-then-value-lt-NO_NUMBER c = rw (capped_small c.args.value c.if-value-lt-NO_NUMBER.true) c.write_number.ensures

pub write_number-requires-2 : goal.write_number-requires-2
write_number-requires-2 c = omega (arith, great_long, length-set c.args.out.now c.args.at 128, c.requires)

pub returns : goal.returns
returns c =
    let a = c.args in
    let e = c.write_number-2.ensures in
    let h = c.if-value-lt-NO_NUMBER.false in
    (omega (arith, e.0, ap length (groups_great a.value h)), e.1 ∙ put_great a.out.now a.at a.value c.requires h)
