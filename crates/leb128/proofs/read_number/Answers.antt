use Rattle.std.proofs.Common.{◌≡◌, ◌+◌, ◌-◌, ◌*◌, ◌%◌, ◌^◌, ◌<◌, get_or, refl, sym, ◌∙◌, arith}
use Rattle.leb128.specs.NumberLaws.{scan_number}
use Rattle.leb128.proofs.NumberWays.{next_weight, room_sum, room_more, scan_none, scan_short, scan_last, scan_more}
use Rattle.leb128.proofs.read_number.Goals as goal

pub loop-turn-init : goal.loop-turn-init
loop-turn-init c = (scan_number _ _, record { whole = refl; below = omega arith }, omega arith)

pub returns-then-s-at : goal.returns-then-s-at
returns-then-s-at c = sym (scan_short _ _ _ _ _ _ (omega arith) c.if-s-at.true) ∙ c.loop-turn.invariant.0

pub returns-then-b-lt128 : goal.returns-then-b-lt128
returns-then-b-lt128 c =
    c.last_group.ensures ∙ sym (scan_last _ _ _ _ _ _ (omega arith) c.if-s-at.false c.if-b-lt128.true) ∙ c.loop-turn.invariant.0

pub loop-turn-preserved : goal.loop-turn-preserved
loop-turn-preserved c =
    let l = c.loop-turn in
    let left : 0 < 5 - l.turn = omega arith in
    let g = get_or c.args.s.now l.at 0 % 128 in
    let small : g < 128 = omega arith in
    let fits = room_sum _ _ _ _ l.invariant.1 left small in
    let whole : g * 2 ^ l.shift % 2 ^ 64 ≡ g * 2 ^ l.shift = omega arith in
    let fewer : 5 - (l.turn + 1) ≡ 5 - l.turn - 1 = omega arith in
    rw (whole, fewer) (
      rw (next_weight l.shift) (sym (scan_more _ _ _ _ _ _ left c.if-s-at.false c.if-b-lt128.false) ∙ l.invariant.0),
      room_more _ _ _ _ l.invariant.1 left small,
      omega arith,
    )

pub returns : goal.returns
returns c = sym (scan_none _ _ _ _ _ _ (omega arith)) ∙ c.loop-turn.invariant.0
