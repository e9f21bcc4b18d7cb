use Rattle.std.proofs.Common.{arith, rules, ◌≡◌, length}
use Rattle.next_card.proofs.Ways.{zone_past, zone_more_law}
use Rattle.next_card.proofs.next_zone.Goals as goal

pub returns-then-at-ge3 : goal.returns-then-at-ge3
returns-then-at-ge3 c =
    let p : length c.args.positions ≡ 3 = search rules in
    let t : length c.args.times ≡ 3 = search rules in
    zone_past c.args.card c.args.positions c.args.times (omega arith) (omega arith)

pub returns : goal.returns
returns c = zone_more_law c.args.card c.args.positions c.args.times
