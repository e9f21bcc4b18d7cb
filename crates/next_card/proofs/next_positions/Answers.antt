use Rattle.std.proofs.Common.{ap, ◌∙◌}
use Rattle.small_cards.specs.Next.{positions_more}
use Rattle.next_card.proofs.next_positions.Goals as goal

pub returns-in-Ok : goal.returns-in-Ok
unfolding positions_more
returns-in-Ok c = ap (positions_more c.args.card c.args.times) c.in-Ok.ensures

pub returns-in-Err : goal.returns-in-Err
unfolding positions_more
returns-in-Err c = c.next_zone.ensures ∙ ap (positions_more c.args.card c.args.times) c.in-Err.ensures
