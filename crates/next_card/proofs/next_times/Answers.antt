use Rattle.std.proofs.Common.{ap, ◌∙◌}
use Rattle.small_cards.specs.Next.{times_more}
use Rattle.next_card.proofs.next_times.Goals as goal

pub returns-in-Ok : goal.returns-in-Ok
unfolding times_more
returns-in-Ok c = ap (times_more c.args.card) c.in-Ok.ensures

pub returns-in-Err : goal.returns-in-Err
unfolding times_more
returns-in-Err c = c.next_positions.ensures ∙ ap (times_more c.args.card) c.in-Err.ensures
