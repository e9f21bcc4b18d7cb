use Rattle.std.proofs.Common.{rules, sym, ◌∙◌, get_or}
use Rattle.draws.specs.Draws.{kind_limit}
use Rattle.draws.proofs.Drawing.{found_first, found_none, judged_length, judged_excess, judged_overdrawn, judged_accepted}
use Rattle.draws.proofs.judge_draws.Goals as goal

pub returns-then-entries-streams : goal.returns-then-entries-streams
returns-then-entries-streams c = λ p v xs o. judged_length p v _ _ _ xs _ o _ (λ z. c.if-entries-streams.true (c.entries.ensures ∙ z))

pub returns-then-excess-streams : goal.returns-then-excess-streams
returns-then-excess-streams c = λ p v xs o.
    let count = sym c.entries.ensures ∙ c.if-entries-streams.false in
    judged_excess p v _ _ _ xs _ o _ c.requires count c.unwrap_or-excess.result
    (found_first _ _ count _ (c.first_above.ensures (λ j. kind_limit c.args.most (get_or c.args.kinds.now j 0)) (λ i m l q. search rules))
    c.unwrap_or-excess.ensures c.if-excess-streams.true)

pub returns-then-overdrawn-streams : goal.returns-then-overdrawn-streams
returns-then-overdrawn-streams c = λ p v xs o.
    let count = sym c.entries.ensures ∙ c.if-entries-streams.false in
    judged_overdrawn p v _ _ _ xs _ o _ c.requires count
    (found_none _ _ count _ (c.first_above.ensures (λ j. kind_limit c.args.most (get_or c.args.kinds.now j 0)) (λ i m l q. search rules))
    c.unwrap_or-excess.ensures c.if-excess-streams.false) c.unwrap_or-overdrawn.result
    (found_first _ _ count _ (c.first_above-2.ensures (λ j. get_or c.args.held.now j 0) (λ i m l q. search rules))
    c.unwrap_or-overdrawn.ensures c.if-overdrawn-streams.true)

pub returns : goal.returns
returns c = λ p v xs o.
    let count = sym c.entries.ensures ∙ c.if-entries-streams.false in
    judged_accepted p v _ _ _ xs _ o _ c.requires count
    (found_none _ _ count _ (c.first_above.ensures (λ j. kind_limit c.args.most (get_or c.args.kinds.now j 0)) (λ i m l q. search rules))
    c.unwrap_or-excess.ensures c.if-excess-streams.false)
    (found_none _ _ count _ (c.first_above-2.ensures (λ j. get_or c.args.held.now j 0) (λ i m l q. search rules))
    c.unwrap_or-overdrawn.ensures c.if-overdrawn-streams.false)
