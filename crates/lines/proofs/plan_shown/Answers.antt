-- An accepted card has the plan of legal figures, with its lists, in each showing.
use Rattle.words.specs.Laws.{bytes_fit}
use Rattle.placement.specs.Showing.{one, loop, pairs}
use Rattle.lines.proofs.AcceptedPlan.{accepted_plan}
use Rattle.lines.proofs.plan_shown.Goals as goal

pub returns-in-Once-clause-plan : goal.returns-in-Once-clause-plan
returns-in-Once-clause-plan c =
    let s = c.args.card.now in
    let r = c.plan_card in
    (accepted_plan one s (bytes_fit s c.type_inv.card) _ _ r.result _ _ r.ensures).0

pub returns-in-Once-clause-legal : goal.returns-in-Once-clause-legal
returns-in-Once-clause-legal c =
    let s = c.args.card.now in
    let r = c.plan_card in
    (accepted_plan one s (bytes_fit s c.type_inv.card) _ _ r.result _ _ r.ensures).1

pub returns-in-Loop-clause-plan : goal.returns-in-Loop-clause-plan
returns-in-Loop-clause-plan c =
    let s = c.args.card.now in
    let r = c.plan_loop_card in
    (accepted_plan loop s (bytes_fit s c.type_inv.card) _ _ r.result _ _ r.ensures).0

pub returns-in-Loop-clause-legal : goal.returns-in-Loop-clause-legal
returns-in-Loop-clause-legal c =
    let s = c.args.card.now in
    let r = c.plan_loop_card in
    (accepted_plan loop s (bytes_fit s c.type_inv.card) _ _ r.result _ _ r.ensures).1

pub returns-in-Pairs-clause-plan : goal.returns-in-Pairs-clause-plan
returns-in-Pairs-clause-plan c =
    let s = c.args.card.now in
    let r = c.plan_pairs_card in
    (accepted_plan pairs s (bytes_fit s c.type_inv.card) _ _ r.result _ _ r.ensures).0

pub returns-in-Pairs-clause-legal : goal.returns-in-Pairs-clause-legal
returns-in-Pairs-clause-legal c =
    let s = c.args.card.now in
    let r = c.plan_pairs_card in
    (accepted_plan pairs s (bytes_fit s c.type_inv.card) _ _ r.result _ _ r.ensures).1
