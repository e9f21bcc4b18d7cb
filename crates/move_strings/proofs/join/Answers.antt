use mathlib.Core.Path.{ap, ◌∙◌}
use Rattle.desk.specs.declared.Answer.{Answer}
use Rattle.admission.specs.Moves.{join_is}
use Rattle.layout.specs.Answers.{verdict_answer}
use Rattle.desk_calls.specs.Calls.{said, answer_by, string_by, join_answer, join_string}
use Rattle.desk_calls.specs.Inner.{move_answer, move_string}
use Rattle.move_strings.proofs.join.Goals as goal

pub returns : goal.returns
unfolding join_answer join_string move_answer move_string
returns c =
    let a = c.args in
    let D = a.desk.now in
    let ps = a.positions.now in
    let ls = a.leads.now in
    let step = c.join_of.ensures in
    let same = join_is (said D) ps ls a.slot a.block a.film in (
      c.make_move.ensures.0 ∙ ap (move_answer D ps ls) step ∙ ap (λ (x : Answer). answer_by D (verdict_answer x.verdict)) same,
      c.make_move.ensures.1 ∙ ap (move_string D ps ls) step ∙ ap (λ (x : Answer). string_by D x.desk) same,
    )
