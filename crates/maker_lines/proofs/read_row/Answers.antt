use Rattle.std.proofs.Common.{◌≡◌, Some, None, Err, ◌∙◌, arith, rules}
use Rattle.numbers.specs.Refusals.{line_form}
use Rattle.maker_lines.proofs.LineWays.{three_stops, three_goes, row_read, row_read_law}
use Rattle.maker_lines.proofs.read_row.Goals as goal

pub returns-in_err-from : goal.returns-in_err-from
unfolding row_read
returns-in_err-from c =
    let none : c.read_three.result ≡ None = grind arith in
    let form : c.from_residual.result ≡ Err line_form = search rules in
    form ∙ three_stops _ _ _ _ c.read_three.ensures none ∙ row_read_law _ (search rules) _ _

pub returns : goal.returns
unfolding row_read
returns c =
    let three : c.read_three.result ≡ Some (c.in_ok-from.from, c.in_ok-from.last, c.in_ok-from.track, c.in_ok-from.next) = grind arith in
    c.judge_row.ensures ∙ three_goes _ _ _ _ c.read_three.ensures three ∙ row_read_law _ (search rules) _ _
