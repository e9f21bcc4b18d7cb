use Rattle.std.proofs.Common.{◌≡◌, Some, None, Err, ◌∙◌, arith, rules}
use Rattle.numbers.specs.Refusals.{line_form}
use Rattle.maker_lines.proofs.LineWays.{word_stops, word_goes, three_stops, three_goes, heading_read, heading_read_law}
use Rattle.maker_lines.proofs.read_heading.Goals as goal

pub returns-in_err-turns : goal.returns-in_err-turns
unfolding heading_read
returns-in_err-turns c =
    let none : c.read_word.result ≡ None = grind arith in
    let form : c.from_residual.result ≡ Err line_form = search rules in
    form ∙ word_stops c.read_word.ensures _ _ none ∙ heading_read_law _

pub returns-in_err-switch : goal.returns-in_err-switch
unfolding heading_read
returns-in_err-switch c =
    let one : c.read_word.result ≡ Some (c.in_ok-turns.turns, c.in_ok-turns.at) = grind arith in
    let none : c.read_three.result ≡ None = grind arith in
    let form : c.from_residual-in_err-switch.result ≡ Err line_form = search rules in
    form ∙ three_stops _ _ _ _ c.read_three.ensures none ∙ word_goes c.read_word.ensures _ _ one ∙ heading_read_law _

pub returns : goal.returns
unfolding heading_read
returns c =
    let one : c.read_word.result ≡ Some (c.in_ok-turns.turns, c.in_ok-turns.at) = grind arith in
    let three : c.read_three.result ≡ Some (c.in_ok-switch.switch, c.in_ok-switch.heads, c.in_ok-switch.block, c.in_ok-switch.next) = grind arith in
    c.judge_heading.ensures ∙ three_goes _ _ _ _ c.read_three.ensures three ∙ word_goes c.read_word.ensures _ _ one ∙ heading_read_law _
