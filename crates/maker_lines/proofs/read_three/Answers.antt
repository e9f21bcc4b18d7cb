use Rattle.std.proofs.Common.{◌∙◌}
use Rattle.maker_lines.specs.Lines.{three_read}
use Rattle.maker_lines.proofs.LineWays.{word_stops, word_goes}
use Rattle.maker_lines.proofs.read_three.Goals as goal

pub returns-in_err-first : goal.returns-in_err-first
unfolding three_read
returns-in_err-first c = c.from_residual.ensures ∙ word_stops c.read_word.ensures _ _ c.in_err-first.was

pub returns-in_err-second : goal.returns-in_err-second
unfolding three_read
returns-in_err-second c =
    c.from_residual-in_err-second.ensures
    ∙ word_stops c.read_word-2.ensures _ _ c.in_err-second.was
    ∙ word_goes c.read_word.ensures _ _ c.in_ok-first.was

pub returns-in_err-third : goal.returns-in_err-third
unfolding three_read
returns-in_err-third c =
    c.from_residual-in_err-third.ensures
    ∙ word_stops c.read_word-3.ensures _ _ c.in_err-third.was
    ∙ word_goes c.read_word-2.ensures _ _ c.in_ok-second.was
    ∙ word_goes c.read_word.ensures _ _ c.in_ok-first.was

pub returns : goal.returns
unfolding three_read
returns c =
    word_goes c.read_word-3.ensures _ _ c.in_ok-third.was
    ∙ word_goes c.read_word-2.ensures _ _ c.in_ok-second.was
    ∙ word_goes c.read_word.ensures _ _ c.in_ok-first.was
