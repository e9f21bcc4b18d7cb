use mathlib.Core.Path.{◌∙◌}
use Rattle.std.proofs.Common.{arith}
use Rattle.numbers.specs.Limits.{max_streams}
use Rattle.words.specs.Words.{words_of}
use Rattle.desk_layout.specs.Layout.{desk_in}
use Rattle.desk_layout.specs.Parts.{next_at}
use Rattle.desk_columns.specs.Columns.{entry_at}
use Rattle.desk_columns.proofs.next_in.Goals as goal

pub returns : goal.returns
unfolding desk_in
returns c = c.word_at.ensures ∙ entry_at (words_of c.args.desk.now) max_streams next_at c.args.i (omega arith)
