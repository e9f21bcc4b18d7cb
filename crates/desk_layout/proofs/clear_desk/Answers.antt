use mathlib.Core.Path.{sym, ap, ◌∙◌}
use Rattle.words.specs.Words.{with_words}
use Rattle.desk_layout.specs.RoundTrip.{desk_blank}
use Rattle.desk_layout.proofs.clear_desk.Goals as goal

pub returns : goal.returns
returns c = c.clear_words.ensures ∙ ap (with_words _ 0) (sym desk_blank)
