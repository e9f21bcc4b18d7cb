use Rattle.std.proofs.Common.{sym, ◌∙◌}
use Rattle.std.proofs.lemmas.Bool.{lt-leb}
use Rattle.maker_lines.proofs.LineWays.{within_none, within_some}
use Rattle.maker_lines.proofs.is_within.Goals as goal

pub returns-then-v-ge1 : goal.returns-then-v-ge1
returns-then-v-ge1 c = within_some _ _ c.if-v-ge1.true

pub returns-else-v-ge1 : goal.returns-else-v-ge1
returns-else-v-ge1 c = lt-leb 1 c.args.v c.if-v-ge1.false ∙ sym (within_none _ _ c.if-v-ge1.false)
