-- The showing that a word of `numbers::showings` asks for.
use Rattle.std.specs.Prelude.{ℕ, ◌==◌, cond}
use Rattle.numbers.specs.Showings.{loop_word, pairs_word}
use Rattle.lines.specs.declared.Showing.{Showing}
use Rattle.lines.specs.declared.Showing.TheVariants.{Once, Loop, Pairs}

-- once through, by a word that asks for neither a loop nor half blocks
unfoldable pub numbered : ℕ → Showing
numbered w = cond (w == loop_word) Loop (cond (w == pairs_word) Pairs Once)
