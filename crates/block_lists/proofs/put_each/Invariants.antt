use Rattle.std.proofs.Common.{ℕ, ◌≡◌, length}
use Rattle.words.specs.Words.{words_of}
use Rattle.block_lists.specs.Runs.{Gives}
use Rattle.block_lists.proofs.Runs.{Writes}
use Rattle.block_lists.proofs.put_each.Given as goal

abbrev pub invariant-loop-b : goal.invariant-loop-b
invariant-loop-b g l =
    (length (words_of l.list) ≡ length (words_of l.fn.list))
    × ((h : ℕ → ℕ) → Gives (goal.F-post g l.fn.entry) h l.fn.from l.fn.to → Writes l.fn.list h l.fn.from l.fn.to l.list l.b)
