use Rattle.std.proofs.Common.{ℕ}
use Rattle.words.specs.Words.{words_of}
use Rattle.block_lists.specs.Runs.{Gives}
use Rattle.block_lists.proofs.Runs.{Compares}
use Rattle.block_lists.proofs.same_each.Given as goal

abbrev pub invariant-loop-b : goal.invariant-loop-b
invariant-loop-b g l =
    (h : ℕ → ℕ) → Gives (goal.F-post g l.fn.entry) h l.fn.from l.fn.to → Compares (words_of l.fn.list) h l.fn.from l.fn.to l.same l.b
