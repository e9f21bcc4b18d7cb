-- The first i draws keep to their limits.
use Rattle.std.proofs.Common.{ℕ, ◌≡◌, ◌<◌, length}
use Rattle.words.specs.Words.{words_of}
use Rattle.draws.specs.Draws.{NoneAbove}
use Rattle.draws.proofs.first_above.Given as goal

abbrev pub invariant-loop-i : goal.invariant-loop-i
invariant-loop-i g l =
    let ds = words_of l.draws in
    (most : ℕ → ℕ) → ((i m : ℕ) → i < length ds → goal.F-post g l.limit i m → m ≡ most i) → NoneAbove most ds l.i
