use Rattle.std.proofs.Common.{ℕ, ◌≡◌, ◌<◌, ◌≤◌, get_or}
use Rattle.numbers.specs.Slots.{playing}
use Rattle.words.specs.Words.{words_of}
use Rattle.desk_layout.specs.Layout.{desk_in}
use Rattle.soundness.specs.Facts.{Tells}
use Rattle.soundness.proofs.slots.players_hold.Given as goal

-- the first i slots hold so many bytes where they play
abbrev pub invariant-loop-i : goal.invariant-loop-i
invariant-loop-i l = let d = desk_in (words_of l.desk) in
    Tells l.all ((j : ℕ) → j < l.i → get_or d.kinds j 0 ≡ playing → l.least ≤ get_or d.held j 0)
