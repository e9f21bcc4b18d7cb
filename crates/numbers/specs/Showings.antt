-- The word of a plan that says which showing it is (document 02).
use Rattle.std.specs.Prelude.{ℕ}

-- once through, as document 01 has it
abbrev pub once_word : ℕ
once_word = 0

-- round and round
abbrev pub loop_word : ℕ
loop_word = 1

-- once through, each block as two halves (ticket 11)
abbrev pub pairs_word : ℕ
pairs_word = 2
