-- The kinds of a slot and the phases of a desk, with document 01's words.
use Rattle.std.specs.Prelude.{ℕ}

-- free
abbrev pub free : ℕ
free = 0

-- asked
abbrev pub waiting : ℕ
waiting = 1

-- filling
abbrev pub filling : ℕ
filling = 2

-- playing
abbrev pub playing : ℕ
playing = 3

-- tail
abbrev pub draining : ℕ
draining = 4

-- between sweeps
abbrev pub between : ℕ
between = 0

-- in a sweep
abbrev pub sweeping : ℕ
sweeping = 1
