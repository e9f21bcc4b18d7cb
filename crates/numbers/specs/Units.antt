-- What rates and times are compared in.
use Rattle.std.specs.Prelude.{ℕ, ◌+◌, ◌-◌, ◌/◌}

-- the parts of a byte in which the floor is compared: a rate times a lead, which is in half microseconds, needs no rounding there
abbrev pub parts : ℕ
parts = 2000000

-- such parts in whole bytes, rounded up
abbrev pub whole_bytes : ℕ → ℕ
whole_bytes x = (x + (parts - 1)) / parts

-- microseconds in a second
abbrev pub micros : ℕ
micros = 1000000

-- microseconds in a minute
abbrev pub minute : ℕ
minute = 60000000

-- bytes of a sector (document 02, ticket 1)
abbrev pub sector_bytes : ℕ
sector_bytes = 512
