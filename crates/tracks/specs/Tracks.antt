-- A zone from its maker's numbers (document 02: T1.5 to T1.7). A block is given by its sectors, a track too.
use Rattle.std.specs.Prelude.{ℕ, ◌+◌, ◌-◌, ◌*◌, ◌/◌, min}
use Rattle.numbers.specs.Limits.{max_number}
use Rattle.numbers.specs.Units.{minute}

-- a quotient, rounded up
unfoldable pub rounded_up : ℕ → ℕ → ℕ
rounded_up a b = (a + (b - 1)) / b

-- positions: heads × cylinders × sectors a track, divided by sectors in a block, rounded down
unfoldable pub positions_in : ℕ → ℕ → ℕ → ℕ → ℕ
positions_in heads block cylinders track = heads * cylinders * track / block

-- time: sectors in a block × 60,000,000, divided by turns a minute × sectors a track, rounded up; to that comes the track switch time ×
-- (sectors in a block less one, divided by sectors a track, rounded up)
unfoldable pub time_in : ℕ → ℕ → ℕ → ℕ → ℕ
time_in turns switch block track = rounded_up (block * minute) (turns * track) + switch * rounded_up (block - 1) track

-- a number of 32 bits; 4,294,967,295 stands for every greater one
unfoldable pub narrowed : ℕ → ℕ
narrowed v = min v max_number
