-- The limits of document 01's table of ranges, and of the desk; what document 02 adds to them.
use Rattle.std.specs.Prelude.{ℕ}

-- the kinds of a card: overheads by hop and return, as document 01 has it, or one by one (document 02, ticket 3)
abbrev pub straight_kind : ℕ
straight_kind = 1

abbrev pub measured_kind : ℕ
measured_kind = 2

-- any number of a card
abbrev pub max_number : ℕ
max_number = 4294967295

-- the least that is none
abbrev pub no_number : ℕ
no_number = 4294967296

abbrev pub max_zones : ℕ
max_zones = 64

-- P, the positions of all zones
abbrev pub max_positions : ℕ
max_positions = 1048576

-- the time of a zone, in microseconds
abbrev pub max_time : ℕ
max_time = 4000000

-- no zone is over so many times as fast as the first (document 02, ticket 8)
abbrev pub times_as_fast : ℕ
times_as_fast = 3

-- N, the blocks of a film
abbrev pub min_blocks : ℕ
min_blocks = 2

abbrev pub max_blocks : ℕ
max_blocks = 16384

-- the films of a shelf (document 02, ticket 14); together they have as many blocks as one film may have
abbrev pub max_films : ℕ
max_films = 16

-- a slot names its film and its next block by one number: so many times the film, and the block, of which no film has as many
abbrev pub name_step : ℕ
name_step = 65536

-- B, the bytes of a block
abbrev pub max_bytes : ℕ
max_bytes = 4194304

-- c, the top rate in bytes a second
abbrev pub max_rate : ℕ
max_rate = 10000000

-- hop and return, each
abbrev pub max_move : ℕ
max_move = 1000000

-- the entries of a table of overheads, for sweeps of 0 to 256 blocks (document 02, ticket 3)
abbrev pub table_length : ℕ
table_length = 257

-- the overhead of a sweep
abbrev pub max_overhead : ℕ
max_overhead = 257000000

-- the bytes of a card
abbrev pub min_card : ℕ
min_card = 10

abbrev pub max_card : ℕ
max_card = 1519

-- n, and the slots of a desk
abbrev pub max_streams : ℕ
max_streams = 256

-- n of half blocks (document 02, ticket 11)
abbrev pub max_pair_streams : ℕ
max_pair_streams = 128

-- k, the blocks of a window (document 02, ticket 9)
abbrev pub max_window : ℕ
max_window = 64

-- a maker's text (document 02, ticket 1). Its first line: turns a minute
abbrev pub max_turns : ℕ
max_turns = 30000

-- track switch time, in microseconds
abbrev pub max_switch : ℕ
max_switch = 100000

abbrev pub max_heads : ℕ
max_heads = 32

-- sectors in a block
abbrev pub max_block : ℕ
max_block = 8192

-- its rows: the last cylinder of a zone
abbrev pub max_cylinder : ℕ
max_cylinder = 999999

-- sectors a track
abbrev pub max_track : ℕ
max_track = 10000

-- the blocks of a film of which every laying is tried (document 02, ticket 12)
abbrev pub max_tried : ℕ
max_tried = 8

-- the numbers of a scratch in place of the lead list (document 02, ticket 10)
abbrev pub scratch_length : ℕ
scratch_length = 512

-- the joins and leaves of a batch (document 02, ticket 6)
abbrev pub max_items : ℕ
max_items = 512
