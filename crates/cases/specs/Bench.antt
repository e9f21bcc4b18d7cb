-- The films of document 01's bench cases, as figures, and tables of measured overheads for them (document 02, ticket 3).
use Rattle.std.specs.Prelude.{ℕ, ◌+◌, ◌-◌, List, [], ◌∷◌, ◌++◌, length, take, drop, replicate}
use Rattle.numbers.specs.Limits.{straight_kind, measured_kind, max_films, table_length}
use Rattle.card.specs.declared.Figures.{Figures}
use Rattle.card_table.specs.Table.{straight}

-- the entries of a record's array; those past the zones are zero
unfoldable pub entries : List ℕ → List ℕ
entries xs = xs ++ replicate (64 - length xs) 0

-- films of so many blocks of B bytes each on zones of given positions and times, with the bench film's rate, hop and return
unfoldable pub shelf : List ℕ → List ℕ → List ℕ → ℕ → Figures
shelf ps ts Ns B = record {
  kind = straight_kind;
  zones = length ps;
  positions = entries ps;
  times = entries ts;
  films = length Ns;
  blocks = Ns ++ replicate (max_films - length Ns) 0;
  bytes = B;
  rate = 500000;
  table = straight 12670 15000;
}

-- one film of N blocks
abbrev pub film : List ℕ → List ℕ → ℕ → ℕ → Figures
film ps ts N B = shelf ps ts (N ∷ []) B

abbrev pub six_ones : List ℕ
six_ones = 1 ∷ 1 ∷ 1 ∷ 1 ∷ 1 ∷ 1 ∷ []

abbrev pub six_times : List ℕ
six_times = 22270 ∷ 20550 ∷ 19090 ∷ 17810 ∷ 16700 ∷ 15720 ∷ []

-- the bench film: six zones of 1 position, with N blocks of B bytes
abbrev pub bench : ℕ → ℕ → Figures
bench N B = film six_ones six_times N B

-- a shelf of two films on its zones
abbrev pub two_films : Figures
two_films = shelf six_ones six_times (2 ∷ 3 ∷ []) 262144

-- one zone of N positions of 20000, the film on all of them
abbrev pub alike : ℕ → ℕ → Figures
alike N B = film (N ∷ []) (20000 ∷ []) N B

-- ---- kind 2

-- the same figures with measured overheads
abbrev pub measured : List ℕ → Figures → Figures
measured table f = record {
  kind = measured_kind;
  zones = f.zones;
  positions = f.positions;
  times = f.times;
  films = f.films;
  blocks = f.blocks;
  bytes = f.bytes;
  rate = f.rate;
  table = table;
}

-- the bench film's table up to k blocks, and `most` for all above
unfoldable pub late : ℕ → ℕ → List ℕ
late k most = take (k + 1) (straight 12670 15000) ++ replicate (table_length - (k + 1)) most

-- the return alone for up to 255 blocks, and `last` for 256
unfoldable pub level : ℕ → List ℕ
level last = replicate 256 15000 ++ (last ∷ [])

-- the bench film's table, with 30000 for one block
unfoldable pub dear : List ℕ
dear = 15000 ∷ 30000 ∷ drop 2 (straight 12670 15000)
