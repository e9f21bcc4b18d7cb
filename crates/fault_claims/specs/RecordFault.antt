-- A refused record in plain facts (R23; T3.6, T3.8, T14): its figures in the card's order, and the first that is at fault.
use Rattle.std.specs.Prelude.{ℕ, ◌+◌, ◌*◌, ◌<◌, ◌≡◌, List, [], ◌∷◌, ◌++◌, get_or}
use Rattle.laws.specs.Each.{Each}
use Rattle.numbers.specs.Limits.{table_length}
use Rattle.numbers.specs.Refusals.{wrong_zones, wrong_measure, wrong_films}
use Rattle.card_table.specs.Table.{hop_in, back_in}
use Rattle.card.specs.declared.Figures.{Figures}
use Rattle.legality.specs.Legality.{Unused, Idle}
use Rattle.fault_claims.specs.Rules.{Figure, Kind, Zones, Positions, Time, Films, Blocks, Bytes, Rate, Hop, Return, Overhead, figures_in_order}
use Rattle.fault_claims.specs.Rules.{Rule, ◌unless◌, Holds, Breaks, Values, rules}

-- return is the overhead of no block, and hop what the first block adds
abbrev pub values_in : Figures → Values
values_in f Kind = f.kind
values_in f Zones = f.zones
values_in f (Positions i) = get_or f.positions i 0
values_in f (Time i) = get_or f.times i 0
values_in f Films = f.films
values_in f (Blocks i) = get_or f.blocks i 0
values_in f Bytes = f.bytes
values_in f Rate = f.rate
values_in f Hop = hop_in f.table
values_in f Return = back_in f.table
values_in f (Overhead j) = get_or f.table j 0

-- what a record has and a card has not: unused zones and films, which are judged with their count, and a table of kind 1, all of whose entries come
-- from its hop and return
abbrev pub besides : Figures → Figure → List Rule
besides f Kind = []
besides f Zones = wrong_zones unless Unused f ∷ []
besides f (Positions i) = []
besides f (Time i) = []
besides f Films = wrong_films unless Idle f ∷ []
besides f (Blocks i) = []
besides f Bytes = []
besides f Rate = []
besides f Hop = []
besides f Return = wrong_measure unless ((j : ℕ) → j < table_length → get_or f.table j 0 ≡ hop_in f.table * j + back_in f.table) ∷ []
besides f (Overhead j) = []

abbrev pub record_rules : ℕ → Figures → Figure → List Rule
record_rules visits f g = rules visits (values_in f) g ++ besides f g

-- WHY A RECORD IS REFUSED, each block on so many positions: the figures before are good, and this one breaks a rule of k first
pub record RecordFault (visits : ℕ) (f : Figures) (k : ℕ) : Type 0 where
  pub before : List Figure
  pub here : Figure
  pub after : List Figure
  pub order : figures_in_order f.kind f.zones f.films ≡ before ++ (here ∷ after)
  pub good : Each (λ g. Holds (record_rules visits f g)) before
  pub fault : Breaks (record_rules visits f here) k
