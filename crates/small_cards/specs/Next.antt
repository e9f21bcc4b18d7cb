-- The small cards one after the other, as the code steps through them: the last of N, times, positions and zones that may rise does.
use Rattle.std.specs.Prelude.{ℕ, zero, suc, ◌+◌, min, Bool, true, false, cond, List, [], ◌∷◌, get_or, set, ltb, Result, Ok, Err}
use Rattle.numbers.specs.Limits.{min_blocks, max_tried}
use Rattle.card.specs.declared.Figures.{Figures}
use Rattle.small_cards.specs.declared.SmallCard.{SmallCard}
use Rattle.small_cards.specs.Cards.{small_figures}

-- the figures of a state
unfoldable pub figures_of : SmallCard → Figures
figures_of c = small_figures c.zones c.positions c.times c.blocks

-- the most that entry i may be: 3, and where entries must not rise, the entry before
unfoldable pub limit_of : Bool → List ℕ → ℕ → ℕ
limit_of falls ds zero = 3
limit_of falls ds (suc i) = cond falls (get_or ds i 0) 3

-- the last of the first n entries that may rise does, and those after it start again from 1: an error where none may
unfoldable pub risen : Bool → ℕ → List ℕ → Result (List ℕ) (List ℕ)
risen falls zero ds = Err ds
risen falls (suc i) ds = cond (ltb (get_or ds i 0) (limit_of falls ds i)) (Ok (set ds i (get_or ds i 0 + 1))) (risen falls i (set ds i 1))

-- the most blocks of a card
unfoldable pub most_blocks : List ℕ → ℕ
most_blocks ps = min max_tried (get_or ps 0 0 + get_or ps 1 0 + get_or ps 2 0)

-- the card after c: one block more, else the next times, else the next positions, else a zone more; after the last card it has 4 zones
unfoldable pub zone_more : SmallCard → List ℕ → List ℕ → SmallCard
zone_more c ps ts = record { zones = c.zones + 1; positions = set ps c.zones 1; times = set ts c.zones 1; blocks = min_blocks }

unfoldable pub positions_more : SmallCard → List ℕ → Result (List ℕ) (List ℕ) → SmallCard
positions_more c ts (Ok ps) = record { zones = c.zones; positions = ps; times = ts; blocks = min_blocks }
positions_more c ts (Err ps) = zone_more c ps ts

unfoldable pub times_more : SmallCard → Result (List ℕ) (List ℕ) → SmallCard
times_more c (Ok ts) = record { zones = c.zones; positions = c.positions; times = ts; blocks = min_blocks }
times_more c (Err ts) = positions_more c ts (risen false c.zones c.positions)

unfoldable pub next_card : SmallCard → SmallCard
next_card c =
    cond (ltb c.blocks (most_blocks c.positions)) (record { zones = c.zones; positions = c.positions; times = c.times; blocks = c.blocks + 1 })
    (times_more c (risen true c.zones c.times))

-- the first: one zone of two positions, since one position has no room for a film
unfoldable pub first_card : SmallCard
first_card = record { zones = 1; positions = 2 ∷ 0 ∷ 0 ∷ []; times = 1 ∷ 0 ∷ 0 ∷ []; blocks = min_blocks }

-- the i-th card after c
unfoldable pub after : ℕ → SmallCard → SmallCard
after zero c = c
after (suc i) c = after i (next_card c)

-- c and n cards after it
unfoldable pub walk : ℕ → SmallCard → List SmallCard
walk zero c = c ∷ []
walk (suc n) c = c ∷ walk n (next_card c)
