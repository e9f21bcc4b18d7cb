-- Document 02, ticket 13: what a small card is, and the list of them in the stated order.
use Rattle.std.specs.Prelude.{ℕ, zero, suc, ◌-◌, ◌≤◌, ◌<◌, min, ◌≡◌, ◌⊎◌, List, [], ◌∷◌, ◌++◌, map, get_or, take}
use Rattle.laws.specs.Members.{upto, each}
use Rattle.laws.specs.Runs.{sum_by}
use Rattle.numbers.specs.Limits.{straight_kind, max_zones, min_blocks, max_tried}
use Rattle.card.specs.declared.Figures.{Figures}
use Rattle.card_table.specs.Table.{straight}
use Rattle.card.specs.Card.{Legal, length_in, one_film}
use Rattle.card.specs.Read.{blank_zones}

-- ---- the figures of a small card

-- the entries of a record's array; those past the zones are zero
unfoldable pub entered : List ℕ → List ℕ
entered xs = take max_zones (xs ++ blank_zones)

-- zones of given positions and times and one film of n blocks, with the measures that every small card has: B 1000, c 1000, and the
-- overheads of hop 1 and return 1, as cards of kind 1 have them
unfoldable pub small_figures : ℕ → List ℕ → List ℕ → ℕ → Figures
small_figures z ps ts n = record {
  kind = straight_kind;
  zones = z;
  positions = entered ps;
  times = entered ts;
  films = 1;
  blocks = one_film n;
  bytes = 1000;
  rate = 1000;
  table = straight 1 1;
}

-- ---- which cards are small (T13.1)

-- a legal card with at most 3 zones, at most 3 positions a zone, times of at most 3, one film of at most 8 blocks, and these
-- measures
pub record Small (f : Figures) : Type 0 where
  pub legal : Legal 1 f
  pub zones : f.zones ≤ 3
  pub positions : (i : ℕ) → i < f.zones → get_or f.positions i 0 ≤ 3
  pub times : (i : ℕ) → i < f.zones → get_or f.times i 0 ≤ 3
  pub film : f.films ≡ 1
  pub blocks : length_in f 0 ≤ max_tried
  pub measures : (f.kind ≡ straight_kind) × (f.bytes ≡ 1000) × (f.rate ≡ 1000) × (f.table ≡ straight 1 1)

-- ---- the list of them

-- z numbers of 1 to 3, in every way, the first slowest to change
unfoldable pub threes : ℕ → List (List ℕ)
threes zero = [] ∷ []
threes (suc z) = each (upto 1 3) (λ x. map (λ xs. x ∷ xs) (threes z))

-- z times of 1 to m, none above the one before, likewise
unfoldable pub falling : ℕ → ℕ → List (List ℕ)
falling zero m = [] ∷ []
falling (suc z) m = each (upto 1 m) (λ t. map (λ ts. t ∷ ts) (falling z t))

-- every N that the positions have room for, from 2 to 8
unfoldable pub lengths : List ℕ → List ℕ
lengths ps = upto min_blocks (suc (min max_tried (sum_by (λ (p : ℕ). p) ps)) - min_blocks)

-- all small cards: by zones, then positions, then times, then N (T13.2)
unfoldable pub small_cards : List Figures
small_cards = each (upto 1 3) (λ z. each (threes z) (λ ps. each (falling z 3) (λ ts. map (small_figures z ps ts) (lengths ps))))

-- ---- their order (T13.2)

-- the first number that differs is the lower one
abbrev pub Before : List ℕ → List ℕ → Type 0
Before [] ys = ⊥
Before (x ∷ xs) [] = ⊥
Before (x ∷ xs) (y ∷ ys) = (x < y) ⊎ ((x ≡ y) × Before xs ys)

-- what cards are ordered by: zones, then the positions of all zones from the innermost, then the times likewise, then N
abbrev pub order_of : Figures → List ℕ
order_of f = f.zones ∷ (f.positions ++ (f.times ++ (length_in f 0 ∷ [])))

abbrev pub Earlier : Figures → Figures → Type 0
Earlier f g = Before (order_of f) (order_of g)
