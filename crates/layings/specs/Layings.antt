-- Every laying of a film on its own positions, and the smallest worst time among them (document 02, ticket 12).
use Rattle.std.specs.Prelude.{ℕ, zero, suc, ◌+◌, ◌-◌, ◌≤◌, ◌<◌, min, List, [], ◌∷◌, map, get_or, set, eqb}
use Rattle.laws.specs.Bools.{bit}
use Rattle.laws.specs.Members.{upto, each}
use Rattle.card.specs.declared.Figures.{Figures}
use Rattle.card.specs.Card.{total_positions, length_in}
use Rattle.placement.specs.Placement.{Laying}
use Rattle.placement.specs.Showing.{Showing, worst_of}
use Rattle.plan.specs.Plan.{time_on}

-- ---- the layings

-- what is left of xs when its i-th entry is taken out; the first one takes its place
unfoldable pub others : ℕ → List ℕ → List ℕ
others i [] = []
others zero (x ∷ xs) = xs
others (suc i) (x ∷ xs) = set xs i x

-- every order of the first n of xs: each of them in turn is the first, and every order of the others follows it
unfoldable pub arrangements : ℕ → List ℕ → List (List ℕ)
arrangements zero xs = [] ∷ []
arrangements (suc n) xs = each (upto 0 (suc n)) (λ i. map (λ ys. get_or xs i 0 ∷ ys) (arrangements n (others i xs)))

-- the film's positions: of P the N highest (P1)
unfoldable pub film_positions : ℕ → ℕ → List ℕ
film_positions P N = upto (P - N) N

-- every laying of a film of N blocks on these, each as the positions of its blocks, block by block (T12.1)
unfoldable pub layings : ℕ → ℕ → List (List ℕ)
layings P N = arrangements N (film_positions P N)

-- a laying of N of P positions, on the film's positions alone
pub record OnFilm (P N : ℕ) (l : ℕ → ℕ) : Type 0 where
  pub laying : Laying P N l
  pub high : (b : ℕ) → b < N → P - N ≤ l b

-- a laying l as such a list
abbrev pub listed : (ℕ → ℕ) → ℕ → List ℕ
listed l N = map l (upto 0 N)

-- and such a list as a laying
abbrev pub laid : List ℕ → ℕ → ℕ
laid ys b = get_or ys b 0

-- ---- their worst times

-- the worst time of a list of positions in a showing, τ being the time of a position
abbrev pub worst_in : Showing → (ℕ → ℕ) → ℕ → List ℕ → ℕ
worst_in x τ N ys = worst_of x τ (laid ys) N

-- the worst time of each laying
unfoldable pub worst_times : Showing → (ℕ → ℕ) → ℕ → ℕ → List ℕ
worst_times x τ P N = map (worst_in x τ N) (layings P N)

-- the smallest of some numbers
unfoldable pub smallest : List ℕ → ℕ
smallest [] = 0
smallest (w ∷ []) = w
smallest (w ∷ v ∷ vs) = min w (smallest (v ∷ vs))

-- how many of them are w
unfoldable pub how_many : ℕ → List ℕ → ℕ
how_many w [] = 0
how_many w (v ∷ vs) = bit (eqb v w) + how_many w vs

-- ---- the layings of a card's film, which is alone on its shelf (ticket 14)

-- the worst time of each
unfoldable pub times_tried : Showing → Figures → List ℕ
times_tried x f = worst_times x (time_on f) (total_positions f) (length_in f 0)

-- the smallest worst2, and how many layings have it (T12.1)
unfoldable pub least_of : Showing → Figures → ℕ
least_of x f = smallest (times_tried x f)

unfoldable pub count_of : Showing → Figures → ℕ
count_of x f = how_many (least_of x f) (times_tried x f)
