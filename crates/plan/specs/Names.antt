-- The blocks of a shelf by their names, 65,536 × film + block (document 02, ticket 14): which they are, where the lists have them, their sizes.
-- Assumes nothing.
use Rattle.std.specs.Prelude.{ℕ, ◌+◌, ◌*◌, ◌<◌, ◌≡◌, true, List, ltb, get_or}
use Rattle.std.proofs.Common.{ap, ◌∙◌, arith, mul-le-mul_left, ltb-true, lt-ltb}
use Rattle.laws.specs.Bools.{and_left, and_right, and_both}
use Rattle.laws.specs.Through.{through_below}
use Rattle.words.specs.Words.{words_of}
use Rattle.card.specs.declared.Figures.{Figures}
use Rattle.card.specs.Card.{length_in, blocks_of}
use Rattle.placement.specs.Showing.{Showing, visits_of}
use Rattle.pacing.specs.Shelf.{film_in, block_in, name_back}
use Rattle.plan.specs.declared.Plan.{Plan}
use Rattle.plan.specs.Plan.{showing_in, listed_at, position_in, film_of, lead_of, lead_in}
use Rattle.plan.specs.Check.{Checked}

-- a names a block of the shelf
abbrev pub Named : Figures → ℕ → Type 0
Named f a = (film_in a < f.films) × (block_in a < length_in f (film_in a))

module _ (x : Showing) (f : Figures) (a : ℕ) where
  pub block_names : (film_of x f).is_block a ≡ true → Named f a
  block_names e = (
    ltb-true (film_in a) f.films (and_left (ltb (film_in a) f.films) _ e),
    ltb-true (block_in a) (length_in f (film_in a)) (and_right (ltb (film_in a) f.films) _ e),
  )

  pub names_block : Named f a → (film_of x f).is_block a ≡ true
  names_block n = and_both (lt-ltb (film_in a) f.films n.0) (lt-ltb (block_in a) (length_in f (film_in a)) n.1)

  -- its lead is that of the block it names
  pub lead_named : lead_in x f (film_in a) (block_in a) ≡ lead_of x f a
  lead_named = ap (lead_of x f) (name_back a)

-- its number through the lists is one of all blocks
pub listed_below : (f : Figures) (a : ℕ) → Named f a → listed_at f a < blocks_of f
listed_below f a n = through_below (length_in f) (film_in a) f.films (block_in a) n.0 n.1

-- where the lists of a checked plan have it
module _ (p : Plan) (ps ls : List ℕ) (c : Checked p ps ls) (a : ℕ) (n : Named p.figures a) where
  abbrev pub x : Showing
  x = showing_in p

  abbrev pub f : Figures
  f = p.figures

  -- visit j of it
  pub position_listed : (j : ℕ) → j < visits_of x
      → get_or (words_of ps) (visits_of x * listed_at f a + j) 0 ≡ position_in x f (film_in a) (visits_of x * block_in a + j)
  position_listed j u =
      let v : visits_of x * block_in a + j < visits_of x * length_in f (film_in a) = omega (arith, mul-le-mul_left (visits_of x) n.1) in
      ap (λ (k : ℕ). get_or (words_of ps) k 0) (omega arith) ∙ c.position_at (film_in a) (visits_of x * block_in a + j) n.0 v
