-- Where a film of a plan record ends, by the word that says which showing it is: a loop has no end (T7.8).
-- Assumes nothing.
use Rattle.std.specs.Prelude.{ℕ, ◌<◌, ◌≡◌, refl, ◌≢◌, Bool, true, false, cond, ltb, eqb}
use Rattle.std.proofs.Common.{sym, ◌∙◌}
use Rattle.std.proofs.Math.Logic.{by_cases}
use Rattle.std.proofs.Math.Decide.{ℕ_discrete}
use borrow.Author.Tests.{ltb-true, eqb-true, lt-ltb, eq-eqb, ne_eqb}
use Rattle.laws.specs.Bools.{clash, and_left, and_right, and_both}
use Rattle.numbers.specs.Showings.{loop_word, pairs_word}
use Rattle.placement.specs.Showing.{one, pairs}
use Rattle.card.specs.Card.{length_in}
use Rattle.pacing.specs.Film.{is_past}
use Rattle.pacing.specs.Shelf.{film_in, block_in}
use Rattle.plan.specs.declared.Plan.{Plan}
use Rattle.plan.specs.Plan.{showing_of}
use Rattle.plan.specs.Check.{shows_loop}
use Rattle.desk.specs.Desk.{supply_of}

-- in every other showing the film is past its last block at N
past_other : (w N b : ℕ) → w ≢ loop_word → is_past (showing_of w) N b ≡ eqb b N
unfolding showing_of
past_other w N b n = rw (ne_eqb w loop_word n) (go (eqb w pairs_word))
  where
    go : (t : Bool) → is_past (cond t pairs one) N b ≡ eqb b N
    go true = refl
    go false = refl

-- the name a of a slot: its film, the block within it, and how many that film has
module _ (p : Plan) (a : ℕ) where
  abbrev i : ℕ
  i = film_in a

  abbrev N : ℕ
  N = length_in p.figures i

  -- a film is past its last block at N, and in a loop nowhere
  pub end_says : (supply_of p).is_end a ≡ true → (p.showing ≢ loop_word) × (i < p.figures.films) × (block_in a ≡ N)
  unfolding supply_of
  end_says e =
      let past = and_right (ltb i p.figures.films) _ e in
      by_cases (ℕ_discrete p.showing loop_word)
      (λ l. clash (rw (shows_loop p.showing l) at past) refl)
      (λ n. (
        n,
        ltb-true i p.figures.films (and_left (ltb i p.figures.films) _ e),
        eqb-true (block_in a) N (sym (past_other p.showing N (block_in a) n) ∙ past),
      ))

  pub end_at : p.showing ≢ loop_word → i < p.figures.films → block_in a ≡ N → (supply_of p).is_end a ≡ true
  unfolding supply_of
  end_at n u e = and_both (lt-ltb i p.figures.films u) (past_other p.showing N (block_in a) n ∙ eq-eqb (block_in a) N e)
