-- The planner's promise, as all that safety relies on: the supply of a plan record that is the plan of its legal figures is lawful.
-- Assumes nothing.
use Rattle.std.specs.Prelude.{ℕ, ◌+◌, ◌*◌, ◌-◌, ◌≤◌, ◌<◌, ◌≡◌, refl, Bool, true, false, cond, ◌&&◌, ltb}
use Rattle.std.proofs.Common.{arith, eqb-true}
use Rattle.numbers.specs.Refusals.{not_sound, no_such_block, no_such_film}
use Rattle.card.specs.declared.Figures.{Figures}
use Rattle.card.specs.Card.{Legal, length_in}
use Rattle.placement.specs.Showing.{Showing, visits_of}
use Rattle.pacing.specs.Shelf.{film_in, block_in}
use Rattle.pacing.specs.Streams.{buffer_of}
use Rattle.plan.specs.declared.Plan.{Plan}
use Rattle.plan.specs.Plan.{worst2_of, streams_of, slowest_of, film_of, plan_of}
use Rattle.plan.specs.Check.{showing_back}
use Rattle.plan.proofs.Promise.{promise}
use Rattle.rules.specs.Supply.{Lawful, Named}
use Rattle.turns.specs.Orderly.{Orderly}
use Rattle.turns.specs.ByPlace.{by_place_orderly}
use Rattle.desk.specs.Supply.{paced_lawful}
use Rattle.desk.specs.Desk.{rates_in, supply_of, order_of}

-- the tests of names say what they should, for any record
pub supply_named : (p : Plan) → Named (supply_of p)
unfolding supply_of
supply_named p = record {
  none_passes = refl;
  none_only = λ a e. eqb-true a 0 e;
  faultless = λ a e. within (ltb (film_in a) p.figures.films) (ltb (block_in a) (length_in p.figures (film_in a))) e;
  fault_own = λ a e. other (ltb (film_in a) p.figures.films) (ltb (block_in a) (length_in p.figures (film_in a))) e;
}
  where
    within : (s t : Bool) → ◌≡◌ {A = ℕ} (cond s (cond t 0 no_such_block) no_such_film) 0 → (s && t) ≡ true
    within true true e = refl
    within true false e = absurd (omega arith)
    within false t e = absurd (omega arith)

    other : (s t : Bool) → ◌≡◌ {A = ℕ} (cond s (cond t 0 no_such_block) no_such_film) not_sound → ⊥
    other true true e = omega arith
    other true false e = omega arith
    other false t e = omega arith

-- the order of granting is one that safety allows
pub order_orderly : (p : Plan) → Orderly (supply_of p) (order_of p)
order_orderly p = by_place_orderly (supply_of p)

-- THE PLANNER'S PROMISE: the supply of the plan of legal figures is lawful, in every showing (T7.9)
pub plan_lawful : (x : Showing) (f : Figures) → Legal (visits_of x) f → 0 < streams_of x f → Lawful (supply_of (plan_of x f))
unfolding supply_of plan_of buffer_of
plan_lawful x f legal some =
    let q = promise x f legal some in
    rw (showing_back x)
    (paced_lawful (film_of x f) (worst2_of x f) (rates_in x (plan_of x f)) (slowest_of x f) q.leads.paced (record {
      bytes = legal.bytes.0;
      rises = q.rises;
      fits = q.fits;
      margin = omega (arith, q.margin_is);
      buffer = omega (arith, q.buffer);
    }))
