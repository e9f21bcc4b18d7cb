use Rattle.std.proofs.Common.{ℕ, ◌+◌, ◌*◌, ◌≤◌, ◌<◌, ◌≡◌, get_or, take, sym, ap, add-one, arith}
use Rattle.std.proofs.lemmas.List.{get_or-take}
use native.Mathlib.Nat.{mul-le-mul, div-le_self}
use Rattle.laws.specs.Starts.{start_of, start_none, start_next, start_rises}
use Rattle.laws.specs.Through.{found_none, found_next}
use Rattle.numbers.specs.Limits.{max_time, max_blocks}
use Rattle.placement.specs.Showing.{Showing, visits_few, laying, walked, worst_of, worst_at}
use Rattle.placement.specs.Zones.{time_at}
use Rattle.plan.specs.Plan.{showing_of}
use Rattle.plan.specs.Disk.{length_at}
use Rattle.plan.specs.FilmWalk.{film_first, film_few, film_fits, film_next, film_visits, pair_quick, pair_below, own_worst, own_at}
use Rattle.plan_numbers.proofs.worst_of_films.Goals as goal
use Rattle.plan_numbers.proofs.worst_of_films.Goals.{In-loop-film, After-worst_pair-own}

-- ---- in a turn

abbrev shown : In-loop-film → Showing
shown t = showing_of t.args.showing

abbrev lengths : In-loop-film → ℕ → ℕ
lengths t = length_at t.args.blocks.now

below : (t : In-loop-film) → t.loop-film.film-index < t.args.films
below t = omega (arith, t.loop-film-test.true)

-- the film that is met is the film of that number
met : (t : In-loop-film) → get_or (take t.args.films t.args.blocks.now) t.loop-film.film-index 0 ≡ lengths t t.loop-film.film-index
met t = get_or-take t.args.films t.args.blocks.now t.loop-film.film-index 0 (below t)

-- the blocks up to the end of this film are few
ends : (t : In-loop-film) → start_of (lengths t) t.loop-film.film-index + lengths t t.loop-film.film-index ≤ max_blocks
ends t =
    let i = t.loop-film.film-index in
    omega (arith, start_next (lengths t) i, start_rises (lengths t) _ t.args.films (below t), t.requires.films.all)

all-few : (t : In-loop-film) → t.visits_of-visits.result * lengths t t.loop-film.film-index ≤ 2 * max_blocks
all-few t = film_few t.loop-film.invariant.film (below t) t.requires.films

pub loop-film-init : goal.loop-film-init
loop-film-init c =
    let a = c.args in
    record {
      film = film_first _ a.total a.blocks.now a.films _ c.visits_of-visits.ensures;
      begins = sym (start_none (length_at a.blocks.now));
      found = found_none _ _;
    }

pub overflow_mul-all : goal.overflow_mul-all
overflow_mul-all c = let t = (goal.at.overflow_mul-all c).In-loop-film in rw (met t) (omega (arith, all-few t))

pub worst_pair-own-requires : goal.worst_pair-own-requires
worst_pair-own-requires c =
    let t = (goal.at.worst_pair-own-requires c).In-loop-film in rw (met t) (film_visits t.loop-film.invariant.film (below t) t.requires)

-- ---- the film's own worst pair

film-of : (c : After-worst_pair-own) → (let a = c.args in let i = c.loop-film.film-index in
    get_or (take a.films a.blocks.now) i 0 ≡ length_at a.blocks.now i)
film-of c = get_or-take c.args.films c.args.blocks.now c.loop-film.film-index 0 (omega (arith, c.loop-film-test.true))

own-time : (c : After-worst_pair-own) → (let a = c.args in let x = walked (showing_of a.showing) in
    let n = c.visits_of-visits.result * length_at a.blocks.now c.loop-film.film-index in
    c.worst_pair-own.result.time ≡ worst_of x (time_at a.sizes.now a.times.now) (laying x c.loop-film.free n) n)
own-time c = rw (film-of c) at c.worst_pair-own.ensures.time

own-first : (c : After-worst_pair-own) → (let a = c.args in let x = walked (showing_of a.showing) in
    let n = c.visits_of-visits.result * length_at a.blocks.now c.loop-film.film-index in
    c.worst_pair-own.result.first ≡ worst_at x (time_at a.sizes.now a.times.now) (laying x c.loop-film.free n) n)
own-first c = rw (film-of c) at c.worst_pair-own.ensures.first

pub overflow_mul-time : goal.overflow_mul-time
overflow_mul-time c =
    let t = (goal.at.overflow_mul-time c).In-loop-film in
    let a = t.args in
    let quick = pair_quick a.sizes.now a.times.now _ _ (film_visits t.loop-film.invariant.film (below t) t.requires) (shown t) in
    let own : c.worst_pair-own.result.time ≤ 2 * max_time = omega (arith, own-time (goal.at.overflow_mul-time c).After-worst_pair-own, quick) in
    let few : t.visits_of-visits.result ≤ 2 = omega (arith, t.loop-film.invariant.film.each, (visits_few (shown t)).1) in
    omega (arith, mul-le-mul few own)

pub overflow_add-start : goal.overflow_add-start
overflow_add-start c =
    let t = (goal.at.overflow_add-start c).In-loop-film in
    let a = t.args in
    let x = walked (shown t) in
    let n = t.visits_of-visits.result * lengths t t.loop-film.film-index in
    omega (
      arith,
      t.loop-film.invariant.begins,
      ends t,
      div-le_self c.worst_pair-own.result.first t.visits_of-visits.result,
      own-first (goal.at.overflow_add-start c).After-worst_pair-own,
      pair_below x (time_at a.sizes.now a.times.now) (laying x t.loop-film.free n) n,
      all-few t,
    )

pub overflow_sub-free : goal.overflow_sub-free
overflow_sub-free c =
    let t = (goal.at.overflow_sub-free c).In-loop-film in
    omega (arith, ap (λ (n : ℕ). t.visits_of-visits.result * n) (met t), film_fits t.loop-film.invariant.film (below t) t.requires.films)

pub overflow_add-start-in-loop-film : goal.overflow_add-start-in-loop-film
overflow_add-start-in-loop-film c =
    let t = (goal.at.overflow_add-start-in-loop-film c).In-loop-film in omega (arith, t.loop-film.invariant.begins, met t, ends t)

pub loop-film-preserved : goal.loop-film-preserved
loop-film-preserved c =
    let t = (goal.at.loop-film-preserved c).In-loop-film in
    let o = (goal.at.loop-film-preserved c).After-worst_pair-own in
    let a = t.args in
    let l = t.loop-film in
    let i = l.invariant in
    rw (met t) (record {
      film = film_next i.film (below t) t.requires.films;
      begins = omega (arith, i.begins, start_next (lengths t) l.film-index, ap (start_of (lengths t)) (add-one l.film-index));
      found = found_next _ _ _ _ _ i.found _ _ _ _
          (own_worst i.film a.sizes.now a.times.now _ (own-time o))
          (own_at i.film a.sizes.now a.times.now _ _ i.begins (own-first o))
          c.worse-worst.ensures.higher c.worse-worst.ensures.lower;
    })
