use Rattle.std.proofs.Common.{ℕ, ◌+◌, ◌*◌, ◌≤◌, ◌<◌, ◌≡◌, get_or, take, sym, ap, ap₂, ◌∙◌, subst, add-one, cond, ltb, arith}
use Rattle.std.proofs.lemmas.List.{get_or-take}
use Rattle.laws.specs.Starts.{start_of, start_none, start_next, start_rises}
use Rattle.laws.specs.Through.{found_none, found_next}
use Rattle.numbers.specs.Limits.{max_blocks}
use Rattle.placement.specs.Shelf.{falling_less}
use Rattle.placement.specs.Showing.{Showing, visits_of, laying}
use Rattle.placement.specs.Zones.{time_at}
use Rattle.pacing.specs.Window.{worst_window, window_at}
use Rattle.plan.specs.Plan.{showing_of}
use Rattle.plan.specs.Disk.{OnDisk, length_at}
use Rattle.plan.specs.FilmWalk.{film_first, film_few, film_fits, film_next, film_visits}
use Rattle.window.specs.Window.{film_window, film_window_at}
use Rattle.window.proofs.worst_of_films.Goals as goal
use Rattle.window.proofs.worst_of_films.Goals.{In-loop-film, After-film_window-own}

-- ---- in a turn

abbrev shown : In-loop-film → Showing
shown t = showing_of t.args.showing

abbrev lengths : In-loop-film → ℕ → ℕ
lengths t = length_at t.args.blocks.now

below : (t : In-loop-film) → t.loop-film.film-index < t.args.films
below t = omega (arith, t.loop-film-test.true)

-- the film that is met is the film of that number
met : (t : In-loop-film) → get_or (take t.args.films t.args.blocks.now) t.loop-film.film-index 0 ≡ lengths t t.loop-film.film-index
met t = get_or-take t.args.films t.args.blocks.now t.loop-film.film-index 0 (below t)

-- the blocks up to the end of this film are few
ends : (t : In-loop-film) → start_of (lengths t) t.loop-film.film-index + lengths t t.loop-film.film-index ≤ max_blocks
ends t =
    let i = t.loop-film.film-index in
    omega (arith, start_next (lengths t) i, start_rises (lengths t) _ t.args.films (below t), t.requires.0.films.all)

-- the visits of this film on what is free
spread : (t : In-loop-film) → (let a = t.args in let l = t.loop-film in
    OnDisk a.sizes.now a.times.now l.free (visits_of (shown t) * lengths t l.film-index))
spread t =
    let a = t.args in
    let l = t.loop-film in
    subst (λ (v : ℕ). OnDisk a.sizes.now a.times.now l.free (v * lengths t l.film-index)) l.invariant.film.each
    (film_visits l.invariant.film (below t) t.requires.0)

pub loop-film-init : goal.loop-film-init
loop-film-init c =
    let a = c.args in
    record {
      film = film_first _ a.total a.blocks.now a.films _ c.visits_of-visits.ensures;
      begins = sym (start_none (length_at a.blocks.now));
      found = found_none _ _;
    }

pub film_window-own-requires : goal.film_window-own-requires
film_window-own-requires c =
    let t = (goal.at.film_window-own-requires c).In-loop-film in
    let a = t.args in
    let f = t.loop-film.invariant.film in
    let falls = falling_less a.total t.loop-film.free (time_at a.sizes.now a.times.now) (omega (arith, f.left)) t.requires.1 in
    rw (met t) (spread t, falls, t.requires.2, t.requires.3)

-- ---- the film's own worst window

film-of : (c : After-film_window-own) → (let a = c.args in let i = c.loop-film.film-index in
    get_or (take a.films a.blocks.now) i 0 ≡ length_at a.blocks.now i)
film-of c = get_or-take c.args.films c.args.blocks.now c.loop-film.film-index 0 (omega (arith, c.loop-film-test.true))

own-time : (c : After-film_window-own) → (let a = c.args in
    c.film_window-own.result.time
    ≡ film_window (showing_of a.showing) (time_at a.sizes.now a.times.now) a.total (length_at a.blocks.now) a.count c.loop-film.film-index)
unfolding film_window
own-time c =
    let a = c.args in
    let x = showing_of a.showing in
    let N = length_at a.blocks.now c.loop-film.film-index in
    let τ = time_at a.sizes.now a.times.now in
    (rw (film-of c) at c.film_window-own.ensures.time)
    ∙ ap (λ (P : ℕ). cond (ltb N a.count) 0 (worst_window x τ (laying x P N) N a.count)) c.loop-film.invariant.film.left

own-first : (c : After-film_window-own) → (let a = c.args in
    c.loop-film.start + c.film_window-own.result.first
    ≡ film_window_at (showing_of a.showing) (time_at a.sizes.now a.times.now) a.total (length_at a.blocks.now) a.count c.loop-film.film-index)
unfolding film_window_at
own-first c =
    let a = c.args in
    let x = showing_of a.showing in
    let N = length_at a.blocks.now c.loop-film.film-index in
    let τ = time_at a.sizes.now a.times.now in
    ap₂ (λ (s b : ℕ). s + b) c.loop-film.invariant.begins ((rw (film-of c) at c.film_window-own.ensures.first.0)
    ∙ ap (λ (P : ℕ). cond (ltb N a.count) 0 (window_at x τ (laying x P N) N a.count)) c.loop-film.invariant.film.left)

pub overflow_add-start : goal.overflow_add-start
overflow_add-start c =
    let t = (goal.at.overflow_add-start c).In-loop-film in
    omega (arith, t.loop-film.invariant.begins, ends t, met t, c.film_window-own.ensures.first.1)

pub overflow_mul-free : goal.overflow_mul-free
overflow_mul-free c =
    let t = (goal.at.overflow_mul-free c).In-loop-film in
    omega (arith, ap (λ (n : ℕ). t.visits_of-visits.result * n) (met t), film_few t.loop-film.invariant.film (below t) t.requires.0.films)

pub overflow_sub-free : goal.overflow_sub-free
overflow_sub-free c =
    let t = (goal.at.overflow_sub-free c).In-loop-film in
    omega (arith, ap (λ (n : ℕ). t.visits_of-visits.result * n) (met t), film_fits t.loop-film.invariant.film (below t) t.requires.0.films)

pub overflow_add-start-in-loop-film : goal.overflow_add-start-in-loop-film
overflow_add-start-in-loop-film c =
    let t = (goal.at.overflow_add-start-in-loop-film c).In-loop-film in omega (arith, t.loop-film.invariant.begins, met t, ends t)

pub loop-film-preserved : goal.loop-film-preserved
loop-film-preserved c =
    let t = (goal.at.loop-film-preserved c).In-loop-film in
    let o = (goal.at.loop-film-preserved c).After-film_window-own in
    let l = t.loop-film in
    let i = l.invariant in
    rw (met t) (record {
      film = film_next i.film (below t) t.requires.0.films;
      begins = omega (arith, i.begins, start_next (lengths t) l.film-index, ap (start_of (lengths t)) (add-one l.film-index));
      found = found_next _ _ _ _ _ i.found _ _ _ _ (own-time o) (own-first o) c.worse-worst.ensures.higher c.worse-worst.ensures.lower;
    })
