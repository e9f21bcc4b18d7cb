use Rattle.std.proofs.Common.{◌≡◌, ◌*◌, refl, sym, ap, ap₂, ◌∙◌, ℕ, List, arith}
use Rattle.laws.specs.Starts.{start_of}
use Rattle.words.specs.Words.{words_of}
use Rattle.placement.specs.Showing.{Showing, visits_of}
use Rattle.placement.specs.Shelf.{laying_in}
use Rattle.plan.specs.Plan.{showing_of, rows_of}
use Rattle.plan.specs.Answer.{begins}
use Rattle.plan.specs.Disk.{length_at, shelf_positions, shelved_some}
use Rattle.plan.specs.Films.{rows_short}
use Rattle.plan.specs.FilmWalk.{film_first, film_last, film_next, film_takes, film_few, film_fits, free_small}
use Rattle.shelf_lists.proofs.Laws.{byte_first, byte_next, rows_end, part_start, part_same, visits_at, visits_start, visits_all, visits_row}
use Rattle.shelf_lists.proofs.same_shelf_positions.Goals as goal

-- the entries of all films, as the code multiplies them
all_are : (x : Showing) (bs : List ℕ) (F v n : ℕ) → v ≡ visits_of x → n ≡ start_of (length_at bs) F → v * n ≡ start_of (visits_at x bs) F
all_are x bs F v n e d = ap₂ ◌*◌ e d ∙ sym (visits_start x bs F)

pub returns-then-entries-visits : goal.returns-then-entries-visits
returns-then-entries-visits c =
    let a = c.args in
    let x = showing_of a.showing in
    rows_short (laying_in x a.total (length_at a.blocks.now)) (visits_at x a.blocks.now) a.films (words_of a.positions.now)
    (omega (arith, all_are x a.blocks.now a.films _ _ c.visits_of-visits.ensures c.blocks_before.ensures, c.entries.ensures))

pub loop-i-init : goal.loop-i-init
unfolding rows_of begins
loop-i-init c = record {
  here = film_first _ c.args.total c.args.blocks.now c.args.films _ c.visits_of-visits.ensures;
  byte = byte_first _;
  is = refl;
}

pub overflow_mul-all : goal.overflow_mul-all
overflow_mul-all c = omega (arith, film_few c.loop-i.invariant.here (omega arith) c.requires)

pub slice_bounds-same_positions-count : goal.slice_bounds-same_positions-count
slice_bounds-same_positions-count c =
    let a = c.args in
    let l = c.loop-i.invariant in
    let x = showing_of a.showing in
    part_start (visits_at x a.blocks.now) a.films _ _ (omega arith) l.byte _
    (omega (arith, all_are x a.blocks.now a.films _ _ c.visits_of-visits.ensures c.blocks_before.ensures, c.entries.ensures))

pub slice_bounds-same_positions-start : goal.slice_bounds-same_positions-start
slice_bounds-same_positions-start c =
    let a = c.args in
    let l = c.loop-i.invariant in
    let x = showing_of a.showing in
    part_start (visits_at x a.blocks.now) a.films _ _ (omega arith) l.byte _
    (omega (arith, all_are x a.blocks.now a.films _ _ c.visits_of-visits.ensures c.blocks_before.ensures, c.entries.ensures))

pub same_positions-film-requires : goal.same_positions-film-requires
same_positions-film-requires c =
    let l = c.loop-i.invariant in
    let ok = c.requires in
    let e = film_takes l.here (omega arith) ok in
    (omega (arith, e, shelved_some ok c.loop-i.i (omega arith)), film_fits l.here (omega arith) ok, free_small l.here (omega arith) ok)

pub overflow_sub-free : goal.overflow_sub-free
overflow_sub-free c = film_fits c.loop-i.invariant.here (omega arith) c.requires

pub overflow_add-at : goal.overflow_add-at
overflow_add-at c =
    let a = c.args in
    let l = c.loop-i.invariant in
    let x = showing_of a.showing in
    omega (
      arith,
      l.byte,
      film_takes l.here (omega arith) c.requires,
      rows_end (visits_at x a.blocks.now) a.films _ _ (omega arith) l.byte,
      visits_all x a.blocks.now a.total a.films c.requires,
    )

pub loop-i-preserved : goal.loop-i-preserved
loop-i-preserved c =
    let a = c.args in
    let l = c.loop-i.invariant in
    let x = showing_of a.showing in
    let n = visits_at x a.blocks.now in
    let e = film_takes l.here (omega arith) c.requires in
    record {
      here = film_next l.here (omega arith) c.requires;
      byte = byte_next n _ _ _ l.byte e;
      is =
          c.both-same.ensures
          ∙ part_same n a.films _ _ (omega arith) l.byte (laying_in x a.total (length_at a.blocks.now)) a.positions.now _ _ _ l.is
          c.same_positions-film.ensures (visits_row x a.blocks.now a.total c.loop-i.i _ _ e l.here.left);
    }

pub returns : goal.returns
returns c =
    let a = c.args in
    c.loop-i.invariant.is
    ∙ ap (λ (j : ℕ). begins (shelf_positions (showing_of a.showing) a.total a.blocks.now j) (words_of a.positions.now))
    (film_last c.loop-i.invariant.here (omega arith))
