use Rattle.std.proofs.Common.{sym, ap, ◌∙◌, ℕ, arith}
use Rattle.words.specs.Words.{with_words}
use Rattle.words.specs.Laws.{with_words_none}
use Rattle.placement.specs.Shelf.{laying_in}
use Rattle.plan.specs.Plan.{showing_of, rows_of}
use Rattle.plan.specs.Disk.{length_at, shelf_positions, shelved_some}
use Rattle.plan.specs.FilmWalk.{film_first, film_last, film_next, film_takes, film_few, film_fits, free_small}
use Rattle.shelf_lists.proofs.Laws.{byte_first, byte_next, rows_end, part_start, part_room, part_roomy, part_written, visits_at, visits_room, visits_all, visits_row}
use Rattle.shelf_lists.proofs.write_shelf_positions.Goals as goal

pub loop-i-init : goal.loop-i-init
unfolding rows_of
loop-i-init c = record {
  here = film_first _ c.args.total c.args.blocks.now c.args.films _ c.visits_of-visits.ensures;
  byte = byte_first _;
  is = sym (with_words_none c.args.positions.now 0);
}

pub overflow_mul-taken : goal.overflow_mul-taken
overflow_mul-taken c = omega (arith, film_few c.loop-i.invariant.here (omega arith) c.requires.0)

pub slice_bounds-write_positions-count : goal.slice_bounds-write_positions-count
slice_bounds-write_positions-count c =
    let a = c.args in
    let l = c.loop-i.invariant in
    let n = visits_at (showing_of a.showing) a.blocks.now in
    let room = part_roomy n a.films _ _ (omega arith) l.byte _ _ _ (visits_room _ a.blocks.now a.films a.positions.now c.requires.1) l.is in
    part_start n a.films _ _ (omega arith) l.byte _ room

pub slice_bounds-write_positions-start : goal.slice_bounds-write_positions-start
slice_bounds-write_positions-start c =
    let a = c.args in
    let l = c.loop-i.invariant in
    let n = visits_at (showing_of a.showing) a.blocks.now in
    let room = part_roomy n a.films _ _ (omega arith) l.byte _ _ _ (visits_room _ a.blocks.now a.films a.positions.now c.requires.1) l.is in
    part_start n a.films _ _ (omega arith) l.byte _ room

pub write_positions-requires : goal.write_positions-requires
write_positions-requires c =
    let a = c.args in
    let l = c.loop-i.invariant in
    let ok = c.requires.0 in
    let n = visits_at (showing_of a.showing) a.blocks.now in
    let room = part_roomy n a.films _ _ (omega arith) l.byte _ _ _ (visits_room _ a.blocks.now a.films a.positions.now c.requires.1) l.is in
    let e = film_takes l.here (omega arith) ok in (
      omega (arith, e, shelved_some ok c.loop-i.i (omega arith)),
      film_fits l.here (omega arith) ok,
      free_small l.here (omega arith) ok,
      omega (arith, e, part_room n a.films _ _ (omega arith) l.byte _ room),
    )

pub overflow_sub-free : goal.overflow_sub-free
overflow_sub-free c = film_fits c.loop-i.invariant.here (omega arith) c.requires.0

pub overflow_add-at : goal.overflow_add-at
overflow_add-at c =
    let a = c.args in
    let l = c.loop-i.invariant in
    let x = showing_of a.showing in
    omega (
      arith,
      l.byte,
      film_takes l.here (omega arith) c.requires.0,
      rows_end (visits_at x a.blocks.now) a.films _ _ (omega arith) l.byte,
      visits_all x a.blocks.now a.total a.films c.requires.0,
    )

pub loop-i-preserved : goal.loop-i-preserved
loop-i-preserved c =
    let a = c.args in
    let l = c.loop-i.invariant in
    let x = showing_of a.showing in
    let n = visits_at x a.blocks.now in
    let e = film_takes l.here (omega arith) c.requires.0 in
    record {
      here = film_next l.here (omega arith) c.requires.0;
      byte = byte_next n _ _ _ l.byte e;
      is =
          part_written n a.films _ _ (omega arith) l.byte (laying_in x a.total (length_at a.blocks.now)) a.positions.now _ _ _
          (visits_room x a.blocks.now a.films a.positions.now c.requires.1) l.is c.write_positions.ensures
          (visits_row x a.blocks.now a.total c.loop-i.i _ _ e l.here.left);
    }

pub returns : goal.returns
returns c =
    let a = c.args in
    c.loop-i.invariant.is
    ∙ ap (λ (j : ℕ). with_words a.positions.now 0 (shelf_positions (showing_of a.showing) a.total a.blocks.now j))
    (film_last c.loop-i.invariant.here (omega arith))
