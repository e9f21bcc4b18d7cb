use Rattle.std.proofs.Common.{sym, ap, ◌∙◌, ℕ, arith}
use Rattle.words.specs.Words.{with_words}
use Rattle.words.specs.Laws.{with_words_none}
use Rattle.plan.specs.Plan.{showing_of, rows_of}
use Rattle.plan.specs.Disk.{length_at, walked_leads, shelf_leads}
use Rattle.plan.specs.FilmWalk.{film_first, film_last, film_next, film_few, film_fits, film_blocks}
use Rattle.shelf_lists.proofs.Laws.{byte_first, byte_next, rows_end, part_start, part_room, part_roomy, part_written, leads_row}
use Rattle.shelf_lists.proofs.write_shelf_leads.Goals as goal

pub loop-i-init : goal.loop-i-init
unfolding rows_of
loop-i-init c = record {
  here = film_first _ c.args.total c.args.blocks.now c.args.films _ c.visits_of-visits.ensures;
  byte = byte_first _;
  is = sym (with_words_none c.args.leads.now 0);
}

pub slice_bounds-write_leads-count : goal.slice_bounds-write_leads-count
slice_bounds-write_leads-count c =
    let l = c.loop-i.invariant in
    let n = length_at c.args.blocks.now in
    part_start n c.args.films _ _ (omega arith) l.byte _ (part_roomy n c.args.films _ _ (omega arith) l.byte _ _ _ c.requires.1 l.is)

pub slice_bounds-write_leads-start : goal.slice_bounds-write_leads-start
slice_bounds-write_leads-start c =
    let l = c.loop-i.invariant in
    let n = length_at c.args.blocks.now in
    part_start n c.args.films _ _ (omega arith) l.byte _ (part_roomy n c.args.films _ _ (omega arith) l.byte _ _ _ c.requires.1 l.is)

pub write_leads-requires : goal.write_leads-requires
write_leads-requires c =
    let l = c.loop-i.invariant in
    let n = length_at c.args.blocks.now in (
      film_blocks l.here (omega arith) c.requires.0,
      part_room n c.args.films _ _ (omega arith) l.byte _ (part_roomy n c.args.films _ _ (omega arith) l.byte _ _ _ c.requires.1 l.is),
    )

pub overflow_mul-free : goal.overflow_mul-free
overflow_mul-free c = omega (arith, film_few c.loop-i.invariant.here (omega arith) c.requires.0.films)

pub overflow_sub-free : goal.overflow_sub-free
overflow_sub-free c = film_fits c.loop-i.invariant.here (omega arith) c.requires.0.films

pub overflow_add-at : goal.overflow_add-at
overflow_add-at c =
    let l = c.loop-i.invariant in
    omega (arith, l.byte, rows_end (length_at c.args.blocks.now) c.args.films _ _ (omega arith) l.byte, c.requires.0.films.all)

pub loop-i-preserved : goal.loop-i-preserved
loop-i-preserved c =
    let a = c.args in
    let l = c.loop-i.invariant in
    let x = showing_of a.showing in
    let n = length_at a.blocks.now in
    let g = walked_leads a.sizes.now a.times.now x a.total a.blocks.now a.worst2 in
    record {
      here = film_next l.here (omega arith) c.requires.0.films;
      byte = byte_next n _ _ _ l.byte (omega arith);
      is =
          part_written n a.films _ _ (omega arith) l.byte g a.leads.now _ _ _ c.requires.1 l.is c.write_leads.ensures
          (leads_row a.sizes.now a.times.now x a.total a.blocks.now a.worst2 c.loop-i.i _ l.here.left);
    }

pub returns : goal.returns
returns c =
    let a = c.args in
    c.loop-i.invariant.is
    ∙ ap (λ (j : ℕ). with_words a.leads.now 0 (shelf_leads a.sizes.now a.times.now (showing_of a.showing) a.total a.blocks.now a.worst2 j))
    (film_last c.loop-i.invariant.here (omega arith))
