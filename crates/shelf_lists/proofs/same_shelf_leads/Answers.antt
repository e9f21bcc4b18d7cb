use Rattle.std.proofs.Common.{refl, ap, ◌∙◌, ℕ, arith}
use Rattle.words.specs.Words.{words_of}
use Rattle.plan.specs.Plan.{showing_of, rows_of}
use Rattle.plan.specs.Answer.{begins}
use Rattle.plan.specs.Disk.{length_at, walked_leads, shelf_leads}
use Rattle.plan.specs.Films.{rows_short}
use Rattle.plan.specs.FilmWalk.{film_first, film_last, film_next, film_few, film_fits, film_blocks}
use Rattle.shelf_lists.proofs.Laws.{byte_first, byte_next, rows_end, part_start, part_same, leads_row}
use Rattle.shelf_lists.proofs.same_shelf_leads.Goals as goal

pub returns-then-entries-blocks_before : goal.returns-then-entries-blocks_before
returns-then-entries-blocks_before c =
    let a = c.args in
    rows_short (walked_leads a.sizes.now a.times.now (showing_of a.showing) a.total a.blocks.now a.worst2) (length_at a.blocks.now)
    a.films (words_of a.leads.now) (omega (arith, c.blocks_before.ensures, c.entries.ensures))

pub loop-i-init : goal.loop-i-init
unfolding rows_of begins
loop-i-init c = record {
  here = film_first _ c.args.total c.args.blocks.now c.args.films _ c.visits_of-visits.ensures;
  byte = byte_first _;
  is = refl;
}

pub slice_bounds-same_leads-count : goal.slice_bounds-same_leads-count
slice_bounds-same_leads-count c =
    let l = c.loop-i.invariant in
    part_start (length_at c.args.blocks.now) c.args.films _ _ (omega arith) l.byte _ (omega (arith, c.blocks_before.ensures, c.entries.ensures))

pub slice_bounds-same_leads-start : goal.slice_bounds-same_leads-start
slice_bounds-same_leads-start c =
    let l = c.loop-i.invariant in
    part_start (length_at c.args.blocks.now) c.args.films _ _ (omega arith) l.byte _ (omega (arith, c.blocks_before.ensures, c.entries.ensures))

pub same_leads-led-requires : goal.same_leads-led-requires
same_leads-led-requires c = film_blocks c.loop-i.invariant.here (omega arith) c.requires

pub overflow_mul-free : goal.overflow_mul-free
overflow_mul-free c = omega (arith, film_few c.loop-i.invariant.here (omega arith) c.requires.films)

pub overflow_sub-free : goal.overflow_sub-free
overflow_sub-free c = film_fits c.loop-i.invariant.here (omega arith) c.requires.films

pub overflow_add-at : goal.overflow_add-at
overflow_add-at c =
    let l = c.loop-i.invariant in
    omega (arith, l.byte, rows_end (length_at c.args.blocks.now) c.args.films _ _ (omega arith) l.byte, c.requires.films.all)

pub loop-i-preserved : goal.loop-i-preserved
loop-i-preserved c =
    let a = c.args in
    let l = c.loop-i.invariant in
    let x = showing_of a.showing in
    let n = length_at a.blocks.now in
    let g = walked_leads a.sizes.now a.times.now x a.total a.blocks.now a.worst2 in
    record {
      here = film_next l.here (omega arith) c.requires.films;
      byte = byte_next n _ _ _ l.byte (omega arith);
      is =
          c.both-same.ensures
          ∙ part_same n a.films _ _ (omega arith) l.byte g a.leads.now _ _ _ l.is c.same_leads-led.ensures
          (leads_row a.sizes.now a.times.now x a.total a.blocks.now a.worst2 c.loop-i.i _ l.here.left);
    }

pub returns : goal.returns
returns c =
    let a = c.args in
    c.loop-i.invariant.is
    ∙ ap (λ (j : ℕ). begins (shelf_leads a.sizes.now a.times.now (showing_of a.showing) a.total a.blocks.now a.worst2 j) (words_of a.leads.now))
    (film_last c.loop-i.invariant.here (omega arith))
