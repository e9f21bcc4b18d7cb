use Rattle.std.proofs.Common.{◌≡◌, sym, ap, ◌∙◌, get_or, arith}
use Rattle.std.proofs.Math.Path.{subst}
use Rattle.words.specs.Words.{words_of}
use Rattle.desk_layout.specs.Layout.{desk_in}
use Rattle.desk_columns.specs.Films.{HasStart, entry_of, entry_listed, has_start}
use Rattle.gather.specs.Gather.{NextFound, next_number, gathered}
use Rattle.gather.proofs.Collecting.{stored, collecting_none, collecting_next}
use Rattle.gather.proofs.gather.Goals as goal

pub loop-i-init : goal.loop-i-init
loop-i-init c = collecting_none _ _ _ _ _ _ c.requires.3 c.requires.4 c.requires.5

pub entry_of-number-requires : goal.entry_of-number-requires
entry_of-number-requires c =
    let r = c.requires.2 in
    let z = c.film_starts-starts in
    subst (HasStart z.result) (sym c.next_in.ensures) (has_start _ _ r.shelved z.ensures _ (r.films c.loop-i.i c.loop-i-test.true))

pub next_block-b-requires : goal.next_block-b-requires
next_block-b-requires c =
    let d = desk_in (words_of c.args.desk.now) in
    let r = c.requires.2 in
    let z = c.film_starts-starts in
    let i = c.loop-i.i in
    let number : c.entry_of-number.result ≡ next_number d i =
    c.entry_of-number.ensures ∙ ap (entry_of z.result) c.next_in.ensures ∙ entry_listed _ _ z.ensures _ (r.films i c.loop-i-test.true)
    in
    rw (c.zone_sizes-sizes.ensures, c.zone_times-times.ensures, number) (r.zoned, r.here i c.loop-i-test.true)

pub loop-i-preserved : goal.loop-i-preserved
unfolding stored
loop-i-preserved c =
    let a = c.args in
    let d = desk_in (words_of a.desk.now) in
    let z = c.film_starts-starts in
    let l = c.loop-i in
    let number : c.entry_of-number.result ≡ next_number d l.i =
    c.entry_of-number.ensures ∙ ap (entry_of z.result) c.next_in.ensures ∙ entry_listed _ _ z.ensures _ (c.requires.2.films l.i c.loop-i-test.true)
    in
    let finds : NextFound d.plan.figures.positions d.plan.figures.times a.positions.now a.visits (get_or a.kinds.now l.i 0) (next_number d l.i) c.next_block-b.result =
    rw (sym c.zone_sizes-sizes.ensures, sym c.zone_times-times.ensures, sym number) c.next_block-b.ensures
    in
    collecting_next _ _ _ _ _ (gathered l.found l.spots l.others) l.i c.next_block-b.result l.invariant c.loop-i-test.true
    (omega (arith, c.loop-i-test.true, c.requires.1)) finds

pub returns : goal.returns
returns c =
    let l = c.loop-i in
    let e : l.i ≡ c.args.streams = omega (arith, c.loop-i-test.false, l.invariant.few) in
    rw (sym e) l.invariant.collected
