use Rattle.std.proofs.Common.{◌≡◌, sym, ap, ◌∙◌, get_or, arith}
use Rattle.std.proofs.Math.Path.{subst}
use Rattle.words.specs.Words.{words_of}
use Rattle.plan.specs.Plan.{listed_at}
use Rattle.desk_layout.specs.Layout.{desk_in}
use Rattle.desk_columns.specs.Films.{HasStart, entry_of, entry_listed, has_start}
use Rattle.floor.specs.Sources.{leads_next}
use Rattle.floor.proofs.Summing.{Adds, summed_none, summed_next, summed_end}
use Rattle.floor.proofs.sum_leads.Goals as goal

pub loop-i-init : goal.loop-i-init
loop-i-init c = summed_none _ _ _ _

pub entry_of-number-requires : goal.entry_of-number-requires
entry_of-number-requires c =
    let f = c.requires.2 in
    let z = c.film_starts-starts in
    subst (HasStart z.result) (sym c.next_in.ensures) (has_start _ _ f.shelved z.ensures _ (f.films c.loop-i.i c.loop-i-test.true))

pub loop-i-preserved : goal.loop-i-preserved
loop-i-preserved c =
    let a = c.args in
    let d = desk_in (words_of a.desk.now) in
    let f = c.requires.2 in
    let l = c.loop-i in
    let z = c.film_starts-starts in
    let number : c.entry_of-number.result ≡ listed_at d.plan.figures (get_or d.next l.i 0) =
    c.entry_of-number.ensures ∙ ap (entry_of z.result) c.next_in.ensures ∙ entry_listed _ _ z.ensures _ (f.films l.i c.loop-i-test.true)
    in
    let adds : Adds (get_or d.kinds l.i 0) (leads_next a.listed d a.sizes.now a.times.now a.positions.now a.leads.now l.i) c.added_lead-sum.result =
    rw (sym c.kind_in-kind.ensures, sym number, sym c.worst2_in-worst2.ensures)
    (record { block = c.added_lead-sum.ensures.block; none = c.added_lead-sum.ensures.none })
    in
    summed_next _ _ _ _ f.small l.i _ c.loop-i-test.true adds l.sum l.invariant (omega (arith, c.requires.0))

pub returns : goal.returns
returns c = summed_end _ _ _ _ _ _ c.loop-i.invariant (omega arith) c.requires.0
