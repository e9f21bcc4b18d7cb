use Rattle.std.proofs.Common.{ℕ, suc, ◌+◌, ◌≡◌, refl, sym, ap, ◌∙◌, arith}
use Rattle.placement.specs.Circle.{round}
use Rattle.placement.specs.Showing.{laying, walked_single}
use Rattle.placement.specs.Zones.{time_at}
use Rattle.pacing.specs.Film.{span}
use Rattle.plan.specs.Plan.{showing_of, walk_of}
use Rattle.plan.specs.FilmWalk.{visit_quick}
use Rattle.worst_row.specs.Rows.{past, row_time}
use Rattle.worst_row.proofs.RowLaws.{past_more, past_below, row_more, row_small}
use Rattle.worst_row.proofs.first_row.Goals as goal
use Rattle.worst_row.proofs.first_row.Goals.{After-step_on-ahead}

pub loop-init : goal.loop-init
unfolding past span
loop-init c = record { comes = c.start-ahead.ensures.comes _ _ _; next = c.start-ahead.ensures.at; time = refl }

pub step_on-ahead-requires : goal.step_on-ahead-requires
step_on-ahead-requires c =
    let l = c.loop in
    (c.requires.0, l.invariant.comes, omega (arith, l.invariant.next, past_below c.args.blocks l.counter 0 c.requires.0.some))

-- the time of one block more
grown : (c : After-step_on-ahead) → (let l = c.loop in let a = c.args in
    l.sum + c.step_on-ahead.result.time ≡ row_time a.sizes.now a.times.now (laying (walk_of a.showing) a.total a.blocks) a.blocks
    (suc l.counter) 0)
grown c =
    let l = c.loop in
    let a = c.args in
    let L = laying (walk_of a.showing) a.total a.blocks in
    let e = c.step_on-ahead.ensures.time ∙ ap (λ (b : ℕ). time_at a.sizes.now a.times.now (L b)) l.invariant.next in
    omega (arith, l.invariant.time, e, row_more a.sizes.now a.times.now L a.blocks l.counter 0)

pub overflow_add-sum : goal.overflow_add-sum
overflow_add-sum c =
    let l = c.loop in
    let a = c.args in
    let x = walk_of a.showing in
    let quick = visit_quick a.sizes.now a.times.now a.total a.blocks c.requires.0 x (walked_single (showing_of a.showing)) in
    omega (
      arith,
      grown (goal.at.overflow_add-sum c).After-step_on-ahead,
      c.requires.1,
      row_small a.sizes.now a.times.now (laying x a.total a.blocks) a.blocks quick (suc l.counter) 0 c.requires.0.some,
    )

pub loop-preserved : goal.loop-preserved
loop-preserved c =
    let l = c.loop in
    let a = c.args in
    let t = c.step_on-ahead.ensures in
    let e : l.counter + 1 ≡ suc l.counter = omega arith in
    record {
      comes = t.comes;
      next = t.next ∙ ap (round a.blocks) l.invariant.next ∙ sym (past_more a.blocks l.counter 0) ∙ ap (λ (n : ℕ). past a.blocks n 0) (sym e);
      time = rw e (grown (goal.at.loop-preserved c).After-step_on-ahead);
    }

pub returns : goal.returns
returns c =
    let i = c.loop.invariant in
    let e : c.loop.counter ≡ c.args.count = omega arith in
    record { comes = i.comes; next = rw e at i.next; time = rw e at i.time }
