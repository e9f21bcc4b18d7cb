use Rattle.std.proofs.Common.{arith, refl, ap, ◌∙◌, ℕ, ◌+◌, max, ◌≤◌, ◌<◌, get_or}
use Rattle.std.proofs.Common.{rules}
use Rattle.laws.specs.Greatest.{greatest_of}
use Rattle.numbers.specs.Limits.{max_time}
use Rattle.placement.specs.Showing.{pairs_of}
use Rattle.plan.specs.Plan.{walk_of}
use Rattle.try_layings.proofs.Pairs.{inside, time_small, worst_next, worst_last}
use Rattle.try_layings.proofs.worst.worst_of.Goals as goal

pub loop-b-init : goal.loop-b-init
unfolding greatest_of
loop-b-init c = (refl, omega arith)

-- the pair is one of the film's
pair : (c : goal.In-loop-b) → c.loop-b.b < pairs_of (walk_of c.args.showing) c.args.blocks
pair c = omega arith

pub next_block-next-requires : goal.next_block-next-requires
next_block-next-requires c = ((inside c.args.showing c.args.blocks c.loop-b.b (pair c)).0, c.requires.1)

pub bounds-row-next : goal.bounds-row-next
bounds-row-next c = omega (arith, inside c.args.showing c.args.blocks c.loop-b.b (omega arith))

pub loop-b-preserved : goal.loop-b-preserved
loop-b-preserved c =
    let a = c.args in
    let b = c.loop-b.b in
    let next = c.next_block-next.result in
    let h : b < pairs_of (walk_of a.showing) a.blocks = omega arith in
    let i = inside a.showing a.blocks b h in
    let s : get_or a.row b 0 ≤ max_time = time_small a.row b c.requires.2 (search rules) (omega arith) in
    let t : get_or a.row next 0 ≤ max_time = time_small a.row next c.requires.2 (search rules) (omega arith) in (
      c.max-worst.ensures ∙ ap (λ (k : ℕ). max c.loop-b.worst (get_or a.row b 0 + get_or a.row k 0)) c.next_block-next.ensures
          ∙ worst_next a.showing a.blocks a.row b c.loop-b.worst h c.loop-b.invariant.0,
      omega arith,
    )

pub returns : goal.returns
returns c = record {
  worst = worst_last c.args.showing c.args.blocks c.args.row c.loop-b.b c.loop-b.worst (omega arith) c.loop-b.invariant.0;
  small = omega arith;
}
