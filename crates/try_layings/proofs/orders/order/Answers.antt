use Rattle.std.proofs.Common.{arith, sym, ◌∙◌, ℕ, ◌+◌, ◌-◌, ◌/◌, ◌≤◌, ◌<◌, List}
use Rattle.std.proofs.lemmas.List.Edits.{swap_is}
use Rattle.numbers.specs.Limits.{max_tried}
use Rattle.try_layings.proofs.Ordering.{Ordering, ordering_next, ordering_last, size_pos, pick}
use Rattle.try_layings.proofs.orders.order.Goals as goal

-- the number that divides is not 0, and the one chosen is one of those left
pub nonzero_div-there : goal.nonzero_div-there
nonzero_div-there c = let l = c.loop-next in size_pos _ _ _ _ l.rest l.size l.next c.requires.0 (omega arith) l.invariant

pub nonzero_rem-rest : goal.nonzero_rem-rest
nonzero_rem-rest c = let l = c.loop-next in size_pos _ _ _ _ l.rest l.size l.next c.requires.0 (omega arith) l.invariant

within : (count number : ℕ) (times row : List ℕ) (rest size next : ℕ) → count ≤ max_tried → next < count
    → Ordering count number times row rest size next → next + rest / (size / (count - next)) < 8
within count number times row rest size next few h o = omega (arith, pick count number times row rest size next few h o)

pub swap-requires : goal.swap-requires
swap-requires c = let l = c.loop-next in
    let h = within _ _ _ _ l.rest l.size l.next c.requires.0 (omega arith) l.invariant in record { a_in_bounds = omega arith; b_in_bounds = omega arith }

pub loop-next-preserved : goal.loop-next-preserved
loop-next-preserved c = let l = c.loop-next in
    let h = within _ _ _ _ l.rest l.size l.next c.requires.0 (omega arith) l.invariant in
    let there = l.next + l.rest / (l.size / (c.args.count - l.next)) in
    rw (c.swap.ensures.after ∙ sym (swap_is l.row there l.next 0 (omega arith) (omega arith)))
    (ordering_next _ _ _ _ l.rest l.size l.next c.requires.0 (omega arith) l.invariant)

pub returns-clause-order : goal.returns-clause-order
returns-clause-order c = let l = c.loop-next in ordering_last _ _ _ _ l.rest l.size l.next (omega arith) l.invariant
