use Rattle.std.proofs.Common.{arith, rules, ◌%◌, ◌∙◌}
use Rattle.placement.specs.Circle.{ring}
use Rattle.block_lists.specs.Turns.{turn_of}
use Rattle.block_lists.proofs.Runs.{writes_end, written_all}
use Rattle.block_lists.proofs.Turns.{first_written, early_written, late_written}
use Rattle.block_lists.proofs.put_ring.Goals as goal

pub put_each-requires-clause-within : goal.put_each-requires-clause-within
put_each-requires-clause-within c = let p = c.requires in
    let w = first_written p.0 p.1 c.put_word.ensures in record { order = omega arith; long = omega (arith, w.entries) }

pub put_each-requires-2-clause-within : goal.put_each-requires-2-clause-within
put_each-requires-2-clause-within c = let p = c.requires in
    let e = c.put_each.ensures (turn_of c.args.total c.args.blocks 1) (λ k v l u r. search rules) in
    let w = early_written p.0 p.1 (first_written p.0 p.1 c.put_word.ensures) e in record { order = omega arith; long = omega (arith, w.entries) }

pub returns : goal.returns
returns c = let a = c.args in
    let p = c.requires in
    let e = c.put_each.ensures (turn_of a.total a.blocks 1) (λ k v l u r. search rules) in
    let l = c.put_each-2.ensures (turn_of a.total a.blocks (a.blocks % 2)) (λ k v l u r. search rules) in
    writes_end (late_written p.0 p.1 (early_written p.0 p.1 (first_written p.0 p.1 c.put_word.ensures) e) l) (omega arith)
    ∙ written_all a.list.now (ring a.total a.blocks) a.blocks
