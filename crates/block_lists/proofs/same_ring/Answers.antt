use Rattle.std.proofs.Common.{arith, rules, sym, ◌%◌, ◌∙◌}
use Rattle.words.specs.Words.{words_of}
use Rattle.placement.specs.Circle.{ring}
use Rattle.placement.specs.CircleBest.{ring_first}
use Rattle.block_lists.specs.Turns.{turn_of}
use Rattle.block_lists.proofs.Runs.{compares_start, compares_one, compares_run, compares_end, has_all}
use Rattle.block_lists.proofs.Turns.{early_turns, late_turns}
use Rattle.block_lists.proofs.same_ring.Goals as goal

pub returns : goal.returns
returns c = let a = c.args in
    let p = c.requires in
    let n = compares_start (words_of a.list.now) (ring a.total a.blocks) 0 a.blocks (omega arith) in
    let w = compares_one n p.0 p.3 c.both-first.ensures c.word_at.ensures (sym (ring_first a.total a.blocks)) in
    let e = compares_run w (omega arith) (omega arith) c.both-early.ensures
    (c.same_each-half.ensures (turn_of a.total a.blocks 1) (λ k v l u r. search rules)) (early_turns p.0 p.1) in
    let l = compares_run e (omega arith) (omega arith) c.both.ensures
    (c.same_each-late.ensures (turn_of a.total a.blocks (a.blocks % 2)) (λ k v l u r. search rules)) (late_turns p.0 p.1) in
    compares_end l (omega arith) ∙ has_all (ring a.total a.blocks) (words_of a.list.now) a.blocks
