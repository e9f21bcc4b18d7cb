use Rattle.std.proofs.Common.{sym, ◌∙◌, arith}
use borrow.Author.Count.{below_more}
use Rattle.soundness.proofs.Tells.{none_set, both_unset}
use Rattle.soundness.proofs.slots.rest_zero.Goals as goal

pub loop-i-preserved : goal.loop-i-preserved
loop-i-preserved c =
    let l = c.loop-i in
    let kind = c.kind_in.ensures in
    let next = c.next_in.ensures in
    let held = c.held_in.ensures in
    let place = c.place_in.ensures in
    record {
      zero = λ e. let v = both_unset e in
          let z = both_unset v.1 in
          let y = both_unset z.0 in
          let x = both_unset y.0 in
          below_more _ l.i (l.invariant.zero v.0) (λ _. (sym kind ∙ x.0, sym next ∙ x.1, sym held ∙ y.1, sym place ∙ z.1));
      unset = λ r. let z = r l.i (omega arith) (omega arith) in
          none_set (l.invariant.unset (λ j h. r j (omega arith))) (none_set (none_set (none_set (kind ∙ z.0) (next ∙ z.1)) (held ∙ z.2)) (place ∙ z.3));
    }
