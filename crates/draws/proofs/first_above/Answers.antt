use Rattle.std.proofs.Common.{arith}
use borrow.Author.Count.{below_more}
use Rattle.draws.proofs.first_above.Goals as goal

pub returns-then-limit-word_at : goal.returns-then-limit-word_at
returns-then-limit-word_at g c = λ most e. record {
  inside = omega arith;
  below = c.loop-i.invariant most e;
  above = omega (arith, e c.loop-i.i c.limit.result (omega arith) c.limit.ensures);
}

pub loop-i-preserved : goal.loop-i-preserved
loop-i-preserved g c = λ most e.
    below_more _ c.loop-i.i (c.loop-i.invariant most e) (omega (arith, e c.loop-i.i c.limit.result (omega arith) c.limit.ensures))

pub returns : goal.returns
returns g c = λ most e j h. c.loop-i.invariant most e j (omega arith)
