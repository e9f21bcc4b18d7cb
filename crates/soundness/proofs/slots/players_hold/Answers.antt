use Rattle.std.proofs.Common.{arith}
use Rattle.soundness.proofs.slots.players_hold.Goals as goal

pub returns : goal.returns
returns c =
    let t = c.loop-i.invariant in
    let least = c.least_held-least.ensures in
    record {
      yes = λ e j u k. (least _).0 (t.yes e j (omega arith) k);
      no = λ e f. t.no e (λ j u k. (least _).1 (f j (omega arith) k));
    }
