use native.Mathlib.Omega.{arith}
use Rattle.worst_row.proofs.walk_to.Goals as goal

pub returns-then-b-walk : goal.returns-then-b-walk
returns-then-b-walk c = let p = c.requires in
    record {
      cursors = p.1.cursors;
      within = c.if-b-walk.true;
      film = p.1.film c.if-b-gt0.true;
      times = p.1.times c.if-b-gt0.true;
    }

pub returns : goal.returns
returns c = let r = c.walk_on.ensures in
    record { cursors = r.cursors; within = omega (arith, r.ahead, c.requires.2); film = r.within; times = r.times }
