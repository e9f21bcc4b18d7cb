use Rattle.std.specs.Prelude.{◌≡◌}
use Rattle.laws.specs.Greatest.{greatest_of}
use Rattle.plan.specs.Disk.{length_at}
use Rattle.window.proofs.longest.Given as goal

abbrev pub invariant-loop-film : goal.invariant-loop-film
invariant-loop-film l = l.most ≡ greatest_of (length_at l.fn.blocks) l.film-index
