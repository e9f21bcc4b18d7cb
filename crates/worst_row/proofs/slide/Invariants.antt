use Rattle.std.specs.Prelude.{ℕ, suc, ◌≡◌}
use Rattle.laws.specs.Greatest.{Peak}
use Rattle.worst_row.specs.Rows.{Slides}
use Rattle.worst_row.proofs.slide.Given as goal

-- the row that starts at block b, and the worst up to it
abbrev pub invariant-loop-b : goal.invariant-loop-b
invariant-loop-b l = record {
  time : (g : ℕ → ℕ) → Slides g l.fn.ahead l.fn.behind l.fn.front l.fn.from l.fn.to l.fn.row.sum l.fn.row.worst → l.sum ≡ g l.b;
  found : (g : ℕ → ℕ) → Slides g l.fn.ahead l.fn.behind l.fn.front l.fn.from l.fn.to l.fn.row.sum l.fn.row.worst
      → Peak g (suc l.b) l.worst.first l.worst.time;
}
