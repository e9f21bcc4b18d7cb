use Rattle.std.proofs.Common.{◌≡◌, ℕ, ◌-◌, ◌≤◌, List, length}
use Rattle.numbers.specs.Limits.{max_positions, max_time}
use Rattle.card.specs.declared.Scalars.{Scalars}
use Rattle.card.specs.Card.{zone_faults}
use Rattle.card.specs.Read.{figures_from}
use Rattle.card.proofs.judge.fault_of_zones.Given as goal

-- the zones before this one are judged
abbrev pub invariant-loop-count : goal.invariant-loop-count
invariant-loop-count l = record {
  few : l.total ≤ max_positions;
  same : (k : ℕ) (x : Scalars) (os : List ℕ)
      → zone_faults k (l.zones - length l.yielded) (length l.yielded) (figures_from x l.positions l.times os) l.total l.before
      ≡ zone_faults k l.zones 0 (figures_from x l.positions l.times os) 0 max_time;
}
