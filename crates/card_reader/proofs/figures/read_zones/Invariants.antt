use Rattle.std.proofs.Common.{◌≡◌, ℕ, ◌-◌, ◌≤◌, List}
use Rattle.numbers.specs.Limits.{max_positions, max_time}
use Rattle.card.specs.declared.CardRead.{CardRead}
use Rattle.card.specs.Read.{zones_from}
use Rattle.card_reader.proofs.figures.read_zones.Given as goal

-- the zones before the i-th are read
abbrev pub invariant-loop-i : goal.invariant-loop-i
invariant-loop-i l = record {
  few : l.total ≤ max_positions;
  same : (go : List ℕ → List ℕ → ℕ → ℕ → CardRead)
      → zones_from (l.zones - l.i) l.card l.at l.i l.sizes l.times l.total l.before go
      ≡ zones_from l.zones l.card l.start 0 l.fn.sizes l.fn.times 0 max_time go;
}
