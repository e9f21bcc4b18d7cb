use Rattle.std.proofs.Common.{◌≡◌, ℕ, ◌+◌, ◌≤◌, ◌<◌, true, false, get_or}
use Rattle.card_table.specs.TableLaws.{NoFall}
use Rattle.card_table.proofs.fault_of_fall.Given as goal

-- no entry so far is below the one before, or some entry is
abbrev pub invariant-loop-k : goal.invariant-loop-k
invariant-loop-k l = record {
  on : l.rises ≡ true → (k : ℕ) → k < l.k → get_or l.table k 0 ≤ get_or l.table (k + 1) 0;
  off : l.rises ≡ false → NoFall l.table → ⊥;
}
