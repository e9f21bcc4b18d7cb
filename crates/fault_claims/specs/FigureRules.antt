-- The judge of each figure says what its rules say.
-- Assumes nothing.
use Prim.Native.Nat.{ℕ, zero, suc, ◌*◌, ◌≤◌, ◌<◌}
use Rattle.std.specs.Prelude.{◌≡◌}
use Rattle.std.proofs.Math.Logic.{inl, inr}
use native.Mathlib.Omega.{arith}
use Rattle.numbers.specs.Limits.{no_number, max_time, times_as_fast}
use Rattle.fault_claims.specs.Rules.{Figure, Kind, Zones, Positions, Time, Films, Blocks, Bytes, Rate, Hop, Return, Overhead}
use Rattle.fault_claims.specs.Rules.{Holds, Values, positions_of, rules}
use Rattle.card_field.specs.declared.Rule.TheVariants as rule

-- what a time is judged by at the i-th zone: the first zone's time and that of the zone before. The first zone has none before it
abbrev pub Earlier : Values → ℕ → ℕ → ℕ → Type 0
Earlier v zero innermost before = (before ≡ max_time) × (innermost ≤ times_as_fast * v (Time 0))
Earlier v (suc i) innermost before = (before ≡ v (Time i)) × (innermost ≡ v (Time 0))

-- the overhead before the j-th, 0 where there is none
abbrev pub entry_before : Values → ℕ → ℕ
entry_before v zero = 0
entry_before v (suc j) = v (Overhead j)

module _ (visits : ℕ) (v : Values) where
  -- a good figure is a number of 32 bits
  pub good_small : (g : Figure) → Holds (rules visits v g) → v g < no_number
  unfolding rules positions_of
  good_small Kind (inl e, u) = omega arith
  good_small Kind (inr e, u) = omega arith
  good_small Zones h = omega (arith, h.0)
  good_small (Positions i) h = omega (arith, h.1.0)
  good_small (Time zero) h = omega (arith, h.0)
  good_small (Time (suc i)) h = omega (arith, h.0)
  good_small Films h = omega (arith, h.0)
  good_small (Blocks i) h = omega (arith, h.0)
  good_small Bytes h = omega (arith, h.0)
  good_small Rate h = omega (arith, h.0)
  good_small Hop h = omega (arith, h.0)
  good_small Return h = omega (arith, h.0)
  good_small (Overhead zero) h = omega (arith, h.0)
  good_small (Overhead (suc j)) h = omega (arith, h.0)
