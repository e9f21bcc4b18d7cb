-- Laws of what specs/Reading defines.
use Prim.Native.Nat.{ℕ}
use Rattle.std.specs.Prelude.{refl}
use native.Mathlib.Omega.{arith}
use Rattle.fault_claims.specs.Rules.{figures_in_order}
use Rattle.fault_claims.specs.Reading.{Counted, counted_zones}

pub counted_card : (kind z m : ℕ) → Counted z m 0 (figures_in_order kind z m)
unfolding figures_in_order
counted_card kind z m = (refl, (refl, counted_zones z m z 0 2 kind (omega arith) (omega arith)))
