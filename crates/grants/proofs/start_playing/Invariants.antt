-- The first i slots are done.
use Rattle.std.proofs.Common.{ℕ, ◌≡◌, List, length}
use Rattle.rules.specs.Supply.{Supply}
use Rattle.rules.specs.Arrays.{slots_of}
use Rattle.turns.specs.Turns.{started_to}
use Rattle.desk.specs.Shown.{Slots}
use Rattle.grants.proofs.start_playing.Given as goal

pub record Starting (kinds₀ held : List ℕ) (streams mark : ℕ) (kinds : List ℕ) (i : ℕ) : Type 0 where
  pub long : length kinds ≡ 256
  pub started : (p : Supply ℕ) (xs : List ℕ) → Slots p streams kinds₀ xs held → slots_of p kinds xs held ≡ started_to p mark i (slots_of p kinds₀ xs held)

abbrev pub invariant-loop-i : goal.invariant-loop-i
invariant-loop-i l = Starting l.fn.kinds l.held l.streams l.mark l.kinds l.i
