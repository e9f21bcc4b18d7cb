-- The place of 20 and of 21 is the lowest slot whose draw is above what it may draw, or above what it holds.
-- Assumes nothing.
use Prim.Native.Nat.{ℕ}
use Rattle.std.specs.Prelude.{◌≡◌, refl, ◌≢◌, true, false, List}
use Rattle.std.proofs.Common.{sym}
use Rattle.std.proofs.Math.Bool.{Bool}
use Rattle.numbers.specs.Refusals.{not_sound}
use Rattle.words.specs.Words.{words_of}
use Rattle.rules.specs.Scheduler.{end, at}
use Rattle.rules.specs.Sound.{sound}
use Rattle.rules.specs.Refusals.{Verdict, unless, judged}
use Rattle.desk.specs.declared.Desk.{Desk}
use Rattle.desk.specs.Desk.{supply_of, view_of}
use Rattle.rules.specs.Calls as C

-- one that is not 14 is of the rows after it
pub past_sound : (t : Bool) (r : Verdict) (k : ℕ) → k ≢ not_sound → (unless t not_sound 0 r).number ≡ k → unless t not_sound 0 r ≡ r
past_sound true r k n e = refl
past_sound false r k n e = absurd (n (sym e))

module _ (d : Desk) (ps ls draws : List ℕ) where
  abbrev pub judgment : Verdict
  judgment = judged (supply_of d.plan) (view_of d) 0 (end (words_of draws))
