-- The draws of an end, as they are judged.
-- Assumes nothing.
use Rattle.std.specs.Prelude.{ℕ, ◌≤◌, ◌<◌, ◌≡◌, cond, ◌||◌, List, length, get_or, eqb}
use Rattle.card.specs.declared.Verdict.{Verdict}
use Rattle.numbers.specs.Slots.{playing, draining, sweeping}
use Rattle.rules.specs.Supply.{Supply}
use Rattle.rules.specs.Scheduler.{end, most_drawn}
use Rattle.rules.specs.Order.{Scheduler}
use Rattle.rules.specs.Arrays.{slots_of}
use Rattle.rules.specs.Refusals.{judged}
use Rattle.desk.specs.Desk.{Queue, verdict}
use Rattle.desk.specs.Shown.{Slots}

-- none of the first n draws is above its limit
abbrev pub NoneAbove : (ℕ → ℕ) → List ℕ → ℕ → Type 0
NoneAbove limit draws n = (j : ℕ) → j < n → get_or draws j 0 ≤ limit j

-- draw i is the first that is
pub record FirstAbove (limit : ℕ → ℕ) (draws : List ℕ) (i : ℕ) : Type 0 where
  pub inside : i < length draws
  pub below : NoneAbove limit draws i
  pub above : limit i < get_or draws i 0

-- what a slot of kind k may draw where m is the most; `other kinds draw 0`
unfoldable pub kind_limit : ℕ → ℕ → ℕ
kind_limit m k = cond (eqb k playing || eqb k draining) m 0

-- what the judge is told of a supply p: v is in a sweep, ks, xs and hs are its slots, n its streams and m the most that a slot may draw
pub record Sweeps (p : Supply ℕ) (v : Scheduler ℕ Queue) (n m : ℕ) (ks xs hs : List ℕ) : Type 0 where
  pub phase : v.phase ≡ sweeping
  pub shown : Slots p n ks xs hs
  pub slots : v.slots ≡ slots_of p ks xs hs
  pub streams : n ≡ p.n
  pub most : m ≡ most_drawn p v.slots

-- the verdict on the draws of an end
unfoldable pub judged_draws : Supply ℕ → Scheduler ℕ Queue → List ℕ → Verdict
judged_draws p v draws = let u = judged p v 0 (end draws) in verdict u.number u.place
