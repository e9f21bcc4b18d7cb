-- The leads that are gathered for the slots of a sweep, and what the floor is compared with.
-- Assumes nothing.
use Rattle.std.specs.Prelude.{ℕ, ◌+◌, ◌*◌, ◌-◌, ◌≤◌, ◌<◌, ◌≡◌, refl, List, get_or}
use Rattle.numbers.specs.Limits.{max_time, max_streams}
use Rattle.numbers.specs.Slots.{waiting, playing}
use Rattle.numbers.specs.Units.{parts}
use Rattle.plan.specs.declared.Plan.{Plan}
use Rattle.rules.specs.Supply.{Supply}
use Rattle.rules.specs.Scheduler.{leads, low_water}
use Rattle.rules.specs.Arrays.{slots_of}
use Rattle.desk.specs.declared.Desk.{Desk}
use Rattle.desk.specs.Desk.{supply_of, slots_in}
use Rattle.desk.specs.Shown.{Slots}

-- no lead of a plan is above it: twice the greatest time, less a worst time that is greater than it
abbrev pub most_lead : ℕ
most_lead = max_time - 1

-- stands for the least that a playing slot holds where none plays: 2,000,000 times it is above every floor
abbrev pub ample : ℕ
ample = 1000000000000

-- the leads at the next blocks of all filling and playing slots, added up
abbrev pub lead_sum : Desk → ℕ
lead_sum d = leads (supply_of d.plan) (slots_in d)

-- g has the lead of the next block of each asked, filling or playing slot of the first n, by the slot: it is in its range
abbrev pub Small : (ℕ → ℕ) → List ℕ → ℕ → Type 0
Small g ks n = (i : ℕ) → i < n → waiting ≤ get_or ks i 0 → get_or ks i 0 ≤ playing → g i ≤ most_lead

-- and it is that of a supply p
abbrev pub LeadsOf : Supply ℕ → (ℕ → ℕ) → List ℕ → List ℕ → ℕ → Type 0
LeadsOf p g ks xs n = (i : ℕ) → i < n → waiting ≤ get_or ks i 0 → get_or ks i 0 ≤ playing → g i ≡ p.lead (get_or xs i p.none)

-- sum is what the leads of the filling and playing slots add up to, for every supply whose leads they are
pub record Added (g : ℕ → ℕ) (ks xs : List ℕ) (n sum : ℕ) : Type 0 where
  pub sums : (p : Supply ℕ) (hs : List ℕ) → Slots p n ks xs hs → LeadsOf p g ks xs n → sum ≡ leads p (slots_of p ks xs hs)
  pub most : sum ≤ max_streams * most_lead

-- sum is what the leads of a record add up to, and in its range
pub record LeadsSummed (d : Desk) (sum : ℕ) : Type 0 where
  pub sums : sum ≡ lead_sum d
  pub most : sum ≤ max_streams * most_lead

-- the floor as the code computes it
pub mark_is : (p : Plan) (L : ℕ) → low_water (supply_of p) L ≡ parts * p.figures.bytes + p.figures.rate * L
unfolding supply_of low_water
mark_is p L = refl
