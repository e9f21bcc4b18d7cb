-- The scheduler's record, and the order in which it grants: what the rules keep beside the slots, and what a begin makes of both.
-- Assumes nothing.
use Rattle.std.specs.Prelude.{ℕ, zero, suc, ◌+◌, ◌-◌, Bool, true, false, cond, not, ◌&&◌, ◌||◌, List, [], ◌∷◌, map, length, get_or, set, replicate, leb, ltb, eqb}
use Rattle.laws.specs.Bools.{bit}
use Rattle.laws.specs.Runs.{sum_by}
use Rattle.numbers.specs.Limits.{max_streams}
use Rattle.numbers.specs.Slots.{waiting, between}
use Rattle.rules.specs.Supply.{Supply}
use Rattle.rules.specs.Scheduler.{Slot, free_slot, at, leads, low_water, started, grantable, granted}

-- the phase (D2), the slots, and what the order keeps
pub record Scheduler (A Q : Type 0) : Type 0 where
  pub phase : ℕ
  pub slots : List (Slot A)
  pub queue : Q

-- the slots and the queue after a begin
pub record Begun (A Q : Type 0) : Type 0 where
  pub slots : List (Slot A)
  pub queue : Q

-- Q is what the order keeps beside the slots: their places
pub record Order (A Q : Type 0) : Type 0 where
  pub opening : Q
  -- the queue after the slot joined, and after it left: of the queue and the slots before
  pub joins : Q → List (Slot A) → ℕ → Q
  pub leaves : Q → List (Slot A) → ℕ → Q
  pub begins : Q → List (Slot A) → Begun A Q
  -- what soundness asks of the queue
  pub queue_sound : Q → List (Slot A) → Bool

-- ---- places (document 02, ticket 5): 1 for the eldest request, 0 for a slot that does not ask (T5.3)

-- the slot whose place is 1
unfoldable pub eldest : List ℕ → ℕ
eldest [] = 0
eldest (x ∷ q) = cond (eqb x 1) 0 (suc (eldest q))

-- a place when the request at place m is gone, granted or left: later ones drop by one (T5.4)
unfoldable pub dropped : ℕ → ℕ → ℕ
dropped m x = cond (eqb x m) 0 (cond (ltb m x) (x - 1) x)

-- a place stands in the list
unfoldable pub member : ℕ → List ℕ → Bool
member x [] = false
member x (y ∷ q) = eqb x y || member x q

module _ {A : Type 0} (p : Supply A) where
  -- how many ask
  unfoldable pub waiting_count : List (Slot A) → ℕ
  waiting_count ss = sum_by (λ s. bit (eqb s.kind waiting)) ss

  -- the eldest's lead, 0 where none asks
  unfoldable pub eldest_lead : List (Slot A) → List ℕ → ℕ
  eldest_lead ss q = cond (eqb (at p ss (eldest q)).kind waiting) (p.lead (at p ss (eldest q)).next) 0

  -- at most k requests are granted, eldest first (T5.1), none behind one that has to wait (T5.2)
  unfoldable pub served : ℕ → List (Slot A) → List ℕ → Begun A (List ℕ)
  served zero ss q = record { slots = ss; queue = q }
  served (suc k) ss q = cond (grantable p ss (eldest q)) (served k (granted p ss (eldest q)) (map (dropped 1) q)) (record { slots = ss; queue = q })

  -- the place x of a slot that asks, where c ask; of one that does not
  abbrev pub placed_by : Bool → ℕ → ℕ → Bool
  placed_by true c x = ltb 0 x && leb x c
  placed_by false c x = eqb x 0

  -- the places are 1 up to c, each once, and all others 0 (T5.9)
  unfoldable pub placed_all : ℕ → List (Slot A) → List ℕ → Bool
  placed_all c [] [] = true
  placed_all c [] (x ∷ q) = false
  placed_all c (s ∷ ss) [] = false
  placed_all c (s ∷ ss) (x ∷ q) = placed_by (eqb s.kind waiting) c x && ((eqb x 0 || not (member x q)) && placed_all c ss q)

  -- the order of asking (D8). One that joins is the last. At a begin a filling slot plays if it holds the floor with the eldest's lead added (T5.5)
  unfoldable pub by_place : Order A (List ℕ)
  by_place = record {
    opening = replicate max_streams 0;
    joins = λ q ss i. set q i (waiting_count ss + 1);
    leaves = λ q ss i. cond (eqb (get_or q i 0) 0) q (map (dropped (get_or q i 0)) q);
    begins = λ q ss. served (length ss) (started p (low_water p (leads p ss + eldest_lead ss q)) ss) q;
    queue_sound = λ q ss. placed_all (waiting_count ss) ss q;
  }

  -- all slots free, between sweeps (D1, D3)
  unfoldable pub opened : {Q : Type 0} → Order A Q → Scheduler A Q
  opened o = record { phase = between; slots = replicate max_streams (free_slot p); queue = o.opening }
