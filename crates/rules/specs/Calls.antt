-- A call with all that is lent to it, its answer, and a list of calls with the ledger beside the scheduler.
-- Assumes nothing.
use Rattle.std.specs.Prelude.{ℕ, zero, suc, ◌<◌, ◌≡◌, Bool, true, false, List, [], ◌∷◌, length}
use Rattle.laws.specs.Indices.{all_from}
use Rattle.rules.specs.Supply.{Supply}
use Rattle.numbers.specs.Slots.{free, between, sweeping}
use Rattle.rules.specs.Scheduler.{Entry, Call, join, leave, begin, end, at, joined, left, entries, bound, ended, most_drawn}
use Rattle.rules.specs.Order.{Scheduler, Order, opened}
use Rattle.rules.specs.Refusals.{Verdict, verdict, draw_allowed, draw_held}
use Rattle.rules.specs.Ledger.{Line, opened_ledger, recorded}

-- what a call is given, which may be anything each time (B1)
pub record Given (A : Type 0) : Type 0 where
  pub call : Call A
  -- the record is the plan of its figures and both lent lists begin with its entries
  pub fair : Bool
  -- the length of the lent fetch list
  pub room : ℕ

-- the number and the place of a refusal, or 0; the scheduler, the fetch entries and the sweep bound. The count is the length of the entries
pub record Answer (A Q : Type 0) : Type 0 where
  pub number : ℕ
  pub place : ℕ
  pub scheduler : Scheduler A Q
  pub entries : List Entry
  pub bound : ℕ

pub record State (A Q : Type 0) : Type 0 where
  pub scheduler : Scheduler A Q
  pub ledger : List Line

-- how a call of type X names its move and is judged
pub record Rules (A Q X : Type 0) : Type 0 where
  pub move : X → Call A
  pub verdict : Scheduler A Q → X → Verdict

abbrev pub is_accepted : ℕ → Bool
is_accepted zero = true
is_accepted (suc k) = false

-- an end; if it is accepted, it finishes a sweep
abbrev pub is_end_call : {A : Type 0} → Call A → Bool
is_end_call (join i b) = false
is_end_call (leave i) = false
is_end_call begin = false
is_end_call (end ds) = true

module _ {A Q : Type 0} (p : Supply A) (o : Order A Q) where
  -- 01's rules: the table of refusals
  unfoldable pub refusals : Rules A Q (Given A)
  refusals = record { move = λ x. x.call; verdict = λ d x. verdict p o d x.fair x.room x.call }

  -- what an accepted call answers
  unfoldable pub accepted : Scheduler A Q → Call A → Answer A Q
  accepted d (join i b) = record {
    number = 0;
    place = 0;
    scheduler = record { phase = between; slots = joined p d.slots i b; queue = o.joins d.queue d.slots i };
    entries = [];
    bound = 0;
  }
  accepted d (leave i) = record {
    number = 0;
    place = 0;
    scheduler = record { phase = between; slots = left p d.slots i; queue = o.leaves d.queue d.slots i };
    entries = [];
    bound = 0;
  }
  accepted d begin =
      let b = o.begins d.queue d.slots in
      record {
        number = 0;
        place = 0;
        scheduler = record { phase = sweeping; slots = b.slots; queue = b.queue };
        entries = entries p b.slots;
        bound = bound p b.slots;
      }
  accepted d (end ds) = record {
    number = 0;
    place = 0;
    scheduler = record { phase = between; slots = ended p d.slots ds; queue = d.queue };
    entries = [];
    bound = 0;
  }

  -- what a refused one answers: the scheduler that it was given, and no entries
  abbrev pub refused : Scheduler A Q → ℕ → ℕ → Answer A Q
  refused d k i = record { number = k; place = i; scheduler = d; entries = []; bound = 0 }

  -- all that a call has to meet for the rules to be obeyed
  abbrev pub Allowed : Scheduler A Q → Call A → Type 0
  Allowed d (join i b) = (d.phase ≡ between) × (i < p.n) × ((at p d.slots i).kind ≡ free) × (p.is_block b ≡ true)
  Allowed d (leave i) = (d.phase ≡ between) × (i < p.n) × (0 < (at p d.slots i).kind)
  Allowed d begin = d.phase ≡ between
  Allowed d (end ds) =
      (d.phase ≡ sweeping) × (length ds ≡ p.n)
      × (all_from (draw_allowed p (most_drawn p d.slots) ds) 0 d.slots ≡ true)
      × (all_from (draw_held p ds) 0 d.slots ≡ true)

  unfoldable pub opening : State A Q
  opening = record { scheduler = opened p o; ledger = opened_ledger }

  module _ {X : Type 0} (u : Rules A Q X) where
    abbrev pub answer_by : ℕ → ℕ → Scheduler A Q → X → Answer A Q
    answer_by zero i d x = accepted d (u.move x)
    answer_by (suc k) i d x = refused d (suc k) i

    -- the answer to a call
    unfoldable pub answer : Scheduler A Q → X → Answer A Q
    answer d x = answer_by (u.verdict d x).number (u.verdict d x).place d x

    -- the scheduler that it leaves, and the ledger fed with it
    unfoldable pub turn : State A Q → X → State A Q
    turn v x =
        let a = answer v.scheduler x in
        record { scheduler = a.scheduler; ledger = recorded p.B v.ledger (u.move x) (is_accepted a.number) a.entries }

    -- a list of calls, each on what the last one left (B1)
    unfoldable pub after : State A Q → List X → State A Q
    after v [] = v
    after v (x ∷ xs) = after (turn v x) xs
