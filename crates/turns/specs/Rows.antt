-- The rows of the table of refusals, one law for each way that a call's code can take, on the numbers that it compares.
-- Assumes nothing.
use Rattle.std.specs.Prelude.{ℕ, ◌*◌, ◌≤◌, ◌<◌, ◌≡◌, ◌≢◌, Bool, List, length}
use Rattle.std.proofs.Math.Path.{refl}
use Rattle.std.proofs.Math.Bool.{true, false}
use Rattle.std.proofs.Common.{arith}
use borrow.Author.Tests.{eq-eqb, ne_eqb, lt-ltb, le-ltb, le-leb, lt-leb}
use Rattle.laws.specs.Indices.{all_from, lowest_from}
use Rattle.numbers.specs.Refusals.{too_short, not_sound, wrong_phase, no_such_slot, slot_state, draw_count, draw_above_limit, draw_above_held}
use Rattle.rules.specs.Supply.{Supply}
use Rattle.numbers.specs.Slots.{free, between, sweeping}
use Rattle.rules.specs.Scheduler.{Call, join, leave, begin, end, at, most_drawn}
use Rattle.rules.specs.Order.{Scheduler, Order}
use Rattle.rules.specs.Sound.{sound}
use Rattle.rules.specs.Refusals.{Verdict, accept, draw_allowed, draw_held, judged, verdict}

abbrev pub refuse : ℕ → ℕ → Verdict
refuse k i = record { number = k; place = i }

module _ {A Q : Type 0} (p : Supply A) (o : Order A Q) (d : Scheduler A Q) where
  -- ---- 14

  pub row_unfair : (room : ℕ) (c : Call A) → verdict p o d false room c ≡ refuse not_sound 0
  unfolding verdict
  row_unfair room c = refl

  pub row_unsound : (fair : Bool) (room : ℕ) (c : Call A) → sound p o d ≡ false → verdict p o d fair room c ≡ refuse not_sound 0
  unfolding verdict
  row_unsound true room c e = rw e
  row_unsound false room c e = refl

  pub row_sound : (room : ℕ) (c : Call A) → sound p o d ≡ true → verdict p o d true room c ≡ judged p d room c
  unfolding verdict
  row_sound room c e = rw e

module _ {A Q : Type 0} (p : Supply A) (d : Scheduler A Q) (room : ℕ) where
  -- ---- join

  module _ (i : ℕ) (b : A) where
    pub join_phase : d.phase ≢ between → judged p d room (join i b) ≡ refuse wrong_phase 0
    unfolding judged
    join_phase h = rw (ne_eqb d.phase between h)

    pub join_slot_law : d.phase ≡ between → p.n ≤ i → judged p d room (join i b) ≡ refuse no_such_slot i
    unfolding judged
    join_slot_law h l = rw (eq-eqb d.phase between h, le-ltb i p.n l)

    pub join_occupied : d.phase ≡ between → i < p.n → (at p d.slots i).kind ≢ free → judged p d room (join i b) ≡ refuse slot_state i
    unfolding judged
    join_occupied h l k = rw (eq-eqb d.phase between h, lt-ltb i p.n l, ne_eqb (at p d.slots i).kind free k)

    pub join_fault_law : d.phase ≡ between → i < p.n → (at p d.slots i).kind ≡ free → p.fault b ≢ 0 → judged p d room (join i b) ≡ refuse (p.fault b) i
    unfolding judged
    join_fault_law h l k f = rw (eq-eqb d.phase between h, lt-ltb i p.n l, eq-eqb (at p d.slots i).kind free k, ne_eqb (p.fault b) 0 f)

    pub join_accepted : d.phase ≡ between → i < p.n → (at p d.slots i).kind ≡ free → p.fault b ≡ 0 → judged p d room (join i b) ≡ accept
    unfolding judged
    join_accepted h l k f = rw (eq-eqb d.phase between h, lt-ltb i p.n l, eq-eqb (at p d.slots i).kind free k, eq-eqb (p.fault b) 0 f)

  -- ---- leave

  module _ (i : ℕ) where
    pub leave_phase : d.phase ≢ between → judged p d room (leave i) ≡ refuse wrong_phase 0
    unfolding judged
    leave_phase h = rw (ne_eqb d.phase between h)

    pub leave_slot_law : d.phase ≡ between → p.n ≤ i → judged p d room (leave i) ≡ refuse no_such_slot i
    unfolding judged
    leave_slot_law h l = rw (eq-eqb d.phase between h, le-ltb i p.n l)

    pub leave_free : d.phase ≡ between → i < p.n → (at p d.slots i).kind ≡ free → judged p d room (leave i) ≡ refuse slot_state i
    unfolding judged
    leave_free h l k = rw (eq-eqb d.phase between h, lt-ltb i p.n l, le-ltb 0 (at p d.slots i).kind (omega arith))

    pub leave_accepted : d.phase ≡ between → i < p.n → (at p d.slots i).kind ≢ free → judged p d room (leave i) ≡ accept
    unfolding judged
    leave_accepted h l k = rw (eq-eqb d.phase between h, lt-ltb i p.n l, lt-ltb 0 (at p d.slots i).kind (omega arith))

  -- ---- begin

  pub begin_phase : d.phase ≢ between → judged p d room begin ≡ refuse wrong_phase 0
  unfolding judged
  begin_phase h = rw (ne_eqb d.phase between h)

  pub begin_short : d.phase ≡ between → room < p.visits * p.n → judged p d room begin ≡ refuse too_short 0
  unfolding judged
  begin_short h l = rw (eq-eqb d.phase between h, lt-leb (p.visits * p.n) room l)

  pub begin_accepted : d.phase ≡ between → p.visits * p.n ≤ room → judged p d room begin ≡ accept
  unfolding judged
  begin_accepted h l = rw (eq-eqb d.phase between h, le-leb (p.visits * p.n) room l)

  -- ---- end

  module _ (ds : List ℕ) where
    pub end_phase : d.phase ≢ sweeping → judged p d room (end ds) ≡ refuse wrong_phase 0
    unfolding judged
    end_phase h = rw (ne_eqb d.phase sweeping h)

    pub end_length : d.phase ≡ sweeping → length ds ≢ p.n → judged p d room (end ds) ≡ refuse draw_count 0
    unfolding judged
    end_length h l = rw (eq-eqb d.phase sweeping h, ne_eqb (length ds) p.n l)

    pub end_excess : (i : ℕ) → d.phase ≡ sweeping → length ds ≡ p.n
        → (all_from (draw_allowed p (most_drawn p d.slots) ds) 0 d.slots ≡ false) × (lowest_from (draw_allowed p (most_drawn p d.slots) ds) 0 d.slots ≡ i)
        → judged p d room (end ds) ≡ refuse draw_above_limit i
    unfolding judged
    end_excess i h l e = rw (eq-eqb d.phase sweeping h, eq-eqb (length ds) p.n l, e.0, e.1)

    pub end_overdrawn : (i : ℕ) → d.phase ≡ sweeping → length ds ≡ p.n
        → all_from (draw_allowed p (most_drawn p d.slots) ds) 0 d.slots ≡ true
        → (all_from (draw_held p ds) 0 d.slots ≡ false) × (lowest_from (draw_held p ds) 0 d.slots ≡ i)
        → judged p d room (end ds) ≡ refuse draw_above_held i
    unfolding judged
    end_overdrawn i h l e f = rw (eq-eqb d.phase sweeping h, eq-eqb (length ds) p.n l, e, f.0, f.1)

    pub end_accepted : d.phase ≡ sweeping → length ds ≡ p.n
        → all_from (draw_allowed p (most_drawn p d.slots) ds) 0 d.slots ≡ true → all_from (draw_held p ds) 0 d.slots ≡ true
        → judged p d room (end ds) ≡ accept
    unfolding judged
    end_accepted h l e f = rw (eq-eqb d.phase sweeping h, eq-eqb (length ds) p.n l, e, f)
