-- Soundness of the scheduler's record, as a test.
-- That the record is the plan of its figures and that the lent lists begin with its entries comes to a call as one flag (Calls.Given).
-- Assumes nothing.
use Rattle.std.specs.Prelude.{ℕ, Bool, ◌&&◌, drop, leb, eqb}
use Rattle.laws.specs.Bools.{implies}
use Rattle.laws.specs.Runs.{all_by}
use Rattle.numbers.specs.Slots.{free, waiting, playing, draining, sweeping}
use Rattle.rules.specs.Supply.{Supply}
use Rattle.rules.specs.Scheduler.{Slot, leads, low_water, holds}
use Rattle.rules.specs.Order.{Scheduler, Order}

module _ {A : Type 0} (p : Supply A) where
  unfoldable pub is_zero : Slot A → Bool
  is_zero s = eqb s.kind free && (p.is_none s.next && eqb s.buffered 0)

  -- a slot of a sound record (D16), condition by condition; L is the sum of the leads
  unfoldable pub sound_slot : ℕ → Slot A → Bool
  sound_slot L s =
      leb s.kind draining
      && (implies (eqb s.kind free) (is_zero s)
      && (implies (eqb s.kind waiting) (eqb s.buffered 0)
      && (implies (leb waiting s.kind && leb s.kind playing) (p.is_block s.next)
      && (implies (eqb s.kind draining) (p.is_end s.next)
      && (implies (eqb s.kind draining) (leb 1 s.buffered)
      && (leb s.buffered p.buffer
      && implies (eqb s.kind playing) (holds p (low_water p L) s)))))))

  -- a sound record (D16): its phase, each slot, and the slots that are not used
  unfoldable pub sound : {Q : Type 0} → Order A Q → Scheduler A Q → Bool
  sound o d =
      leb d.phase sweeping
      && (all_by (sound_slot (leads p d.slots)) d.slots
      && (all_by is_zero (drop p.n d.slots)
      && o.queue_sound d.queue d.slots))
