-- When a call is turned down (R13 to R21), in document 01's order (R25). The place is the slot that is returned with the number.
-- Assumes nothing.
use Rattle.std.specs.Prelude.{ℕ, ◌*◌, Bool, true, false, ◌&&◌, List, length, get_or, leb, ltb, eqb}
use Rattle.laws.specs.Indices.{all_from, lowest_from}
use Rattle.numbers.specs.Refusals.{too_short, not_sound, wrong_phase, no_such_slot, slot_state, draw_count, draw_above_limit, draw_above_held}
use Rattle.rules.specs.Supply.{Supply}
use Rattle.numbers.specs.Slots.{free, between, sweeping}
use Rattle.rules.specs.Scheduler.{Slot, Call, join, leave, begin, end, at, most_drawn, draw_limit}
use Rattle.rules.specs.Order.{Scheduler, Order}
use Rattle.rules.specs.Sound.{sound}

-- number 0 and place 0 where the call is accepted
pub record Verdict : Type 0 where
  pub number : ℕ
  pub place : ℕ

abbrev pub accept : Verdict
accept = record { number = 0; place = 0 }

-- turned down with a number and a place unless the test passes; then as the rest says
abbrev pub unless : Bool → ℕ → ℕ → Verdict → Verdict
unless true k i rest = rest
unless false k i rest = record { number = k; place = i }

module _ {A : Type 0} (p : Supply A) where
  -- the draw of slot i is at most what the slot may draw, m being the most
  unfoldable pub draw_allowed : ℕ → List ℕ → ℕ → Slot A → Bool
  draw_allowed m ds i s = leb (get_or ds i 0) (draw_limit p m s)

  -- and at most what it holds
  unfoldable pub draw_held : List ℕ → ℕ → Slot A → Bool
  draw_held ds i s = leb (get_or ds i 0) s.buffered

  module _ {Q : Type 0} (d : Scheduler A Q) where
    -- a call on a sound record; room is the length of the lent fetch list, and the fault of b is 18 from N on
    unfoldable pub judged : ℕ → Call A → Verdict
    judged room (join i b) =
        unless (eqb d.phase between) wrong_phase 0
        (unless (ltb i p.n) no_such_slot i
        (unless (eqb (at p d.slots i).kind free) slot_state i
        (unless (eqb (p.fault b) 0) (p.fault b) i
        accept)))
    judged room (leave i) =
        unless (eqb d.phase between) wrong_phase 0
        (unless (ltb i p.n) no_such_slot i
        (unless (ltb 0 (at p d.slots i).kind) slot_state i
        accept))
    judged room begin =
        unless (eqb d.phase between) wrong_phase 0
        (unless (leb (p.visits * p.n) room) too_short 0
        accept)
    judged room (end ds) =
        let m = most_drawn p d.slots in
        unless (eqb d.phase sweeping) wrong_phase 0
        (unless (eqb (length ds) p.n) draw_count 0
        (unless (all_from (draw_allowed m ds) 0 d.slots) draw_above_limit (lowest_from (draw_allowed m ds) 0 d.slots)
        (unless (all_from (draw_held ds) 0 d.slots) draw_above_held (lowest_from (draw_held ds) 0 d.slots)
        accept)))

  -- R14; fair: the record is the plan of its figures and both lent lists begin with its entries
  unfoldable pub verdict : {Q : Type 0} → Order A Q → Scheduler A Q → Bool → ℕ → Call A → Verdict
  verdict o d fair room c = unless (fair && sound p o d) not_sound 0 (judged d room c)
