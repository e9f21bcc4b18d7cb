-- What an end knows of its draws and is told of the film, and a slot as its code holds it.
-- Assumes nothing.
use Rattle.std.specs.Prelude.{ℕ, ◌+◌, ◌≤◌, ◌<◌, ◌≡◌, List, eqb}
use Rattle.numbers.specs.Limits.{max_blocks}
use Rattle.numbers.specs.Slots.{filling, playing, draining}
use Rattle.placement.specs.Showing.{Showing, after}
use Rattle.pacing.specs.Shelf.{name_of, film_in, block_in}
use Rattle.rules.specs.Supply.{Supply}
use Rattle.rules.specs.Scheduler as S
use Rattle.rules.specs.Scheduler.{end}
use Rattle.rules.specs.Calls.{Allowed}
use Rattle.desk.specs.declared.Desk.{Desk}
use Rattle.desk.specs.Desk.{supply_of, order_of, view_of}
use Rattle.desk.specs.View.{Wide}
use Rattle.desk.specs.Ready.{Ready}
use Rattle.ends.specs.declared.Slot.{Slot}

-- draws that nothing turns down
abbrev pub Drawn : Desk → List ℕ → Type 0
Drawn d draws = let s = supply_of d.plan in Allowed s (order_of d.plan) (view_of d) (end draws)

-- the slots are those of a record that is ready, in which these draws are turned down by nothing
pub record Ends (d : Desk) (ks xs hs ds : List ℕ) : Type 0 where
  pub kinds : ks ≡ d.kinds
  pub next : xs ≡ d.next
  pub held : hs ≡ d.held
  pub wide : Wide d
  pub ready : Ready d
  pub drawn : Drawn d ds

-- what an end is told of a supply: how the film of N blocks that the name a names goes on in its showing x, B, and the buffer less B
pub record Continues (p : Supply ℕ) (x : Showing) (a N bytes room : ℕ) : Type 0 where
  pub start : p.none ≡ 0
  -- `its next block rises by one`, within its film; in a loop 0 follows the last (T7.1)
  pub next : p.next a ≡ name_of (film_in a) (after x N (block_in a))
  -- `reaches N`, which no block of a loop does (T7.8)
  pub past : block_in a < N → p.is_end (p.next a) ≡ eqb (block_in (p.next a)) N
  pub some : 0 < p.B
  pub size : p.B ≡ bytes
  pub left : room + bytes ≡ p.buffer

-- a slot as the rules see it
abbrev pub slot_in : Slot → S.Slot ℕ
slot_in s = record { kind = s.kind; next = s.next; buffered = s.held }

-- what a slot and its draw are at an end that nothing turns down, N being its film's
pub record Fair (N : ℕ) (s : Slot) (draw : ℕ) : Type 0 where
  pub drawn : draw ≤ s.held
  pub none : s.kind < playing → draw ≡ 0
  pub kinds : s.kind ≤ draining
  pub named : filling ≤ s.kind → s.kind ≤ playing → block_in s.next < N
  pub few : N ≤ max_blocks
