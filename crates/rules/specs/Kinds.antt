-- The kind of one slot after an accepted call, by document 01's rules and document 02's order (ticket 5), told slot by slot (B6).
-- Assumes nothing.
use Rattle.std.specs.Prelude.{ℕ, zero, suc, ◌+◌, ◌-◌, cond, ◌&&◌, List, [], ◌∷◌, length, get_or, leb, eqb}
use Rattle.numbers.specs.Slots.{free, waiting, filling, playing, draining}
use Rattle.rules.specs.Supply.{Supply}
use Rattle.rules.specs.Scheduler.{Slot, Call, join, leave, begin, end, at}
use Rattle.rules.specs.Scheduler.{leads, low_water, holds, started, players_hold, is_fetched}
use Rattle.rules.specs.Order.{Scheduler, eldest_lead}

-- the slot at place k
unfoldable pub slot_at : ℕ → List ℕ → ℕ
slot_at k [] = 0
slot_at k (x ∷ q) = cond (eqb x k) 0 (suc (slot_at k q))

module _ {A : Type 0} (p : Supply A) where
  -- how many are granted, of at most k more, when g are and the leads add up to L: eldest first, none behind one that has to wait
  unfoldable pub grants : List (Slot A) → List ℕ → ℕ → ℕ → ℕ → ℕ
  grants ss q zero g L = g
  grants ss q (suc k) g L =
      let s = at p ss (slot_at (suc g) q) in
      cond (eqb s.kind waiting && players_hold p (low_water p (L + p.lead s.next)) ss) (grants ss q k (suc g) (L + p.lead s.next)) g

  -- what a filling slot must hold to play: the floor with the eldest's lead added, 0 where none asks
  unfoldable pub start_mark : List (Slot A) → List ℕ → ℕ
  start_mark ss q = low_water p (leads p ss + eldest_lead p ss q)

  -- the number of grants of a begin, in which filling slots start to play first
  unfoldable pub grant_count : List (Slot A) → List ℕ → ℕ
  grant_count ss q = grants (started p (start_mark ss q) ss) q (length ss) 0 (leads p ss)

  -- a filling slot that holds the mark plays; an asked one whose place is up to the number of grants fills
  unfoldable pub begun_kind : List (Slot A) → List ℕ → ℕ → ℕ
  begun_kind ss q i =
      let s = at p ss i in
      cond (eqb s.kind filling && holds p (start_mark ss q) s) playing
      (cond (eqb s.kind waiting && leb (get_or q i 0) (grant_count ss q)) filling
      s.kind)

  -- d is the draw: a slot that reaches N becomes tail, and a tail that holds 0 becomes free
  unfoldable pub ended_kind : Slot A → ℕ → ℕ
  ended_kind s d =
      let kind = cond (is_fetched p s && p.is_end (p.next s.next)) draining s.kind in
      let buffered = s.buffered - d + cond (is_fetched p s) p.B 0 in
      cond (eqb kind draining && eqb buffered 0) free kind

  -- the kind of slot i after an accepted call
  unfoldable pub kind_after : Scheduler A (List ℕ) → Call A → ℕ → ℕ
  kind_after d (join j b) i = cond (eqb i j) waiting (at p d.slots i).kind
  kind_after d (leave j) i = cond (eqb i j) free (at p d.slots i).kind
  kind_after d begin i = begun_kind d.slots d.queue i
  kind_after d (end ds) i = ended_kind (at p d.slots i) (get_or ds i 0)
