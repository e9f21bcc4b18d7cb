-- A record's kinds, next blocks and held bytes as its slots: loads and stores.
-- Assumes nothing.
use Rattle.std.specs.Prelude.{ℕ, zero, suc, ◌≡◌, refl, List, [], ◌∷◌, map, length, set}
use Rattle.std.proofs.Math.Path.{sym, ap}
use Rattle.std.proofs.Common.{◌∙◌}
use Rattle.std.proofs.Math.ListN.{get_or, get_or-map}
use Rattle.std.proofs.lemmas.List.{length-replicate}
use Rattle.numbers.specs.Limits.{max_streams}
use Rattle.rules.specs.Scheduler.{Slot, free_slot, at}
use Rattle.rules.specs.Arrays.{slot_of}
use Rattle.turns.specs.ArrayLaws.{length_slots, slot_at}
use Rattle.desk.specs.declared.Desk.{Desk}
use Rattle.desk.specs.Desk.{supply_of, slots_in, view_of, desk_of, zeros}
use Rattle.desk.specs.View.{Wide, same_length, desk_of_view}
use Rattle.desk.specs.Records.{record_of}

pub length_zeros : length zeros ≡ max_streams
unfolding zeros
length_zeros = length-replicate {A = ℕ} max_streams 0

-- the record with other slots, and its places
abbrev pub with_slots : Desk → List (Slot ℕ) → Desk
with_slots d ss = desk_of d.plan (record { phase = d.phase; slots = ss; queue = d.places })

pub length_in_law : (d : Desk) → Wide d → length (slots_in d) ≡ max_streams
length_in_law d w = length_slots (supply_of d.plan) d.kinds d.next d.held ∙ w.kinds

-- a load
pub slot_in_law : (d : Desk) → Wide d → (i : ℕ)
    → at (supply_of d.plan) (slots_in d) i ≡ slot_of (supply_of d.plan) (get_or d.kinds i 0) (get_or d.next i 0) (get_or d.held i 0)
unfolding supply_of
slot_in_law d w i = slot_at (supply_of d.plan) d.kinds d.next d.held (same_length d w) i

pub kind_in : (d : Desk) → Wide d → (i : ℕ) → (at (supply_of d.plan) (slots_in d) i).kind ≡ get_or d.kinds i 0
kind_in d w i = ap (λ (s : Slot ℕ). s.kind) (slot_in_law d w i)

pub held_in : (d : Desk) → Wide d → (i : ℕ) → (at (supply_of d.plan) (slots_in d) i).buffered ≡ get_or d.held i 0
held_in d w i = ap (λ (s : Slot ℕ). s.buffered) (slot_in_law d w i)

pub with_own : (d : Desk) → Wide d → d ≡ with_slots d (slots_in d)
unfolding view_of
with_own d w = sym (desk_of_view d w)

map_set : {A C : Type 0} (f : A → C) (xs : List A) (i : ℕ) (a : A) → map f (set xs i a) ≡ set (map f xs) i (f a)
map_set f [] i a = refl
map_set f (x ∷ xs) zero a = refl
map_set f (x ∷ xs) (suc i) a = ap (λ r. f x ∷ r) (map_set f xs i a)

-- e is d with the slots ts
module _ (d : Desk) (ts : List (Slot ℕ)) (e : Desk) (q : e ≡ with_slots d ts) (i : ℕ) where
  pub load_kind : get_or e.kinds i 0 ≡ (at (supply_of d.plan) ts i).kind
  unfolding desk_of supply_of
  load_kind = ap (λ (x : Desk). get_or x.kinds i 0) q ∙ get_or-map (λ s. s.kind) ts i (free_slot (supply_of d.plan))

  pub load_next : get_or e.next i 0 ≡ (at (supply_of d.plan) ts i).next
  unfolding desk_of supply_of
  load_next = ap (λ (x : Desk). get_or x.next i 0) q ∙ get_or-map (λ s. s.next) ts i (free_slot (supply_of d.plan))

  pub load_held : get_or e.held i 0 ≡ (at (supply_of d.plan) ts i).buffered
  unfolding desk_of supply_of
  load_held = ap (λ (x : Desk). get_or x.held i 0) q ∙ get_or-map (λ s. s.buffered) ts i (free_slot (supply_of d.plan))

  -- a store of all three
  pub store_slot : (v : Slot ℕ)
      → record_of e.plan e.phase (set e.kinds i v.kind) (set e.next i v.next) (set e.held i v.buffered) e.places
      ≡ with_slots d (set ts i v)
  unfolding desk_of
  store_slot v =
      rw q
      (λ j. record {
        plan = d.plan;
        phase = d.phase;
        kinds = sym (map_set (λ s. s.kind) ts i v) j;
        next = sym (map_set (λ s. s.next) ts i v) j;
        held = sym (map_set (λ s. s.buffered) ts i v) j;
        places = d.places;
      })
