-- What a begin leaves as it was.
-- Assumes nothing.
use Rattle.std.specs.Prelude.{ℕ, ◌≡◌, refl, List, [], ◌∷◌, map}
use Rattle.std.proofs.Common.{sym, ap₂, ◌∙◌}
use Rattle.laws.specs.Each.{Both}
use Rattle.rules.specs.Scheduler.{Slot}
use Rattle.turns.specs.Orderly.{Kept}
use Rattle.rules.specs.Calls.{accepted}
use Rattle.turns.specs.ArrayLaws.{nexts_of_slots, helds_of_slots}
use Rattle.desk.specs.declared.Desk.{Desk}
use Rattle.desk.specs.Desk.{supply_of, slots_in, view_of, desk_of}
use Rattle.desk.specs.View.{Wide, same_length}
use Rattle.desk.specs.Promise.{order_orderly}
use Rattle.desk.specs.Ready.{Ready}
use Rattle.desk.specs.Records.{not_begun}
use Rattle.sweep.specs.Steps.{served_in, begun_desk, swept_of, not_swept, begun_of}

pub not_swept_law : (d : Desk) (k : ℕ) → not_swept d k ≡ swept_of (not_begun d k)
unfolding not_swept swept_of not_begun
not_swept_law d k = refl

-- a begin moves no block and no byte
pub begun_kept : (d : Desk) → Ready d → Both Kept (slots_in d) (served_in d).slots
unfolding view_of
begun_kept d r = ((order_orderly d.plan).began d.places (slots_in d) r.sound.slots).kept

kept_nexts : (ss ts : List (Slot ℕ)) → Both Kept ss ts → map (λ s. s.next) ts ≡ map (λ s. s.next) ss
kept_nexts [] [] h = refl
kept_nexts [] (t ∷ ts) h = absurd h
kept_nexts (s ∷ ss) [] h = absurd h
kept_nexts (s ∷ ss) (t ∷ ts) h = ap₂ (λ (x : ℕ) (xs : List ℕ). x ∷ xs) h.0.next (kept_nexts ss ts h.1)

kept_helds : (ss ts : List (Slot ℕ)) → Both Kept ss ts → map (λ s. s.buffered) ts ≡ map (λ s. s.buffered) ss
kept_helds [] [] h = refl
kept_helds [] (t ∷ ts) h = absurd h
kept_helds (s ∷ ss) [] h = absurd h
kept_helds (s ∷ ss) (t ∷ ts) h = ap₂ (λ (x : ℕ) (xs : List ℕ). x ∷ xs) h.0.buffered (kept_helds ss ts h.1)

-- so its answer is known from what it changed
pub begun_of_law : (d : Desk) → Wide d → Ready d → begun_of d (swept_of (begun_desk d)) ≡ begun_desk d
unfolding begun_of swept_of begun_desk desk_of accepted view_of
begun_of_law d w r =
    let p = supply_of d.plan in
    let ts = (served_in d).slots in
    let l = same_length d w in
    let x = kept_nexts (slots_in d) ts (begun_kept d r) ∙ nexts_of_slots p d.kinds d.next d.held l.nexts in
    let h = kept_helds (slots_in d) ts (begun_kept d r) ∙ helds_of_slots p d.kinds d.next d.held l.helds in
    let b = begun_desk d in
    λ t. record {
      verdict = b.verdict;
      desk = record { plan = d.plan; phase = 1; kinds = b.desk.kinds; next = sym x t; held = sym h t; places = b.desk.places };
      bound = b.bound;
      fetches = b.fetches;
    }
