-- What an end leaves, from what it changed.
-- Assumes nothing.
use Rattle.std.specs.Prelude.{ℕ, ◌≡◌, refl, List}
use Rattle.std.proofs.Common.{sym, ap, subst, ◌∙◌}
use Rattle.numbers.specs.Slots.{between}
use Rattle.rules.specs.Scheduler.{ended}
use Rattle.rules.specs.Calls.{accepted}
use Rattle.desk.specs.declared.Desk.{Desk}
use Rattle.desk.specs.Desk.{supply_of, slots_in, view_of, desk_of}
use Rattle.desk.specs.View.{Wide}
use Rattle.desk.specs.Ready.{Ready}
use Rattle.desk.specs.Records.{record_of}
use Rattle.desk.specs.Slots.{with_slots}
use Rattle.ends.specs.Ends.{Drawn, Ends}
use Rattle.sweep.specs.Steps.{ended_desk}

-- the slots are those after the sweep, and the phase is that between sweeps
pub ended_is : (d : Desk) (ds : List ℕ) (e : Desk) → e ≡ with_slots d (ended (supply_of d.plan) (slots_in d) ds)
    → record_of e.plan between e.kinds e.next e.held e.places ≡ ended_desk d ds
unfolding ended_desk accepted desk_of view_of
ended_is d ds e q = rw q

-- of a string that says the record d: what the slots' end is told, and what it leaves
module _ (d e : Desk) (said : e ≡ d) (ds : List ℕ) where
  pub ends_said : Wide d → Ready d → Drawn d ds → Ends e d.kinds d.next d.held ds
  ends_said w r o =
      subst (λ (x : Desk). Ends x d.kinds d.next d.held ds) (sym said)
      (record { kinds = refl; next = refl; held = refl; wide = w; ready = r; drawn = o })

  pub ended_said : (ks xs hs : List ℕ) → record_of e.plan e.phase ks xs hs e.places ≡ with_slots e (ended (supply_of e.plan) (slots_in e) ds)
      → record_of d.plan between ks xs hs d.places ≡ ended_desk d ds
  ended_said ks xs hs q =
      ap (λ (x : Desk). record_of x.plan between ks xs hs x.places) (sym said)
      ∙ ended_is e ds _ q
      ∙ ap (λ (x : Desk). ended_desk x ds) said
