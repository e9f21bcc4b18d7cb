-- The steps of a begin, a start to play and a grant: what each keeps of the slots, and that it leaves the playing ones at the mark.
-- Assumes nothing.
use Prim.Native.Nat.{ℕ, zero, suc, ◌+◌, ◌*◌, ◌≤◌}
use Rattle.std.specs.Prelude.{◌≡◌, ◌&&◌, eqb}
use Rattle.std.proofs.Math.Path.{refl}
use Rattle.std.proofs.Math.Bool.{Bool, true, false}
use mathlib.Core.List.{List, [], ◌∷◌}
use native.Mathlib.Omega.{arith}
use Rattle.std.proofs.Math.Dec.{leb}
use borrow.Author.Tests.{leb-true, eqb-true, eq-eqb}
use Rattle.laws.specs.Bools.{implies, implied, and_left, and_right}
use Rattle.laws.specs.Runs.{all_by}
use Rattle.laws.specs.Each.{Both, both_refl}
use Rattle.numbers.specs.Units.{parts}
use Rattle.rules.specs.Supply.{Supply}
use Rattle.numbers.specs.Slots.{waiting, filling, playing}
use Rattle.rules.specs.Scheduler.{Slot, at, leads, low_water, holds}
use Rattle.rules.specs.Scheduler.{start_by, started_slot, started, players_hold, grantable, granted}
use Rattle.turns.specs.Orderly.{Kept, kept_refl, Floored, Began}
use Rattle.turns.specs.Turns.{started_leads, granted_leads}

module _ {A : Type 0} (p : Supply A) where
  -- ---- filling slots start to play

  started_one : (x : ℕ) (s : Slot A) → Kept s (started_slot p x s)
  unfolding started_slot
  started_one x s = go (eqb s.kind filling && holds p x s) refl
    where
      go : (t : Bool) → (eqb s.kind filling && holds p x s) ≡ t → Kept s (start_by p t s)
      go true e = let k = eqb-true s.kind filling (and_left (eqb s.kind filling) _ e) in
          record { buffered = refl; next = refl; rises = omega arith; occupied = omega arith; bounded = omega arith }
      go false e = kept_refl s

  pub started_kept : (x : ℕ) (ss : List (Slot A)) → Both Kept ss (started p x ss)
  unfolding started
  started_kept x [] = tt
  started_kept x (s ∷ ss) = (started_one x s, started_kept x ss)

  -- who plays then did before, or holds x
  pub started_floored : (x L : ℕ) (ss : List (Slot A)) → low_water p L ≤ x → Floored p L ss → Floored p L (started p x ss)
  unfolding started started_slot holds
  started_floored x L [] h f = tt
  started_floored x L (s ∷ ss) h f = (go (eqb s.kind filling && leb x (parts * s.buffered)) refl, started_floored x L ss h f.1)
    where
      go : (t : Bool) → (eqb s.kind filling && leb x (parts * s.buffered)) ≡ t
          → (start_by p t s).kind ≡ playing → low_water p L ≤ parts * (start_by p t s).buffered
      go true e k = omega (arith, leb-true x (parts * s.buffered) (and_right (eqb s.kind filling) _ e))
      go false e k = f.0 k

  pub started_began : (x : ℕ) (ss : List (Slot A)) → low_water p (leads p ss) ≤ x → Floored p (leads p ss) ss → Began p ss (started p x ss)
  started_began x ss h f = record {
    kept = started_kept x ss;
    floored = rw (started_leads p x ss) (started_floored x (leads p ss) ss h f);
  }

  -- ---- an asked slot is granted

  pub floored_of_test : (L : ℕ) (ss : List (Slot A)) → players_hold p (low_water p L) ss ≡ true → Floored p L ss
  unfolding players_hold all_by holds
  floored_of_test L [] e = tt
  floored_of_test L (s ∷ ss) e =
      let t : Bool = implies (eqb s.kind playing) (leb (low_water p L) (parts * s.buffered)) in (
        λ k. leb-true (low_water p L) (parts * s.buffered) (implied (eqb s.kind playing) _ (and_left t _ e) (eq-eqb s.kind playing k)),
        floored_of_test L ss (and_right t _ e),
      )

  granted_kept : (ss : List (Slot A)) (i : ℕ) → (at p ss i).kind ≡ waiting → Both Kept ss (granted p ss i)
  unfolding granted
  granted_kept [] i k = tt
  granted_kept (s ∷ ss) zero k = (
    record { buffered = refl; next = refl; rises = omega arith; occupied = omega arith; bounded = omega arith },
    both_refl Kept ss kept_refl,
  )
  granted_kept (s ∷ ss) (suc i) k = (kept_refl s, granted_kept ss i k)

  granted_floored : (L : ℕ) (ss : List (Slot A)) (i : ℕ) → Floored p L ss → Floored p L (granted p ss i)
  unfolding granted
  granted_floored L [] i f = tt
  granted_floored L (s ∷ ss) zero f = (λ k. absurd (omega arith), f.1)
  granted_floored L (s ∷ ss) (suc i) f = (f.0, granted_floored L ss i f.1)

  pub granted_began : (ss : List (Slot A)) (i : ℕ) → grantable p ss i ≡ true → Began p ss (granted p ss i)
  unfolding grantable
  granted_began ss i e =
      let k = eqb-true (at p ss i).kind waiting (and_left (eqb (at p ss i).kind waiting) _ e) in
      let L : ℕ = leads p ss + p.lead (at p ss i).next in
      record {
        kept = granted_kept ss i k;
        floored = rw (granted_leads p ss i k) (granted_floored L ss i (floored_of_test L ss (and_right (eqb (at p ss i).kind waiting) _ e)));
      }
  -- ---- in slot order
