-- One turn of the loop in which filling slots start to play.
-- Assumes nothing.
use Prim.Native.Nat.{ℕ, ◌+◌, ◌<◌}
use mathlib.Core.Path.{◌≡◌, refl, sym, ap, ◌∙◌}
use mathlib.Core.List.{List}
use native.Mathlib.Omega.{arith}
use lib.ListN.{length, get_or, set}
use Rattle.laws.specs.Map.{store_next}
use Rattle.rules.specs.Supply.{Supply}
use Rattle.rules.specs.Scheduler.{Slot, free_slot, at, started_slot, started}
use Rattle.rules.specs.Arrays.{slot_of, slots_of}
use Rattle.turns.specs.ArrayLaws.{SameLength, length_slots, slot_at, slots_set_kind}
use Rattle.turns.specs.Turns.{started_to, started_to_none, started_to_rest}
use Rattle.desk.specs.Shown.{Slots}

module _ (p : Supply ℕ) (n : ℕ) (ks₀ xs hs : List ℕ) (w : Slots p n ks₀ xs hs) where
  -- the slots before the loop
  abbrev ss : List (Slot ℕ)
  ss = slots_of p ks₀ xs hs

  -- other kinds, with the same blocks and bytes
  pub same : (ks : List ℕ) → length ks ≡ 256 → SameLength p ks xs hs
  same ks l = record { nexts = w.same.nexts ∙ w.long ∙ sym l; helds = w.same.helds ∙ w.long ∙ sym l }

  inside : (i : ℕ) → i < 256 → i < length ss
  inside i l = omega (arith, length_slots p ks₀ xs hs, w.long)

  -- x is the mark, and the first i slots are done
  pub started_none : (x : ℕ) → slots_of p ks₀ xs hs ≡ started_to p x 0 ss
  started_none x = sym (started_to_none p x ss)

  pub started_turn : (x i k : ℕ) (ks : List ℕ) → length ks ≡ 256 → slots_of p ks xs hs ≡ started_to p x i ss → i < 256
      → ((p : Supply ℕ) (b : ℕ) → slot_of p k b (get_or hs i 0) ≡ started_slot p x (slot_of p (get_or ks i 0) b (get_or hs i 0)))
      → slots_of p (set ks i k) xs hs ≡ started_to p x (i + 1) ss
  unfolding started_to
  started_turn x i k ks long q l o =
      let ts = slots_of p ks xs hs in
      slots_set_kind p ks xs hs (same ks long) i k
      ∙ ap (λ (s : Slot ℕ). set ts i s) (o p (get_or xs i p.none) ∙ ap (started_slot p x) (sym (slot_at p ks xs hs (same ks long) i)))
      ∙ ap (λ (rs : List (Slot ℕ)). set rs i (started_slot p x (at p rs i))) q
      ∙ store_next (λ j s. started_slot p x s) i ss (free_slot p) _ (inside i l) refl

  -- the slots from n on do not fill
  pub started_end : (x i : ℕ) (ks : List ℕ) → slots_of p ks xs hs ≡ started_to p x i ss → i ≡ n → slots_of p ks xs hs ≡ started p x ss
  started_end x i ks q e = q ∙ ap (λ (m : ℕ). started_to p x m ss) e ∙ started_to_rest p x n ss w.unused
