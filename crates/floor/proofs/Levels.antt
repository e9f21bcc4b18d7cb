-- One turn of the loop that finds the least that a playing slot holds.
-- Assumes nothing.
use Prim.Native.Nat.{ℕ, ◌+◌, ◌*◌, ◌<◌, min}
use mathlib.Core.Path.{◌≡◌, sym, ap, ◌∙◌}
use mathlib.Core.Logic.{by_cases}
use mathlib.Core.List.{List}
use native.Mathlib.Omega.{arith}
use native.Mathlib.Decide.{ℕ_discrete}
use lib.ListN.{length, get_or, take}
use Rattle.numbers.specs.Slots.{playing}
use Rattle.numbers.specs.Units.{parts}
use Rattle.rules.specs.Supply.{Supply}
use Rattle.rules.specs.Scheduler.{Slot, at}
use Rattle.rules.specs.Arrays.{slots_of}
use Rattle.turns.specs.ArrayLaws.{length_slots, slot_at}
use Rattle.turns.specs.Turns.{least_held, least_next, least_skip, least_rest}
use Rattle.desk.specs.Shown.{Slots}

module _ (p : Supply ℕ) (n : ℕ) (ks xs hs : List ℕ) (w : Slots p n ks xs hs) where
  abbrev ss : List (Slot ℕ)
  ss = slots_of p ks xs hs

  pub least_turn : (top i level next : ℕ) → i < 256
      → level ≡ parts * least_held p top (take i ss)
      → (get_or ks i 0 ≡ playing → next ≡ min level (parts * get_or hs i 0))
      → ((get_or ks i 0 ≡ playing → ⊥) → next ≡ level)
      → next ≡ parts * least_held p top (take (i + 1) ss)
  least_turn top i level next l s a b =
      let k : (at p ss i).kind ≡ get_or ks i 0 = ap (λ (s : Slot ℕ). s.kind) (slot_at p ks xs hs w.same i) in
      let h : (at p ss i).buffered ≡ get_or hs i 0 = ap (λ (s : Slot ℕ). s.buffered) (slot_at p ks xs hs w.same i) in
      let long : i < length ss = omega (arith, length_slots p ks xs hs, w.long) in
      by_cases (ℕ_discrete (get_or ks i 0) playing)
      (λ e. omega (arith, a e, least_next p top ss i long (k ∙ e)))
      (λ e. omega (arith, b e, least_skip p top ss i long (λ z. e (sym k ∙ z))))

  -- the slots from n on do not play
  pub least_end : (top i level : ℕ) → i ≡ n → level ≡ parts * least_held p top (take i ss) → level ≡ parts * least_held p top ss
  least_end top i level e s =
      s ∙ ap (λ (m : ℕ). parts * least_held p top (take m ss)) e ∙ ap (λ (m : ℕ). parts * m) (least_rest p top n ss w.unused)
