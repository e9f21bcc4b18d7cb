-- Three arrays, of kinds, next blocks and held bytes, as a list of slots.
-- Assumes nothing.
use Rattle.std.specs.Prelude.{ℕ, List, [], ◌∷◌, get_or, drop}
use Rattle.rules.specs.Supply.{Supply}
use Rattle.rules.specs.Scheduler.{Slot}

module _ {A : Type 0} (p : Supply A) where
  abbrev pub slot_of : ℕ → A → ℕ → Slot A
  slot_of k x h = record { kind = k; next = x; buffered = h }

  -- as long as the first array; where another is shorter it reads as zero
  unfoldable pub slots_of : List ℕ → List A → List ℕ → List (Slot A)
  slots_of [] xs hs = []
  slots_of (k ∷ ks) xs hs = slot_of k (get_or xs 0 p.none) (get_or hs 0 0) ∷ slots_of ks (drop 1 xs) (drop 1 hs)
