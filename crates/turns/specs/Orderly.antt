-- What safety relies on of the order of granting: a begin moves slots from asked to filling and from filling to playing, and leaves
-- every playing slot at the low-water mark.
-- Assumes nothing.
use Rattle.std.specs.Prelude.{ℕ, ◌*◌, ◌≤◌, ◌<◌, min, max, ◌≡◌, refl, true, List, replicate, eqb}
use Rattle.std.proofs.Common.{◌∙◌, arith}
use Rattle.laws.specs.Each.{Each, Both, both_refl, both_trans}
use Rattle.numbers.specs.Units.{parts}
use Rattle.numbers.specs.Limits.{max_streams}
use Rattle.rules.specs.Supply.{Supply}
use Rattle.numbers.specs.Slots.{free, waiting, playing}
use Rattle.rules.specs.Scheduler.{Slot, free_slot, at, leads, low_water, joined, left}
use Rattle.rules.specs.Order.{Order}
use Rattle.turns.specs.Facts.{Good}

-- what a begin may do to a slot: its kind goes from 1 to 2, from 2 to 3, from 1 to 3, or stays
pub record Kept {A : Type 0} (s t : Slot A) : Type 0 where
  pub buffered : t.buffered ≡ s.buffered
  pub next : t.next ≡ s.next
  pub rises : s.kind ≤ t.kind
  pub occupied : min 1 t.kind ≤ s.kind
  pub bounded : t.kind ≤ max 3 s.kind

-- the one waits if the other does
abbrev pub SameWaiting : {A : Type 0} → Slot A → Slot A → Type 0
SameWaiting s t = eqb t.kind waiting ≡ eqb s.kind waiting

module _ {A : Type 0} where
  pub kept_refl : (s : Slot A) → Kept s s
  kept_refl s = record { buffered = refl; next = refl; rises = omega arith; occupied = omega arith; bounded = omega arith }

  pub kept_trans : (s t u : Slot A) → Kept s t → Kept t u → Kept s u
  kept_trans s t u a b = record {
    buffered = b.buffered ∙ a.buffered;
    next = b.next ∙ a.next;
    rises = omega (arith, a.rises, b.rises);
    occupied = omega (arith, a.occupied, b.occupied, a.rises, b.rises);
    bounded = omega (arith, a.bounded, b.bounded, a.rises, b.rises);
  }

module _ {A : Type 0} (p : Supply A) where
  -- each playing slot holds at least the mark of leads that add up to L
  abbrev pub Floored : ℕ → List (Slot A) → Type 0
  Floored L ss = Each (λ s. s.kind ≡ playing → low_water p L ≤ parts * s.buffered) ss

  pub record Began (ss ts : List (Slot A)) : Type 0 where
    pub kept : Both Kept ss ts
    pub floored : Floored (leads p ts) ts

  pub record Orderly {Q : Type 0} (o : Order A Q) : Type 0 where
    pub began : (q : Q) (ss : List (Slot A)) → Each (Good p (leads p ss)) ss → Began ss (o.begins q ss).slots
    -- the queue stays sound
    pub queue_opened : o.queue_sound o.opening (replicate max_streams (free_slot p)) ≡ true
    pub queue_joined : (q : Q) (ss : List (Slot A)) (i : ℕ) (b : A) → (at p ss i).kind ≡ free
        → o.queue_sound q ss ≡ true → o.queue_sound (o.joins q ss i) (joined p ss i b) ≡ true
    pub queue_left : (q : Q) (ss : List (Slot A)) (i : ℕ) → 0 < (at p ss i).kind
        → o.queue_sound q ss ≡ true → o.queue_sound (o.leaves q ss i) (left p ss i) ≡ true
    pub queue_begun : (q : Q) (ss : List (Slot A)) → Each (Good p (leads p ss)) ss
        → o.queue_sound q ss ≡ true → o.queue_sound (o.begins q ss).queue (o.begins q ss).slots ≡ true
    pub queue_ended : (q : Q) (ss ts : List (Slot A)) → Both SameWaiting ss ts
        → o.queue_sound q ss ≡ true → o.queue_sound q ts ≡ true

  -- one after the other
  pub began_then : (ss ts us : List (Slot A)) → Both Kept ss ts → Began ts us → Began ss us
  began_then ss ts us k b = record { kept = both_trans Kept ss ts us kept_trans k b.kept; floored = b.floored }

  pub began_none : (ss : List (Slot A)) → Floored (leads p ss) ss → Began ss ss
  began_none ss f = record { kept = both_refl Kept ss kept_refl; floored = f }
