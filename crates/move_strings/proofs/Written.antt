-- What a move leaves in a desk string: its slot, and the places lowered over it.
-- Assumes nothing.
use Prim.Native.Nat.{ℕ, ◌≤◌, ◌<◌}
use mathlib.Core.Path.{◌≡◌, ap, ◌∙◌}
use mathlib.Core.List.{List, map}
use native.Mathlib.Omega.{arith}
use mir.Syntax.{w8}
use mir.Val.{Fits}
use lib.ListN.{length, get_or, set, length-set, length-map}
use Rattle.words.specs.Words.{words_of, with_words}
use Rattle.words.specs.Laws.{bytes_fit, with_words_length}
use Rattle.rules.specs.Order.{dropped}
use Rattle.desk.specs.Records.{with_slot}
use Rattle.desk_layout.specs.Layout.{desk_words, desk_in, desk_size, with_places}
use Rattle.desk_layout.specs.RoundTrip.{DeskSized}
use Rattle.desk_layout.specs.Sized.{sized_in}
use Rattle.desk_layout.specs.Parts.{places_over}
use Rattle.move_strings.proofs.Lowered.{places_in, lowered_in, places_small, places_back}

-- a desk with a slot written has its sizes
slot_sized : (D : List ℕ) → desk_size ≤ length D → (i k x q : ℕ)
    → (let d = desk_in (words_of D) in DeskSized (with_slot d i k x (set d.places i q)))
unfolding with_slot
slot_sized D h i k x q = let d = desk_in (words_of D) in
    let z = sized_in D h in record {
      plan = z.plan;
      kinds = length-set d.kinds i k ∙ z.kinds;
      next = length-set d.next i x ∙ z.next;
      held = length-set d.held i 0 ∙ z.held;
      places = length-set d.places i q ∙ z.places;
    }

-- u is the string D after a slot is written, D being bytes, as the checker knows of a string
module _ (D u : List ℕ) (y : (i : ℕ) → Fits w8 (get_or D i 0)) (h : desk_size ≤ length D) (i k x q : ℕ)
    (a : (let d = desk_in (words_of D) in u ≡ with_words D 0 (desk_words (with_slot d i k x (set d.places i q))))) where
  pub slot_long : length u ≡ length D
  slot_long = ap length a ∙ with_words_length D 0 _

  -- its places are read back
  pub slot_read : q < 4294967296 → places_in u ≡ set (places_in D) i q
  unfolding with_slot
  slot_read small = places_back D u _ h (slot_sized D h i k x q) (places_small D i q y small) a

  -- t after all places are lowered
  pub slot_then_lowered : (t : List ℕ) (m : ℕ) → q < 4294967296 → t ≡ with_words u 0 (desk_words (with_places (desk_in (words_of u)) (lowered_in m u)))
      → t ≡ with_words D 0 (desk_words (with_slot (desk_in (words_of D)) i k x (map (dropped m) (set (places_in D) i q))))
  unfolding with_slot
  slot_then_lowered t m small e =
      places_over D u t _ (lowered_in m u) (bytes_fit D y) h (slot_sized D h i k x q)
      (length-map (places_in u) (dropped m) ∙ (sized_in u (omega (arith, slot_long))).places) a e
      ∙ ap (λ (qs : List ℕ). with_words D 0 (desk_words (with_slot (desk_in (words_of D)) i k x (map (dropped m) qs)))) (slot_read small)
