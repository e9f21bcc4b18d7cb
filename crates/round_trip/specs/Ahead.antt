-- Numbers that stand in a card from an offset on, and the figures that are read there.
-- Assumes nothing.
use Prim.Native.Nat.{ℕ, zero, suc, ◌+◌, ◌≤◌, ◌<◌}
use Rattle.std.specs.Prelude.{◌≡◌, Bool, true, false, cond, ltb}
use Rattle.std.proofs.Math.Path.{refl, sym, ap}
use Rattle.std.proofs.Common.{◌∙◌, arith, drop_of_length-le, drop-drop, ltb-false, le-ltb}
use mathlib.Core.List.{List, [], ◌∷◌, ◌++◌}
use Rattle.std.proofs.Math.ListN.{length, take, drop, length-append, length-drop, take-append-drop}
use Rattle.std.proofs.Math.Seq.{length-take-le, drop-append_seam}
use Rattle.numbers.specs.Limits.{no_number}
use Rattle.numbers.specs.Refusals.{card_goes_on}
use Rattle.leb128.specs.declared.Number.{Number}
use Rattle.leb128.specs.declared.Number.TheVariants as number
use Rattle.leb128.specs.Number.{Bytes, groups, number_at}
use Rattle.leb128.specs.NumberLaws.{Stands, written_read, read_written}
use Rattle.card.specs.declared.Figures.{Figures}
use Rattle.card.specs.declared.CardRead.{CardRead}
use Rattle.card.specs.Card.{bytes_of}
use Rattle.card_field.specs.Figure.{Value, on_fault, on_number, field_at}
use Rattle.card.specs.Read.{accepted, refused_card, then_field, card_end}

-- ---- what is written is read back

-- the numbers vs stand from an offset to the end of s
pub record Ahead (s : List ℕ) (at : ℕ) (vs : List ℕ) : Type 0 where
  pub inside : at ≤ length s
  pub bytes : drop at s ≡ bytes_of vs

module _ {s : List ℕ} {at v : ℕ} {vs : List ℕ} (a : Ahead s at (v ∷ vs)) where
  -- after the first number stand the others
  pub ahead_next : Ahead s (at + length (groups v)) vs
  unfolding bytes_of
  ahead_next = record {
    inside = omega (arith, a.inside, length-append (groups v) (bytes_of vs), ap length a.bytes, length-drop at s);
    bytes = sym (drop-drop (length (groups v)) at s) ∙ ap (λ (bs : List ℕ). drop (length (groups v)) bs) a.bytes ∙ drop-append_seam (groups v) (bytes_of vs);
  }

  -- the first number is what the reader finds
  pub number_ahead : v < no_number → number_at s at ≡ number.Value v (at + length (groups v))
  unfolding bytes_of
  number_ahead h =
      let front : length (take at s) ≡ at = length-take-le at s a.inside in
      let whole : take at s ++ (groups v ++ bytes_of vs) ≡ s = ap (λ (bs : List ℕ). take at s ++ bs) (sym a.bytes) ∙ take-append-drop at s in
      rw front at (rw whole at (written_read (take at s) (bytes_of vs) v h))

  -- a figure in its range is read, and the card goes on
  pub field_goes : (judge : ℕ → ℕ) (go : ℕ → ℕ → CardRead) → v < no_number → judge v ≡ 0
      → then_field (field_at judge s at) go ≡ go v (at + length (groups v))
  unfolding field_at on_number on_fault then_field
  field_goes judge go h e = rw (number_ahead h, e)

-- no byte is left over
pub end_goes : (s : List ℕ) (at : ℕ) (f : Figures) → Ahead s at [] → card_end s at f ≡ record { verdict = accepted; figures = f }
unfolding card_end bytes_of
end_goes s at f a = rw (le-ltb at (length s) (omega (arith, length-drop at s, ap length a.bytes)))

-- ---- what is accepted is what would be written

-- the same answer is accepted too
pub still_accepted : {q r : CardRead} → q ≡ r → q.verdict.number ≡ 0 → r.verdict.number ≡ 0
still_accepted e n = ap (λ (x : CardRead). x.verdict.number) (sym e) ∙ n

-- the figure at an offset of s: its value in its range, and its bytes
pub record Got (judge : ℕ → ℕ) (s : List ℕ) (at : ℕ) : Type 0 where
  pub value : ℕ
  pub next : ℕ
  pub reads : field_at judge s at ≡ Value value next
  pub clear : judge value ≡ 0
  pub stands : Stands s at value next

module _ (judge : ℕ → ℕ) (s : List ℕ) (at : ℕ) (go : ℕ → ℕ → CardRead) where
  pub got_goes : (g : Got judge s at) → then_field (field_at judge s at) go ≡ go g.value g.next
  unfolding then_field
  got_goes g = rw g.reads

  -- an accepted card has the figure and goes on after it
  pub accepted_field : {A : Type 0} → Bytes s → (then_field (field_at judge s at) go).verdict.number ≡ 0
      → ((g : Got judge s at) → (go g.value g.next).verdict.number ≡ 0 → A) → A
  unfolding field_at on_number on_fault then_field refused_card
  accepted_field {A} y e on = by (number_at s at) refl e
    where
      judged : (v next : ℕ) → number_at s at ≡ number.Value v next → (k : ℕ) → judge v ≡ k → (then_field (on_fault k at v next) go).verdict.number ≡ 0 → A
      judged v next n zero q e = on (record { value = v; next = next; reads = rw (n, q); clear = q; stands = read_written s at v next y n }) e
      judged v next n (suc k) q e = absurd (omega arith)

      by : (n : Number) → number_at s at ≡ n → (then_field (on_number judge at n) go).verdict.number ≡ 0 → A
      by (number.Value v next) n e = judged v next n (judge v) refl e
      by (number.CutOff size) n e = absurd (omega arith)
      by (number.Malformed start) n e = absurd (omega arith)

-- an accepted card ends after its last figure
pub end_got : (s : List ℕ) (at : ℕ) (f : Figures) → at ≤ length s → (card_end s at f).verdict.number ≡ 0
    → (card_end s at f ≡ record { verdict = accepted; figures = f }) × Ahead s at []
unfolding card_end refused_card bytes_of
end_got s at f l e = by (ltb at (length s)) refl e
  where
    by : (t : Bool) → ltb at (length s) ≡ t → (cond t (refused_card card_goes_on at) (record { verdict = accepted; figures = f })).verdict.number ≡ 0
        → (cond (ltb at (length s)) (refused_card card_goes_on at) (record { verdict = accepted; figures = f }) ≡ record { verdict = accepted; figures = f })
        × Ahead s at []
    by true q e = absurd (omega arith)
    by false q e = (rw q, record { inside = l; bytes = drop_of_length-le s (ltb-false at (length s) q) })

-- a number in front of the others
pub ahead_more : {s : List ℕ} {at v next : ℕ} {vs : List ℕ} → Stands s at v next → Ahead s next vs → Ahead s at (v ∷ vs)
unfolding bytes_of
ahead_more {v = v} n a = record { inside = omega (arith, n.after, n.inside); bytes = n.bytes ∙ ap (λ (x : List ℕ). groups v ++ x) a.bytes }
