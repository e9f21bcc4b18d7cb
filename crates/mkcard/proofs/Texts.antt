-- The text of numbers is read back as these numbers.
-- Assumes nothing.
use Prim.Native.Nat.{ℕ, zero, suc, ◌+◌, ◌-◌, ◌*◌, ◌/◌, ◌%◌, ◌^◌, ◌≤◌, ◌<◌}
use mathlib.Core.Path.{◌≡◌, refl, sym, ap, ap₂, ◌∙◌}
use mathlib.Core.List.{List, [], ◌∷◌, ◌++◌}
use mathlib.Core.Bool.{false}
use mathlib.Core.Logic.{◌⊎◌, inl, inr}
use native.Mathlib.Omega.{arith}
use native.Mathlib.Nat.{pow-succ'}
use lib.ListN.{length, get_or, set, length-set}
use lib.Seq.{get_or-set_same, get_or-set_other}
use borrow.Author.Tests.{lt-ltb}
use Rattle.std.specs.Prelude.{Option, Some, None, unwrap_or}
use Rattle.numbers.specs.Limits.{no_number}
use Rattle.decimal.specs.Decimal.{digits, capped}
use Rattle.decimal.specs.DecimalLaws.{capped_small, grown_digit}
use Rattle.card.specs.Card.{bytes_of}
use Rattle.mkcard.specs.declared.scan.Scan.{Scan}
use Rattle.mkcard.specs.Scan.{most_words, begun, ended, ended_by, line_after, stepped, scanned, numbers_from, card_of_words, text_of, Spelled, card_of_text}
use Rattle.mkcard.proofs.WordWays.{step_word, ended_none, blank_none, numbers_kept, numbers_end}

-- one piece of a text after the other
scanned_append : (s : Scan) (xs ys : List ℕ) → scanned s (xs ++ ys) ≡ scanned (scanned s xs) ys
unfolding scanned
scanned_append s [] ys = refl
scanned_append s (x ∷ xs) ys = scanned_append (stepped s x) xs ys

-- s in a word of value v, and after it
abbrev within : Scan → ℕ → Scan
within s v = record { line = s.line; comment = s.comment; word = Some v; count = s.count; values = s.values; lines = s.lines }

abbrev after : Scan → ℕ → Scan
after s v = record {
  line = s.line;
  comment = s.comment;
  word = None;
  count = s.count + 1;
  values = set s.values s.count v;
  lines = set s.lines s.count s.line;
}

-- a digit more
digit_step : (s : Scan) (v : ℕ) → s.comment ≡ false → unwrap_or s.word 0 ≡ v / 10 → v < no_number → stepped s (48 + v % 10) ≡ within s v
digit_step s v o q u =
    let d : v ≡ unwrap_or s.word 0 * 10 + (48 + v % 10 - 48) = omega arith in
    let g = grown_digit (unwrap_or s.word 0) (48 + v % 10) (omega arith) (omega arith) (omega arith) in
    sym (step_word s (48 + v % 10) (λ e. omega arith) o (λ e. omega arith) (blank_none (48 + v % 10) none) v (d ∙ g))
  where
    none : (48 + v % 10 ≡ 9) ⊎ ((48 + v % 10 ≡ 13) ⊎ (48 + v % 10 ≡ 32)) → ⊥
    none (inl e) = omega arith
    none (inr (inl e)) = omega arith
    none (inr (inr e)) = omega arith

digits_read : (k v : ℕ) (s : Scan) → s.comment ≡ false → unwrap_or s.word 0 ≡ 0 → v < 10 ^ suc k → v < no_number → scanned s (digits (suc k) v) ≡ within s v
unfolding digits scanned
digits_read zero v s o z h u = digit_step s v o (omega arith) u
digits_read (suc k) v s o z h u =
    let e = pow-succ' 10 (suc k) in
    scanned_append s (digits (suc k) (v / 10)) ((48 + v % 10) ∷ [])
    ∙ ap (λ (x : Scan). stepped x (48 + v % 10)) (digits_read k (v / 10) s o z (omega arith) (omega arith))
    ∙ digit_step (within s (v / 10)) v o refl u

-- a line feed keeps the word
word_kept : (s : Scan) (v : ℕ) → s.count < most_words → stepped (within s v) 10 ≡ line_after (after s v)
unfolding stepped ended ended_by
word_kept s v h = rw (lt-ltb s.count most_words h)

-- what a text of numbers leaves
record Read (s t : Scan) (vs : List ℕ) : Type 0 where
  out : t.word ≡ None
  count : t.count ≡ s.count + length vs
  earlier : (i : ℕ) → i < s.count → get_or t.values i 0 ≡ get_or s.values i 0
  later : numbers_from (most_words - s.count) s.count t ≡ vs

read_numbers : (more : ℕ → ℕ) (vs : List ℕ) (s : Scan) → s.comment ≡ false → s.word ≡ None → length s.values ≡ most_words
    → s.count + length vs ≤ most_words → Spelled more vs → Read s (scanned s (text_of more vs)) vs
unfolding text_of scanned line_after Spelled
read_numbers more [] s o n l f p = record {
  out = n;
  count = omega arith;
  earlier = λ i h. refl;
  later = numbers_end s (most_words - s.count) s.count (omega arith);
}
read_numbers more (v ∷ vs) s o n l f (u, d, p) = go (scanned s (text_of more (v ∷ vs))) whole
    (read_numbers more vs next refl refl (length-set s.values s.count v ∙ l) (omega arith) p)
  where
    next : Scan
    next = line_after (after s v)

    whole : scanned s (text_of more (v ∷ vs)) ≡ scanned next (text_of more vs)
    whole = scanned_append s (digits (suc (more v)) v) (10 ∷ text_of more vs)
        ∙ ap (λ (x : Scan). scanned (stepped x 10) (text_of more vs)) (digits_read (more v) v s o (ap (λ (w : Option ℕ). unwrap_or w 0) n) d u)
        ∙ ap (λ (x : Scan). scanned x (text_of more vs)) (word_kept s v (omega arith))

    go : (t : Scan) → t ≡ scanned next (text_of more vs) → Read next (scanned next (text_of more vs)) vs → Read s t (v ∷ vs)
    go t e r = rw e (record {
      out = r.out;
      count = omega (arith, r.count);
      earlier = λ i h. r.earlier i (omega arith) ∙ get_or-set_other s.values s.count i v 0 (λ q. omega arith);
      later = numbers_kept (scanned next (text_of more vs)) (most_words - s.count) s.count (omega arith) (omega arith) (omega (arith, r.count))
          ∙ ap₂ (λ (x : ℕ) (xs : List ℕ). x ∷ xs)
          (ap capped (r.earlier s.count (omega arith) ∙ get_or-set_same s.values s.count v 0 (omega arith)) ∙ capped_small v u) r.later;
    })

-- A TEXT OF NUMBERS MAKES THEIR BYTES
pub text_card : (more : ℕ → ℕ) (vs : List ℕ) → length vs ≤ most_words → Spelled more vs → card_of_text (text_of more vs) ≡ bytes_of vs
unfolding card_of_text card_of_words begun
text_card more vs h p =
    let r = read_numbers more vs begun refl refl refl (omega arith) p in
    ap (λ (x : Scan). bytes_of (numbers_from most_words 0 x)) (sym (ended_none (scanned begun (text_of more vs)) r.out)) ∙ ap bytes_of r.later
