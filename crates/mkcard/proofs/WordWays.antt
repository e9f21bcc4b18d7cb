-- Each way that a byte of a text can take, and what is left to write and to count.
-- Assumes nothing.
use Prim.Native.Nat.{ℕ, zero, suc, ◌+◌, ◌-◌, ◌*◌, ◌≤◌, ◌<◌}
use mathlib.Core.Path.{◌≡◌, refl, sym, ap, subst, ◌∙◌}
use mathlib.Core.List.{List, [], ◌∷◌}
use mathlib.Core.Bool.{Bool, true, false, cond}
use mathlib.Core.Logic.{◌⊎◌, inl, inr}
use native.Mathlib.Omega.{arith}
use native.Mathlib.Numerals.{add-one}
use lib.ListN.{length, get_or, set, take, drop, length-append, drop_of_length-le}
use lib.Seq.{drop-cons, take-append_seam, set_split}
use lib.Dec.{ltb}
use borrow.Author.Tests.{lt-ltb, le-ltb, eq-eqb, ne_eqb, ltb-true, ltb-false}
use Rattle.std.specs.List.{filter}
use Rattle.std.specs.Prelude.{Option, Some, None, min, unwrap_or, Result, Ok, Err, IfOk}
use Rattle.laws.specs.Overwrite.{overwrite, overwrite_more, overwrite_front, overwrite_length}
use Rattle.numbers.specs.Limits.{no_number}
use Rattle.decimal.specs.Decimal.{capped, grown}
use Rattle.decimal.specs.DecimalLaws.{capped_small, capped_great}
use Rattle.leb128.specs.Number.{groups, groups_from}
use Rattle.leb128.specs.NumberLaws.{groups_long}
use Rattle.card.specs.Card.{bytes_of}
use Rattle.card.specs.Read.{read_card}
use Rattle.card.specs.declared.CardRead.{CardRead}
use Rattle.card_writer.specs.Put.{Room}
use Rattle.card_writer.proofs.WriterWays.{Writes, writes_done}
use Rattle.mkcard.specs.declared.make.Refusal.{Refusal}
use Rattle.mkcard.specs.declared.scan.Scan.{Scan}
use Rattle.mkcard.specs.Scan.{most_words, most_bytes, max_line, ended, ended_by, line_after, commented, longer, blank}
use Rattle.mkcard.specs.Scan.{stepped, scanned, numbers_from, card_of_words, numbers_in, line_of, made_by, made}

-- ---- one byte

-- a scan with the words of s, in a line, in a comment or not, in a word of this value or not
abbrev scan_at : Scan → ℕ → Bool → Option ℕ → Scan
scan_at s line comment word = record {
  line = line;
  comment = comment;
  word = word;
  count = s.count;
  values = s.values;
  lines = s.lines;
}

module _ (s : Scan) where
  pub ended_none : s.word ≡ None → s ≡ ended s
  unfolding ended ended_by
  ended_none e = rw e

  module _ (value : ℕ) (e : s.word ≡ Some value) where
    pub ended_full : most_words ≤ s.count
        → scan_at s s.line s.comment None ≡ ended s
    unfolding ended ended_by
    ended_full h = rw (e, le-ltb s.count most_words h)

    pub ended_kept : s.count < most_words
        → ◌≡◌ {A = Scan} (record {
          line = s.line;
          comment = s.comment;
          word = None;
          count = s.count + 1;
          values = set s.values s.count value;
          lines = set s.lines s.count s.line;
        }) (ended s)
    unfolding ended ended_by
    ended_kept h = rw (e, lt-ltb s.count most_words h)

module _ (s : Scan) (b : ℕ) where
  pub step_last : (t : Scan) → t ≡ ended s → b ≡ 10 → max_line ≤ t.line
      → scan_at t t.line false t.word ≡ stepped s b
  unfolding stepped line_after
  step_last t e h k = rw (eq-eqb b 10 h, sym e, le-ltb t.line max_line k)

  pub step_line : (t : Scan) → t ≡ ended s → b ≡ 10 → t.line < max_line
      → scan_at t (t.line + 1) false t.word ≡ stepped s b
  unfolding stepped line_after
  step_line t e h k = rw (eq-eqb b 10 h, sym e, lt-ltb t.line max_line k)

  module _ (n : b ≡ 10 → ⊥) where
    pub step_comment : s.comment ≡ true → s ≡ stepped s b
    unfolding stepped
    step_comment e = rw (ne_eqb b 10 n, e)

    module _ (o : s.comment ≡ false) where
      pub step_hash : (t : Scan) → t ≡ ended s → b ≡ 35
          → scan_at t t.line true t.word ≡ stepped s b
      unfolding stepped commented
      step_hash t e h = rw (sym e, ne_eqb b 10 n, o, eq-eqb b 35 h)

      module _ (x : b ≡ 35 → ⊥) where
        pub step_blank : blank b ≡ true → ended s ≡ stepped s b
        unfolding stepped
        step_blank e = rw (ne_eqb b 10 n, o, ne_eqb b 35 x, e)

        pub step_word : blank b ≡ false → (v : ℕ) → v ≡ grown (unwrap_or s.word 0) b
            → scan_at s s.line s.comment (Some v) ≡ stepped s b
        unfolding stepped longer
        step_word e v q = rw (ne_eqb b 10 n, ne_eqb b 35 x, e, q, o)

pub blank_key : (b : ℕ) → (b ≡ 9) ⊎ ((b ≡ 13) ⊎ (b ≡ 32)) → blank b ≡ true
unfolding blank
blank_key b (inl e) = rw e
blank_key b (inr (inl e)) = rw e
blank_key b (inr (inr e)) = rw e

pub blank_none : (b : ℕ) → ((b ≡ 9) ⊎ ((b ≡ 13) ⊎ (b ≡ 32)) → ⊥) → blank b ≡ false
unfolding blank
blank_none b n = rw (ne_eqb b 9 (λ e. n (inl e)), ne_eqb b 13 (λ e. n (inr (inl e))), ne_eqb b 32 (λ e. n (inr (inr e))))

-- ---- more of a text

module _ (s : Scan) (text : List ℕ) (i : ℕ) where
  pub scanned_more : i < length text → scanned s (drop i text) ≡ scanned (stepped s (get_or text i 0)) (drop (i + 1) text)
  unfolding scanned
  scanned_more h = rw (add-one, drop-cons text i 0 h)

  pub scanned_done : length text ≤ i → scanned s (drop i text) ≡ s
  unfolding scanned
  scanned_done h = rw (drop_of_length-le text h)

-- ---- the card of the words

pub groups_great : (v : ℕ) → no_number ≤ v → groups (capped v) ≡ 128 ∷ groups 33554432
unfolding groups groups_from
groups_great v h = rw (capped_great v h)

pub great_long : length (groups 33554432) ≡ 4
unfolding groups groups_from
great_long = refl

pub capped_long : (v : ℕ) → length (groups (capped v)) ≤ 5
capped_long v = go (ltb v no_number) refl
  where
    go : (t : Bool) → ltb v no_number ≡ t → length (groups (capped v)) ≤ 5
    go true e = rw (capped_small v (ltb-true v no_number e)) (groups_long v (ltb-true v no_number e)).1
    go false e = rw (groups_great v (ltb-false v no_number e)) (omega (arith, great_long))

put_byte : (out : List ℕ) (at b : ℕ) → at < length out → set out at b ≡ overwrite out at (b ∷ [])
unfolding overwrite
put_byte out at b h = rw add-one (set_split out at b h)

-- a byte, then a number of four bytes
pub put_great : (out : List ℕ) (at v : ℕ) → at + 5 ≤ length out → no_number ≤ v
    → overwrite (set out at 128) (at + 1) (groups 33554432) ≡ overwrite out at (groups (capped v))
put_great out at v room h = rw (put_byte out at 128 (omega arith), groups_great v h) (overwrite_more out at (128 ∷ []) (groups 33554432) (omega arith))

module _ (s : Scan) where
  pub numbers_kept : (left i : ℕ) → i + left ≡ most_words → i < most_words → i < s.count
      → numbers_from left i s ≡ capped (get_or s.values i 0) ∷ numbers_from (most_words - (i + 1)) (i + 1) s
  unfolding numbers_from
  numbers_kept zero i e h k = absurd (omega arith)
  numbers_kept (suc left) i e h k = let q : left ≡ most_words - (i + 1) = omega arith in rw (lt-ltb i s.count k, q)

  pub numbers_end : (left i : ℕ) → s.count ≤ i → numbers_from left i s ≡ []
  unfolding numbers_from
  numbers_end zero i h = refl
  numbers_end (suc left) i h = rw (le-ltb i s.count h)

  -- past the words, or past those that are kept
  pub numbers_done : (left i : ℕ) → i + left ≡ most_words → min s.count most_words ≤ i → numbers_from left i s ≡ []
  unfolding numbers_from
  numbers_done zero i e h = refl
  numbers_done (suc left) i e h = rw (le-ltb i s.count (omega arith))

  numbers_long : (left i : ℕ) → length (bytes_of (numbers_from left i s)) ≤ 5 * left
  unfolding numbers_from bytes_of
  numbers_long zero i = omega arith
  numbers_long (suc left) i = go (ltb i s.count) (numbers_long left (i + 1))
    where
      v : ℕ
      v = capped (get_or s.values i 0)

      go : (t : Bool) → length (bytes_of (numbers_from left (i + 1) s)) ≤ 5 * left → length (bytes_of (cond t (v ∷ numbers_from left (i + 1) s) [])) ≤ 5 * suc left
      go true h = omega (arith, length-append (groups v) (bytes_of (numbers_from left (i + 1) s)), capped_long (get_or s.values i 0))
      go false h = omega arith

  pub card_long : length (card_of_words s) ≤ most_bytes
  unfolding card_of_words
  card_long = numbers_long most_words 0

  pub card_room : (out : List ℕ) → most_bytes ≤ length out → Room true out 0 (bytes_of (numbers_from most_words 0 s))
  card_room out h = record { counted = omega (arith, numbers_long most_words 0); written = λ e. omega (arith, numbers_long most_words 0) }

  -- after the last word the card is written
  pub words_done : {out x : List ℕ} {at : ℕ} (vs : List ℕ) → vs ≡ [] → Writes true out 0 (numbers_from most_words 0 s) x at vs
      → (at ≡ length (card_of_words s)) × (x ≡ overwrite out 0 (card_of_words s))
  unfolding card_of_words bytes_of
  words_done (v ∷ vs) e w = absurd (let z : ◌≡◌ {A = ℕ} 0 1 = cc in omega arith)
  words_done [] e w = let p = writes_done w in (omega (arith, p.end), p.string)

  pub line_end : (i : ℕ) → s.count ≤ i → s.line ≡ line_of s i
  unfolding line_of
  line_end i h = rw (le-ltb i s.count h)

  pub line_past : (i : ℕ) → i < s.count → most_words ≤ i → s.line ≡ line_of s i
  unfolding line_of
  line_past i h k = rw (lt-ltb i s.count h, le-ltb i most_words k)

  pub line_word : (i : ℕ) → i < s.count → i < most_words → get_or s.lines i 0 ≡ line_of s i
  unfolding line_of
  line_word i h k = rw (lt-ltb i s.count h, lt-ltb i most_words k)

-- ---- the numbers before a place

pub numbers_counted : (bs : List ℕ) → length (filter (λ b. ltb b 128) bs) ≡ numbers_in bs
unfolding numbers_in
numbers_counted [] = refl
numbers_counted (b ∷ bs) = next (ltb b 128) (numbers_counted bs)
  where
    rest : List ℕ
    rest = filter (λ b. ltb b 128) bs

    next : (t : Bool) → length rest ≡ numbers_in bs → length (cond t (b ∷ rest) rest) ≡ cond t 1 0 + numbers_in bs
    next true e = omega arith
    next false e = omega arith

-- ---- the card in the buffer

module _ (out bs : List ℕ) {n : ℕ} {y : List ℕ} (e : n ≡ length bs) (q : y ≡ overwrite out 0 bs) where
  pub card_taken : take n y ≡ bs
  card_taken = rw (e, q, overwrite_front out bs) (take-append_seam bs (drop (length bs) out))

  pub card_fits : length bs ≤ length out → n ≤ length y
  card_fits h = omega (arith, ap length q ∙ overwrite_length out 0 bs (omega arith))

module _ (s : Scan) (r : CardRead) (e : r ≡ read_card 1 (card_of_words s)) where
  pub made_card : r.verdict.number ≡ 0 → (n : ℕ) → n ≡ length (card_of_words s) → ◌≡◌ {A = Result ℕ Refusal} (Ok n) (made s)
  unfolding made made_by
  made_card h n q = rw (sym e, h, q)

  pub made_none : (r.verdict.number ≡ 0 → ⊥) → (l : ℕ) → l ≡ line_of s (numbers_in (take r.verdict.place (card_of_words s)))
      → ◌≡◌ {A = Result ℕ Refusal} (Err (record { number = r.verdict.number; line = l })) (made s)
  unfolding made
  made_none h l q = rw (sym e, q) (by r.verdict.number h)
    where
      by : (k : ℕ) → (k ≡ 0 → ⊥)
          → ◌≡◌ {A = Result ℕ Refusal} (Err (record { number = k; line = line_of s (numbers_in (take r.verdict.place (card_of_words s))) }))
          (made_by s k r.verdict.place)
      by zero h = absurd (h refl)
      by (suc k) h = unfold made_by in refl

pub made_short : (s : Scan) → IfOk (made s) (λ n. n ≤ most_bytes)
unfolding made made_by
made_short s = by (read_card 1 (card_of_words s)).verdict.number
  where
    by : (k : ℕ) → IfOk (made_by s k (read_card 1 (card_of_words s)).verdict.place) (λ n. n ≤ most_bytes)
    by zero = card_long s
    by (suc k) = tt

-- the card that is made has no more bytes
pub made_fits : (s : Scan) (n : ℕ) → ◌≡◌ {A = Result ℕ Refusal} (Ok n) (made s) → n ≤ most_bytes
made_fits s n e = subst (λ (r : Result ℕ Refusal). IfOk r (λ n. n ≤ most_bytes)) (sym e) (made_short s)
