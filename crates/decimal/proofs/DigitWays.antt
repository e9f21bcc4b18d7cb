-- Each way that the reading of digits can take, and what they say of a number.
-- Assumes nothing.
use Prim.Native.Nat.{ℕ, suc, ◌+◌, ◌-◌, ◌*◌, ◌≤◌, ◌<◌}
use mathlib.Core.Path.{◌≡◌, refl, sym, ap, ◌∙◌}
use mathlib.Core.List.{List, [], ◌∷◌}
use mathlib.Core.Bool.{Bool, true, false, not}
use native.Mathlib.Omega.{arith}
use native.Mathlib.Decide.{dec_lt}
use native.Mathlib.Numerals.{add-one}
use lib.ListN.{length, get_or, drop, drop_of_length-le}
use lib.Seq.{drop-cons}
use lib.Dec.{eqb}
use borrow.Author.Tests.{eq-eqb, ne_eqb}
use Rattle.std.specs.Prelude.{Some, None}
use Rattle.numbers.specs.Limits.{no_number}
use Rattle.decimal.specs.Decimal.{is_digit, digits_in, value_from, is_number, number_of, number_at, capped, grown, capped_number, digits_at}
use Rattle.decimal.specs.DecimalLaws.{digit_range, capped_small, capped_great, capped_most, capped_from, grown_capped, digits_next, digits_end}

none_in : digits_in [] ≡ []
unfolding digits_in
none_in = refl

-- the digits from start on are read up to at: what is left of them makes the whole
pub record Reading (s : List ℕ) (start value at : ℕ) : Type 0 where
  pub most : value ≤ no_number
  pub whole : capped (value_from value (digits_in (drop at s))) ≡ capped (value_from 0 (digits_in (drop start s)))
  pub end : at + length (digits_in (drop at s)) ≡ start + length (digits_in (drop start s))

pub reading_start : (s : List ℕ) (start : ℕ) → Reading s start 0 start
reading_start s start = record { most = omega arith; whole = refl; end = refl }

module _ (s : List ℕ) (start value at : ℕ) (r : Reading s start value at) where
  pub reading_more : at < length s → is_digit (get_or s at 0) ≡ true → (v : ℕ) → v ≡ grown value (get_or s at 0) → Reading s start v (at + 1)
  unfolding value_from
  reading_more h d v e =
      let front : digits_in (drop at s) ≡ get_or s at 0 ∷ digits_in (drop (at + 1) s) = rw add-one (ap digits_in (drop-cons s at 0 h) ∙ digits_next _ _ d) in
      let range = digit_range (get_or s at 0) d in
      let cap : v ≡ capped (value * 10 + (get_or s at 0 - 48)) = e ∙ sym (grown_capped value (get_or s at 0) range.0 range.1) in
      record {
        most = rw cap (capped_most _);
        whole = ap (λ (x : ℕ). capped (value_from x (digits_in (drop (at + 1) s)))) cap
            ∙ capped_from _ (digits_in (drop (at + 1) s))
            ∙ ap (λ (x : List ℕ). capped (value_from value x)) (sym front)
            ∙ r.whole;
        end = omega (arith, ap length front, r.end);
      }

  -- nothing is left
  done : digits_in (drop at s) ≡ [] → (value, at) ≡ digits_at s start
  unfolding digits_at value_from
  done e =
      let same : capped value ≡ value = kept in
      let whole : value ≡ capped (value_from 0 (digits_in (drop start s))) = sym same ∙ ap (λ (x : List ℕ). capped (value_from value x)) (sym e) ∙ r.whole in
      let end : at ≡ start + length (digits_in (drop start s)) = omega (arith, ap length e, r.end) in
      λ i. (whole i, end i)
    where
      kept : capped value ≡ value
      kept = elim (dec_lt value no_number) [ yes h ↦ capped_small value h | no h ↦ capped_great value (omega arith) ∙ omega (arith, r.most) ]

  pub reading_stop : at < length s → is_digit (get_or s at 0) ≡ false → (value, at) ≡ digits_at s start
  reading_stop h d = done (ap digits_in (drop-cons s at 0 h) ∙ digits_end _ _ d)

  pub reading_end : length s ≤ at → (value, at) ≡ digits_at s start
  reading_end h = done (ap digits_in (drop_of_length-le s h) ∙ none_in)

-- ---- a number, by how many digits there are and the first of them

module _ (s : List ℕ) (start : ℕ) (d : ℕ × ℕ) (read : d ≡ digits_at s start) where
  pub after : (start ≤ d.1) × (d.1 - start ≡ length (digits_in (drop start s)))
  unfolding digits_at
  after = omega (arith, ap (λ (x : ℕ × ℕ). x.1) read)

  -- the number that they are
  number : is_number (digits_in (drop start s)) ≡ true → Some d ≡ capped_number (number_at s start)
  unfolding digits_at number_at number_of capped_number
  number e = rw e (ap Some read)

  other : is_number (digits_in (drop start s)) ≡ false → None ≡ capped_number (number_at s start)
  unfolding number_at number_of capped_number
  other e = rw e

  pub number_none : d.1 - start ≡ 0 → None ≡ capped_number (number_at s start)
  number_none h = other (none _ (omega (arith, after.1)))
    where
      none : (ds : List ℕ) → length ds ≡ 0 → is_number ds ≡ false
      none [] e = unfold is_number in refl
      none (x ∷ xs) e = absurd (omega arith)

  pub number_one : d.1 - start ≡ 1 → Some d ≡ capped_number (number_at s start)
  number_one h = number (one _ (omega (arith, after.1)))
    where
      one : (ds : List ℕ) → length ds ≡ 1 → is_number ds ≡ true
      one [] e = absurd (omega arith)
      one (x ∷ []) e = unfold is_number in refl
      one (x ∷ (y ∷ ys)) e = absurd (omega arith)

  -- several digits lie in the text, and the first is the byte there
  several : 1 < d.1 - start → (start < length s) × (rest : List ℕ) × (1 ≤ length rest) × (digits_in (drop start s) ≡ get_or s start 0 ∷ rest)
  several h = go (dec_lt start (length s))
    where
      go : Dec (start < length s) → (start < length s) × (rest : List ℕ) × (1 ≤ length rest) × (digits_in (drop start s) ≡ get_or s start 0 ∷ rest)
      go (no l) =
          let out : length s ≤ start = omega arith in
          absurd (omega (arith, after.1, ap length (ap digits_in (drop_of_length-le s out) ∙ none_in)))
      go (yes l) = on (is_digit (get_or s start 0)) refl
        where
          on : (t : Bool) → is_digit (get_or s start 0) ≡ t
              → (start < length s) × (rest : List ℕ) × (1 ≤ length rest) × (digits_in (drop start s) ≡ get_or s start 0 ∷ rest)
          on true e = let front = ap digits_in (drop-cons s start 0 l) ∙ digits_next _ _ e in
              (l, digits_in (drop (suc start) s), omega (arith, after.1, ap length front), front)
          on false e = absurd (omega (arith, after.1, ap length (ap digits_in (drop-cons s start 0 l) ∙ digits_end _ _ e)))

  pub number_inside : 1 < d.1 - start → start < length s
  number_inside h = (several h).0

  form_of : 1 < d.1 - start → is_number (digits_in (drop start s)) ≡ not (eqb (get_or s start 0) 48)
  form_of h = let w = several h in ap is_number w.3 ∙ two _ w.1 w.2
    where
      two : (b : ℕ) (rest : List ℕ) → 1 ≤ length rest → is_number (b ∷ rest) ≡ not (eqb b 48)
      two b [] l = absurd (omega arith)
      two b (x ∷ xs) l = unfold is_number in refl

  pub number_zero : 1 < d.1 - start → get_or s start 0 ≡ 48 → None ≡ capped_number (number_at s start)
  number_zero h z = other (form_of h ∙ ap not (eq-eqb _ _ z))

  pub number_more : 1 < d.1 - start → (get_or s start 0 ≡ 48 → ⊥) → Some d ≡ capped_number (number_at s start)
  number_more h z = number (form_of h ∙ ap not (ne_eqb _ _ z))
