-- Laws of numbers in decimal: what is written is read back, what is read is what would be written, and what a cap changes.
-- Assumes nothing.
use Rattle.std.specs.Prelude.{ℕ, zero, suc, ◌+◌, ◌-◌, ◌*◌, ◌/◌, ◌%◌, ◌≤◌, ◌<◌, ◌≡◌, List, [], ◌∷◌, ◌++◌, Bool, true, false, cond, not, length, get_or, drop, min, leb, ltb, eqb, Option, Some, None}
use Rattle.std.proofs.Math.Path.{refl}
use Rattle.std.proofs.Common.{sym, ap, ap₂, ◌∙◌, append_assoc, drop-drop, ltb-true, ltb-false, leb-true, lt-ltb, le-ltb, le-leb, ne_eqb}
use native.Mathlib.Omega.{arith}
use Rattle.std.proofs.Math.Decide.{dec_lt}
use Rattle.std.proofs.lemmas.Option.{same_Some, none-some}
use Rattle.std.proofs.lemmas.Bool.{lt-leb, eqb-false}
use Rattle.laws.specs.Bools.{and_left, and_right, and_both, clash}
use Rattle.numbers.specs.Limits.{no_number}
use Rattle.decimal.specs.Decimal.{is_digit, decimal_from, decimal, digits_in, value_from, is_number, number_of, number_at, capped, grown}

-- ---- digits

pub digit_range : (b : ℕ) → is_digit b ≡ true → (48 ≤ b) × (b ≤ 57)
unfolding is_digit
digit_range b e = (leb-true 48 b (and_left (leb 48 b) (leb b 57) e), leb-true b 57 (and_right (leb 48 b) (leb b 57) e))

pub range_digit : (b : ℕ) → 48 ≤ b → b ≤ 57 → is_digit b ≡ true
unfolding is_digit
range_digit b l h = and_both (le-leb 48 b l) (le-leb b 57 h)

pub digit_below : (b : ℕ) → b < 48 → is_digit b ≡ false
unfolding is_digit
digit_below b h = rw (lt-leb 48 b h)

-- every element is a digit
abbrev pub AllDigits : List ℕ → Type 0
AllDigits [] = Unit
AllDigits (d ∷ ds) = (is_digit d ≡ true) × AllDigits ds

digits_append : (xs ys : List ℕ) → AllDigits xs → AllDigits ys → AllDigits (xs ++ ys)
digits_append [] ys p q = q
digits_append (x ∷ xs) ys (d, p) q = (d, digits_append xs ys p q)

-- the answer of a number v and the offset after it
abbrev pub found : ℕ → ℕ → Option (ℕ × ℕ)
found v next = Some (v, next)

-- equal answers have equal numbers and offsets
pub same_number : (d e : ℕ × ℕ) → Some d ≡ Some e → (d.0 ≡ e.0) × (d.1 ≡ e.1)
same_number d e q = let same = same_Some d e q in (ap (λ (x : ℕ × ℕ). x.0) same, ap (λ (x : ℕ × ℕ). x.1) same)

-- ---- values of 32 bits

pub capped_small : (v : ℕ) → v < no_number → capped v ≡ v
unfolding capped
capped_small v h = rw (lt-ltb v no_number h)

pub capped_great : (v : ℕ) → no_number ≤ v → capped v ≡ no_number
unfolding capped
capped_great v h = rw (le-ltb v no_number h)

pub capped_min : (v : ℕ) → min v no_number ≡ capped v
capped_min v = elim (dec_lt v no_number) [ yes h ↦ omega (arith, capped_small v h) | no h ↦ omega (arith, capped_great v (omega arith)) ]

pub capped_most : (v : ℕ) → capped v ≤ no_number
capped_most v = elim (dec_lt v no_number) [ yes h ↦ omega (arith, capped_small v h) | no h ↦ omega (arith, capped_great v (omega arith)) ]

module _ (v b : ℕ) where
  pub grown_other : is_digit b ≡ false → no_number ≡ grown v b
  unfolding grown
  grown_other e = rw e

  module _ (l : 48 ≤ b) (h : b ≤ 57) where
    pub grown_capped : capped (v * 10 + (b - 48)) ≡ grown v b
    unfolding grown
    grown_capped = rw (range_digit b l h)

    pub grown_great : no_number ≤ v * 10 + (b - 48) → no_number ≡ grown v b
    grown_great m = sym (capped_great _ m) ∙ grown_capped

    pub grown_digit : v * 10 + (b - 48) < no_number → v * 10 + (b - 48) ≡ grown v b
    grown_digit m = sym (capped_small _ m) ∙ grown_capped

-- digits make a number no smaller
value_grows : (v : ℕ) (ds : List ℕ) → v ≤ value_from v ds
unfolding value_from
value_grows v [] = omega arith
value_grows v (d ∷ ds) = omega (arith, value_grows (v * 10 + (d - 48)) ds)

-- a cap on the way changes nothing that is below it in the end
pub capped_from : (v : ℕ) (ds : List ℕ) → capped (value_from (capped v) ds) ≡ capped (value_from v ds)
capped_from v ds = elim (dec_lt v no_number) [
  | yes h ↦ ap (λ (x : ℕ). capped (value_from x ds)) (capped_small v h)
  | no h ↦
      ap (λ (x : ℕ). capped (value_from x ds)) (capped_great v (omega arith))
      ∙ capped_great _ (value_grows no_number ds)
      ∙ sym (capped_great _ (omega (arith, value_grows v ds)))
]

-- ---- the digits at the front

pub digits_next : (b : ℕ) (bs : List ℕ) → is_digit b ≡ true → digits_in (b ∷ bs) ≡ b ∷ digits_in bs
unfolding digits_in
digits_next b bs e = rw e

pub digits_end : (b : ℕ) (bs : List ℕ) → is_digit b ≡ false → digits_in (b ∷ bs) ≡ []
unfolding digits_in
digits_end b bs e = rw e

-- they are digits, and what follows them is the rest
pub digits_all : (bs : List ℕ) → AllDigits (digits_in bs)
unfolding digits_in
digits_all [] = tt
digits_all (b ∷ bs) = go (is_digit b) refl (digits_all bs)
  where
    go : (t : Bool) → is_digit b ≡ t → AllDigits (digits_in bs) → AllDigits (cond t (b ∷ digits_in bs) [])
    go true e p = (e, p)
    go false e p = tt

pub digits_rest : (bs : List ℕ) → bs ≡ digits_in bs ++ drop (length (digits_in bs)) bs
unfolding digits_in
digits_rest [] = refl
digits_rest (b ∷ bs) = go (is_digit b) (digits_rest bs)
  where
    go : (t : Bool) → bs ≡ digits_in bs ++ drop (length (digits_in bs)) bs
        → b ∷ bs ≡ cond t (b ∷ digits_in bs) [] ++ drop (length {A = ℕ} (cond t (b ∷ digits_in bs) [])) (b ∷ bs)
    go true e = ap (λ (x : List ℕ). b ∷ x) e
    go false e = refl

-- digits before a byte that is none
pub digits_before : (ds : List ℕ) (b : ℕ) (bs : List ℕ) → AllDigits ds → is_digit b ≡ false → digits_in (ds ++ (b ∷ bs)) ≡ ds
digits_before [] b bs p e = digits_end b bs e
digits_before (d ∷ ds) b bs (q, p) e = digits_next d _ q ∙ ap (λ (x : List ℕ). d ∷ x) (digits_before ds b bs p e)

-- ---- what is written is read back

value_append : (v : ℕ) (xs ys : List ℕ) → value_from v (xs ++ ys) ≡ value_from (value_from v xs) ys
unfolding value_from
value_append v [] ys = refl
value_append v (x ∷ xs) ys = value_append (v * 10 + (x - 48)) xs ys

-- the digits of a number: they are digits, the first is not 0 before others, and their value is the number
record Written (v : ℕ) (ds : List ℕ) : Type 0 where
  shown : AllDigits ds
  form : is_number ds ≡ true
  first : 0 < v → 48 < get_or ds 0 0
  value : value_from 0 ds ≡ v

one_digit : (v : ℕ) → v < 10 → Written v ((48 + v) ∷ [])
unfolding is_number value_from
one_digit v h = record { shown = (range_digit (48 + v) (omega arith) (omega arith), tt); form = refl; first = λ p. omega arith; value = omega arith }

-- one digit more after those of a number that is not 0
one_more : (v d : ℕ) (ds : List ℕ) → Written v ds → 0 < v → d < 10 → Written (v * 10 + d) (ds ++ ((48 + d) ∷ []))
unfolding is_number value_from
one_more v d ds w p h = record {
  shown = digits_append ds _ w.shown (range_digit (48 + d) (omega arith) (omega arith), tt);
  form = form ds (w.first p) w.form;
  first = λ q. front ds (w.first p);
  value = value_append 0 ds _ ∙ omega (arith, w.value);
}
  where
    form : (xs : List ℕ) → 48 < get_or xs 0 0 → is_number xs ≡ true → is_number (xs ++ ((48 + d) ∷ [])) ≡ true
    form [] l e = refl
    form (x ∷ []) l e = rw (ne_eqb x 48 (λ q. omega arith))
    form (x ∷ (y ∷ xs)) l e = e

    front : (xs : List ℕ) → 48 < get_or xs 0 0 → 48 < get_or (xs ++ ((48 + d) ∷ [])) 0 0
    front [] l = absurd (omega arith)
    front (x ∷ xs) l = l

written : (k v : ℕ) → v ≤ k → Written v (decimal_from k v)
unfolding decimal_from
written zero v h = one_digit v (omega arith)
written (suc k) v h = go (ltb v 10) refl (written k (v / 10))
  where
    go : (t : Bool) → ltb v 10 ≡ t → (v / 10 ≤ k → Written (v / 10) (decimal_from k (v / 10)))
        → Written v (cond t ((48 + v) ∷ []) (decimal_from k (v / 10) ++ ((48 + v % 10) ∷ [])))
    go true e w = one_digit v (ltb-true v 10 e)
    go false e w =
        let great = ltb-false v 10 e in
        let same : v / 10 * 10 + v % 10 ≡ v = omega arith in
        rw same at (one_more (v / 10) (v % 10) _ (w (omega arith)) (omega arith) (omega arith))

-- WHAT IS WRITTEN IS READ BACK, before a byte that is no digit
pub decimal_read : (s : List ℕ) (at v b : ℕ) (rest : List ℕ) → is_digit b ≡ false → drop at s ≡ decimal v ++ (b ∷ rest)
    → number_at s at ≡ Some (v, at + length (decimal v))
unfolding number_at number_of decimal
decimal_read s at v b rest e d =
    let w = written v v (omega arith) in
    rw (d, digits_before (decimal_from v v) b rest w.shown e, w.form, w.value)

-- ---- what is read is what would be written

-- the digits that may still follow change nothing, as long as they are enough
decimal_fuel : (k l v : ℕ) → v ≤ k → v ≤ l → decimal_from k v ≡ decimal_from l v
unfolding decimal_from
decimal_fuel zero zero v h m = refl
decimal_fuel zero (suc l) v h m = rw (lt-ltb v 10 (omega arith))
decimal_fuel (suc k) zero v h m = rw (lt-ltb v 10 (omega arith))
decimal_fuel (suc k) (suc l) v h m = go (ltb v 10) refl (decimal_fuel k l (v / 10))
  where
    go : (t : Bool) → ltb v 10 ≡ t → (v / 10 ≤ k → v / 10 ≤ l → decimal_from k (v / 10) ≡ decimal_from l (v / 10))
        → cond t ((48 + v) ∷ []) (decimal_from k (v / 10) ++ ((48 + v % 10) ∷ [])) ≡ cond t ((48 + v) ∷ []) (decimal_from l (v / 10) ++ ((48 + v % 10) ∷ []))
    go true e f = refl
    go false e f = ap (λ (x : List ℕ). x ++ ((48 + v % 10) ∷ [])) (f (omega (arith, ltb-false v 10 e)) (omega (arith, ltb-false v 10 e)))

decimal_one : (v : ℕ) → v < 10 → decimal v ≡ (48 + v) ∷ []
unfolding decimal
decimal_one v h = go v h
  where
    go : (k : ℕ) → v < 10 → decimal_from k v ≡ (48 + v) ∷ []
    go zero h = unfold decimal_from in refl
    go (suc k) h = unfold decimal_from in rw (lt-ltb v 10 h)

decimal_more : (v d : ℕ) → 0 < v → d < 10 → decimal (v * 10 + d) ≡ decimal v ++ ((48 + d) ∷ [])
unfolding decimal decimal_from
decimal_more v d p h = go (v * 10 + d) refl
  where
    go : (k : ℕ) → v * 10 + d ≡ k → decimal_from k (v * 10 + d) ≡ decimal_from v v ++ ((48 + d) ∷ [])
    go zero e = absurd (omega arith)
    go (suc k) e =
        let high : (v * 10 + d) / 10 ≡ v = omega arith in
        let low : (v * 10 + d) % 10 ≡ d = omega arith in
        rw (le-ltb (v * 10 + d) 10 (omega arith), high, low) (ap (λ (x : List ℕ). x ++ ((48 + d) ∷ [])) (decimal_fuel k v v (omega arith) (omega arith)))

decimal_from_law : (v : ℕ) (ds : List ℕ) → 0 < v → AllDigits ds → decimal (value_from v ds) ≡ decimal v ++ ds
unfolding value_from
decimal_from_law v [] p q = sym (append_none (decimal v))
  where
    append_none : (xs : List ℕ) → xs ++ [] ≡ xs
    append_none [] = refl
    append_none (x ∷ xs) = ap (λ (y : List ℕ). x ∷ y) (append_none xs)
decimal_from_law v (d ∷ ds) p (q, r) =
    let range = digit_range d q in
    let same : 48 + (d - 48) ≡ d = omega arith in
    decimal_from_law (v * 10 + (d - 48)) ds (omega arith) r
    ∙ ap (λ (x : List ℕ). x ++ ds) (decimal_more v (d - 48) p (omega arith))
    ∙ append_assoc (decimal v) _ ds
    ∙ ap (λ (x : ℕ). decimal v ++ (x ∷ ds)) same

-- digits that are a number are the number's digits
pub number_decimal : (ds : List ℕ) → AllDigits ds → is_number ds ≡ true → decimal (value_from 0 ds) ≡ ds
unfolding is_number value_from
number_decimal [] p e = clash e refl
number_decimal (d ∷ []) (q, p) e =
    let range = digit_range d q in
    let same : 48 + (d - 48) ≡ d = omega arith in
    let alone : 0 * 10 + (d - 48) ≡ d - 48 = omega arith in
    ap decimal alone ∙ decimal_one (d - 48) (omega arith) ∙ ap (λ (x : ℕ). x ∷ []) same
number_decimal (d ∷ (f ∷ ds)) (q, p) e =
    let alone : 0 * 10 + (d - 48) ≡ d - 48 = omega arith in
    ap (λ (x : ℕ). decimal (value_from x (f ∷ ds))) alone ∙ go (eqb d 48) refl e
  where
    go : (t : Bool) → eqb d 48 ≡ t → not t ≡ true → decimal (value_from (d - 48) (f ∷ ds)) ≡ d ∷ (f ∷ ds)
    go true h e = clash e refl
    go false h e =
        let range = digit_range d q in
        let some = eqb-false d 48 h in
        let same : 48 + (d - 48) ≡ d = omega arith in
        decimal_from_law (d - 48) (f ∷ ds) (omega arith) p
        ∙ ap (λ (x : List ℕ). x ++ (f ∷ ds)) (decimal_one (d - 48) (omega arith))
        ∙ ap (λ (x : ℕ). x ∷ (f ∷ ds)) same

-- WHAT IS READ IS WHAT WOULD BE WRITTEN
pub read_decimal : (s : List ℕ) (at v next : ℕ) → number_at s at ≡ Some (v, next) → (at < next) × (drop at s ≡ decimal v ++ drop next s)
unfolding number_at number_of
read_decimal s at v next e = go (is_number (digits_in (drop at s))) refl e
  where
    ds : List ℕ
    ds = digits_in (drop at s)

    some : (xs : List ℕ) → is_number xs ≡ true → 0 < length xs
    some [] h = unfold is_number in clash h refl
    some (x ∷ xs) h = omega arith

    go : (t : Bool) → is_number ds ≡ t → cond {A = Option (ℕ × ℕ)} t (Some (value_from 0 ds, at + length ds)) None ≡ Some (v, next)
        → (at < next) × (drop at s ≡ decimal v ++ drop next s)
    go true h e =
        let (value, after) = same_number _ _ e in
        let far : drop (length ds) (drop at s) ≡ drop next s = drop-drop (length ds) at s ∙ ap (λ (n : ℕ). drop n s) after in (
          omega (arith, some ds h),
          digits_rest (drop at s) ∙ ap₂ (λ (x y : List ℕ). x ++ y) (sym (number_decimal ds (digits_all (drop at s)) h) ∙ ap decimal value) far,
        )
    go false h e = absurd (none-some (v, next) e)
