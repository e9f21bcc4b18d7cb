-- The places of a desk string that are lowered where they lie, one word after the other.
-- Assumes nothing.
use Prim.Native.Nat.{ℕ, zero, suc, ◌+◌, ◌-◌, ◌≤◌, ◌<◌}
use mathlib.Core.Path.{◌≡◌, refl, sym, ap, ap₂, ◌∙◌}
use mathlib.Core.List.{List, [], ◌∷◌, ◌++◌, map, append-nil}
use native.Mathlib.Omega.{arith}
use mir.Syntax.{w8}
use mir.Val.{Fits}
use lib.ListN.{length, get_or, set, take, drop, length-map, length-drop, take-append-drop}
use lib.Seq.{get_or-drop, drop-drop, drop_at, take-add, length-take-le}
use Rattle.numbers.specs.Limits.{max_streams}
use Rattle.words.specs.Words.{Bytes, Words, words_of, with_word, with_words}
use Rattle.words.specs.Laws.{bytes_fit, words_length, with_words_none, with_words_append, with_words_more, with_words_length, with_words_entries, with_words_bytes}
use Rattle.words.specs.Laws.{read_written, read_after, written_read}
use Rattle.rules.specs.Order.{dropped}
use Rattle.turns.specs.Places.{get_map, drop_less}
use Rattle.desk.specs.declared.Desk.{Desk}
use Rattle.fields.specs.Fields.{Values, ◌&◌, packed, joined}
use Rattle.fields.specs.FieldLaws.{packed_joined, packed_length}
use Rattle.plan_layout.specs.Layout.{plan_fields, plan_values}
use Rattle.desk_layout.specs.Layout.{slot_fields, desk_words, desk_in, desk_size, with_places}
use Rattle.desk_layout.specs.RoundTrip.{DeskSized}
use Rattle.desk_layout.specs.Sized.{sized_in}
use Rattle.desk_layout.specs.Parts.{places_at, places_written}
use Rattle.desk_columns.specs.Columns.{entry_at}
use Rattle.admission.specs.Places.{Placeless}

-- the places of the desk in a string
abbrev pub places_in : List ℕ → List ℕ
places_in D = (desk_in (words_of D)).places

-- and when the one at place m is gone
abbrev pub lowered_in : ℕ → List ℕ → List ℕ
lowered_in m D = map (dropped m) (places_in D)

-- t is the string D with the first i of them, of n
pub record Lowered (D : List ℕ) (n m : ℕ) (t : List ℕ) (i : ℕ) : Type 0 where
  pub so_far : t ≡ with_words D places_at (take i (lowered_in m D))

-- ---- words

places_are : (D : List ℕ) → places_in D ≡ take max_streams (drop places_at (words_of D))
unfolding desk_in
places_are D = refl

-- a number read where nothing is written yet
read_there : (D : List ℕ) (start : ℕ) (vs : List ℕ) (k : ℕ) → start + length vs ≤ k → get_or (words_of (with_words D start vs)) k 0 ≡ get_or (words_of D) k 0
read_there D start vs k h =
    let z : k + 0 ≡ k = omega arith in
    rw z at
    (sym (get_or-drop k (words_of (with_words D start vs)) 0 0) ∙ ap (λ (ws : List ℕ). get_or ws 0 0) (read_after D start vs k h)
    ∙ get_or-drop k (words_of D) 0 0)

-- where all is zero nothing is lowered
zero_rest : (f : ℕ → ℕ) (n : ℕ) (q : List ℕ) → f 0 ≡ 0 → Placeless n q → drop n (map f q) ≡ drop n q
zero_rest f zero [] z h = refl
zero_rest f zero (x ∷ q) z h =
    let e : x ≡ 0 = h 0 (omega arith) in
    ap₂ (λ (y : ℕ) (ys : List ℕ). y ∷ ys) (ap f e ∙ z ∙ sym e) (zero_rest f zero q z (λ j l. h (suc j) (omega arith)))
zero_rest f (suc n) [] z h = refl
zero_rest f (suc n) (x ∷ q) z h = zero_rest f n q z (λ j l. h (suc j) (omega arith))

-- ---- the loop

module _ (D : List ℕ) (h : desk_size ≤ length D) (n m : ℕ) (most : n ≤ max_streams) (some : 0 < m) where
  -- who has no place gets none
  none_stays : dropped m 0 ≡ 0
  none_stays = drop_less m 0 some

  lowered_long : length (lowered_in m D) ≡ max_streams
  lowered_long = length-map (places_in D) (dropped m) ∙ (sized_in D h).places

  pub lower_start : Lowered D n m D 0
  lower_start = record { so_far = sym (with_words_none D places_at) }

  module _ (t : List ℕ) (i : ℕ) (l : Lowered D n m t i) where
    pub lower_long : length t ≡ length D
    lower_long = ap length l.so_far ∙ with_words_length D places_at _

    -- the next place is still what it was
    lower_read : i < n → get_or (places_in t) i 0 ≡ get_or (places_in D) i 0
    lower_read u =
        let vs = take i (lowered_in m D) in
        let e : length vs ≡ i = length-take-le i (lowered_in m D) (omega (arith, lowered_long)) in
        rw (places_are t, places_are D)
        (sym (entry_at (words_of t) max_streams places_at i (omega arith))
        ∙ ap (λ (s : List ℕ). get_or (words_of s) (places_at + i) 0) l.so_far
        ∙ read_there D places_at vs (places_at + i) (omega arith)
        ∙ entry_at (words_of D) max_streams places_at i (omega arith))

    -- one turn of the loop
    pub lower_more : (t' : List ℕ) (x : ℕ) → i < n → x ≡ dropped m (get_or (places_in t) i 0) → t' ≡ with_word t (places_at + i) x → Lowered D n m t' (i + 1)
    lower_more t' x u e w = record {
      so_far = w
          ∙ ap₂ (λ (s : List ℕ) (v : ℕ). with_word s (places_at + i) v) l.so_far
          (e ∙ ap (dropped m) (lower_read u) ∙ sym (get_map (dropped m) (places_in D) i none_stays))
          ∙ with_words_more D places_at (lowered_in m D) i (omega (arith, lowered_long));
    }

    -- after the last, the places from n on are written back as they were
    pub lower_end : ((j : ℕ) → Fits w8 (get_or D j 0)) → Placeless n (places_in D) → i ≡ n
        → t ≡ with_words D 0 (desk_words (with_places (desk_in (words_of D)) (lowered_in m D)))
    lower_end y p e = places_written D t (lowered_in m D) y h lowered_long
        (l.so_far ∙ rw e (sym rest ∙ sym (with_words_append D places_at (take n vs) (drop n vs)) ∙ ap (with_words D places_at) (take-append-drop n vs)))
      where
        vs : List ℕ
        vs = lowered_in m D

        first : List ℕ
        first = with_words D places_at (take n vs)

        at_n : length (take n vs) ≡ n
        at_n = length-take-le n vs (omega (arith, lowered_long))

        ws : List ℕ
        ws = drop places_at (words_of D)

        split : take max_streams ws ≡ take n ws ++ take (max_streams - n) (drop n ws)
        split =
            let k : max_streams ≡ n + (max_streams - n) = omega arith in
            ap (λ (j : ℕ). take j ws) k ∙ take-add n (max_streams - n) ws

        same : drop n vs ≡ take (max_streams - n) (drop (places_at + n) (words_of first))
        same =
            zero_rest (dropped m) n (places_in D) none_stays p
            ∙ ap (drop n) (places_are D ∙ split)
            ∙ drop_at (take n ws) _ n (length-take-le n ws (omega (arith, length-drop places_at (words_of D), words_length D)))
            ∙ ap (take (max_streams - n)) (drop-drop n places_at (words_of D) ∙ sym (read_after D places_at (take n vs) (places_at + n) (omega (arith, at_n))))

        rest : with_words first (places_at + length (take n vs)) (drop n vs) ≡ first
        rest =
            ap₂ (λ (k : ℕ) (a : List ℕ). with_words first (places_at + k) a) at_n same
            ∙ written_read first (places_at + n) (max_streams - n) (with_words_bytes D places_at (take n vs) (bytes_fit D y))

-- ---- the places of a desk that was written before

-- numbers of 32 bits
words_small : (s : List ℕ) → Bytes s → Words (words_of s)
unfolding words_of
words_small [] y i = omega arith
words_small (a ∷ []) y i = omega arith
words_small (a ∷ (b ∷ [])) y i = omega arith
words_small (a ∷ (b ∷ (c ∷ []))) y i = omega arith
words_small (a ∷ (b ∷ (c ∷ (d ∷ s)))) y zero = let p : a < 256 = y 0 in
    let q : b < 256 = y 1 in
    let r : c < 256 = y 2 in
    let t : d < 256 = y 3 in
    omega arith
words_small (a ∷ (b ∷ (c ∷ (d ∷ s)))) y (suc i) = words_small s (λ j. y (suc (suc (suc (suc j))))) i

take_small : (n : ℕ) (vs : List ℕ) → Words vs → Words (take n vs)
take_small zero vs y i = omega arith
take_small (suc n) [] y i = omega arith
take_small (suc n) (v ∷ vs) y zero = y 0
take_small (suc n) (v ∷ vs) y (suc i) = take_small n vs (λ j. y (suc j)) i

drop_small : (n : ℕ) (vs : List ℕ) → Words vs → Words (drop n vs)
drop_small zero vs y = y
drop_small (suc n) [] y = y
drop_small (suc n) (v ∷ vs) y = drop_small n vs (λ j. y (suc j))

set_small : (vs : List ℕ) (i x : ℕ) → Words vs → x < 4294967296 → Words (set vs i x)
set_small [] i x y h j = omega arith
set_small (v ∷ vs) zero x y h zero = h
set_small (v ∷ vs) zero x y h (suc j) = y (suc j)
set_small (v ∷ vs) (suc i) x y h zero = y 0
set_small (v ∷ vs) (suc i) x y h (suc j) = set_small vs i x (λ k. y (suc k)) h j

-- one place set leaves numbers of 32 bits
pub places_small : (D : List ℕ) (i x : ℕ) → ((j : ℕ) → Fits w8 (get_or D j 0)) → x < 4294967296 → Words (set (places_in D) i x)
places_small D i x y h =
    let small = drop_small places_at (words_of D) (words_small D (bytes_fit D y)) in
    set_small (places_in D) i x (rw (places_are D) (take_small max_streams (drop places_at (words_of D)) small)) h

-- they are read back
pub places_back : (D u : List ℕ) (e : Desk) → desk_size ≤ length D → DeskSized e → Words e.places → u ≡ with_words D 0 (desk_words e)
    → places_in u ≡ e.places
unfolding desk_words
places_back D u e h z y a =
    ap places_in
    (a
    ∙ ap (with_words D 0) (packed_joined (plan_fields ++ take 4 slot_fields) (drop 4 slot_fields) front (e.places & tt))
    ∙ with_words_append D 0 before (e.places ++ [])
    ∙ ap₂ (λ (k : ℕ) (q : List ℕ). with_words (with_words D 0 before) k q) long (append-nil e.places))
    ∙ places_are (with_words (with_words D 0 before) places_at e.places)
    ∙ ap (λ (k : ℕ). take k (drop places_at (words_of (with_words (with_words D 0 before) places_at e.places)))) (sym z.places)
    ∙ read_written (with_words D 0 before) places_at e.places y (omega (arith, z.places, words_length D, with_words_entries D 0 before))
  where
    front : Values (plan_fields ++ take 4 slot_fields)
    front = joined plan_fields (take 4 slot_fields) (plan_values e.plan) (e.phase & e.kinds & e.next & e.held & tt)

    before : List ℕ
    before = packed (plan_fields ++ take 4 slot_fields) front

    long : 0 + length before ≡ places_at
    long = let none : 0 + length before ≡ length before = omega arith in
        none ∙ packed_length (plan_fields ++ take 4 slot_fields) front (omega arith)
