-- Every small card is in the list.
-- Assumes nothing.
use Rattle.std.specs.Prelude.{ℕ, zero, suc, ◌+◌, ◌-◌, ◌≤◌, ◌<◌, ◌≡◌, refl, List, [], ◌∷◌, ◌++◌, map, length, get_or, take}
use Rattle.std.proofs.Common.{sym, ap, ◌∙◌, inl, arith, length-append, ext_get_or, get_or-take, get_or-append-add, length-take-le}
use Rattle.std.proofs.Math.Logic.{by_cases}
use Rattle.std.proofs.Math.Decide.{dec_lt}
use Rattle.std.proofs.Math.ListN.{get_or-append}
use Rattle.laws.specs.Members.{In, upto, in_map, in_upto, in_each}
use Rattle.numbers.specs.Limits.{max_zones}
use Rattle.card.specs.declared.Figures.{Figures}
use Rattle.card.specs.Card.{length_in}
use Rattle.card.specs.CardLaws.{one_film_is}
use Rattle.card.specs.Read.{blank_zones}
use Rattle.round_trip.specs.RoundTrip.{blank_at, blank_long}
use Rattle.small_cards.specs.Cards.{entered, small_figures, Small, threes, falling}

-- ---- positions and times

pub in_threes : (z : ℕ) (xs : List ℕ) → length xs ≡ z → ((i : ℕ) → i < z → (1 ≤ get_or xs i 0) × (get_or xs i 0 ≤ 3)) → In xs (threes z)
unfolding threes
in_threes zero [] l h = inl refl
in_threes zero (x ∷ xs) l h = absurd (omega arith)
in_threes (suc z) [] l h = absurd (omega arith)
in_threes (suc z) (x ∷ xs) l h =
    in_each (λ y. map (λ ys. y ∷ ys) (threes z)) x (x ∷ xs) (upto 1 3) (in_upto 1 3 x (h 0 (omega arith)).0 (omega (arith, (h 0 (omega arith)).1)))
    (in_map (λ ys. x ∷ ys) xs (threes z) (in_threes z xs (omega arith) (λ i u. h (suc i) (omega arith))))

pub in_falling : (z m : ℕ) (xs : List ℕ) → length xs ≡ z → ((i : ℕ) → i < z → 1 ≤ get_or xs i 0) → (0 < z → get_or xs 0 0 ≤ m)
    → ((i : ℕ) → suc i < z → get_or xs (suc i) 0 ≤ get_or xs i 0) → In xs (falling z m)
unfolding falling
in_falling zero m [] l h top falls = inl refl
in_falling zero m (x ∷ xs) l h top falls = absurd (omega arith)
in_falling (suc z) m [] l h top falls = absurd (omega arith)
in_falling (suc z) m (x ∷ xs) l h top falls =
    in_each (λ t. map (λ ts. t ∷ ts) (falling z t)) x (x ∷ xs) (upto 1 m) (in_upto 1 m x (h 0 (omega arith)) (omega (arith, top (omega arith))))
    (in_map (λ ts. x ∷ ts) xs (falling z x)
    (in_falling z x xs (omega arith) (λ i u. h (suc i) (omega arith)) (λ u. falls 0 (omega arith)) (λ i u. falls (suc i) (omega arith))))

-- ---- the entries of a record

filled_at : (n : ℕ) (xs zs : List ℕ) (z i : ℕ) → length xs ≡ n → z ≤ n → ((j : ℕ) → get_or zs j 0 ≡ 0) → ((j : ℕ) → z ≤ j → get_or xs j 0 ≡ 0) → i < n
    → get_or (take n (take z xs ++ zs)) i 0 ≡ get_or xs i 0
filled_at n xs zs z i l u none rest h = get_or-take n (take z xs ++ zs) i 0 h ∙ by_cases (dec_lt i z) first later
  where
    long : length (take z xs) ≡ z
    long = length-take-le z xs (omega arith)

    first : i < z → get_or (take z xs ++ zs) i 0 ≡ get_or xs i 0
    first v = get_or-append (take z xs) zs 0 i (omega (arith, long)) ∙ get_or-take z xs i 0 v

    later : (i < z → ⊥) → get_or (take z xs ++ zs) i 0 ≡ get_or xs i 0
    later v =
        let e : i ≡ length (take z xs) + (i - z) = omega (arith, long) in
        ap (λ (k : ℕ). get_or (take z xs ++ zs) k 0) e ∙ get_or-append-add (take z xs) zs (i - z) 0 ∙ none (i - z) ∙ sym (rest i (omega arith))

-- those past the zones are zero, so the used ones are all
entered_back : (xs : List ℕ) (z : ℕ) → length xs ≡ max_zones → z ≤ max_zones → ((i : ℕ) → z ≤ i → get_or xs i 0 ≡ 0) → entered (take z xs) ≡ xs
unfolding entered
entered_back xs z l u rest =
    let size : length (take max_zones (take z xs ++ blank_zones)) ≡ max_zones =
    length-take-le max_zones (take z xs ++ blank_zones) (omega (arith, length-append (take z xs) blank_zones, blank_long)) in
    ext_get_or 0 (take max_zones (take z xs ++ blank_zones)) xs (size ∙ sym l) (λ i h. filled_at max_zones xs blank_zones z i l u blank_at rest (omega (arith, size)))

-- ---- the card

-- it is made of its zones and its N
pub made_of : (f : Figures) → Small f → f ≡ small_figures f.zones (take f.zones f.positions) (take f.zones f.times) (length_in f 0)
unfolding small_figures
made_of f s =
    let ok = s.legal in
    let ps = entered_back f.positions f.zones ok.wide.0 ok.zones.1 (λ i h. (ok.unused i h).0) in
    let ts = entered_back f.times f.zones ok.wide.1 ok.zones.1 (λ i h. (ok.unused i h).1) in
    let m = s.measures in
    let ns = one_film_is f.blocks ok.wide.2 (λ i h. ok.idle i (omega (arith, s.film))) in
    λ i. record {
      kind = m.0 i;
      zones = f.zones;
      positions = sym ps i;
      times = sym ts i;
      films = s.film i;
      blocks = ns i;
      bytes = m.1 i;
      rate = m.2 i;
      table = m.3 i;
    }
