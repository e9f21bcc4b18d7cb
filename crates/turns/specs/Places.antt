-- Document 02, ticket 5: the places of the requests, as facts and as the test of a record; what each call makes of them.
-- Assumes nothing.
use Prim.Native.Nat.{ℕ, zero, suc, ◌+◌, ◌-◌, ◌≤◌, ◌<◌}
use Rattle.std.specs.Prelude.{◌≡◌, ◌≢◌, ◌⊎◌, cond, ◌||◌, length, get_or, set, ltb}
use Rattle.std.proofs.Math.Path.{refl}
use Rattle.std.proofs.Common.{sym, ap, ◌∙◌, inl, inr, length-set}
use Rattle.std.proofs.Math.Logic.{by_cases}
use Rattle.std.proofs.Math.Bool.{Bool, true, false, not}
use mathlib.Core.List.{List, [], ◌∷◌, map}
use native.Mathlib.Omega.{arith}
use Rattle.std.proofs.Math.Decide.{dec_lt, ℕ_discrete}
use Rattle.std.proofs.lemmas.List.{length-map}
use Rattle.std.proofs.Math.Dec.{eqb}
use borrow.Author.Tests.{leb-true, ltb-true, eqb-true, eqb-false, ne_eqb, eq-eqb, lt-ltb, le-ltb, le-leb}
use Rattle.laws.specs.Bools.{bit, clash, and_left, and_right, and_both, or_cases}
use Rattle.laws.specs.Runs.{sum_by}
use Rattle.laws.specs.Each.{Both, both_at, both_length}
use Rattle.numbers.specs.Slots.{free, waiting}
use Rattle.rules.specs.Supply.{Supply}
use Rattle.rules.specs.Scheduler.{Slot, free_slot, waiting_slot, at}
use Rattle.rules.specs.Order.{eldest, dropped, member, waiting_count, placed_by, placed_all}
use Rattle.turns.specs.Orderly.{SameWaiting}

-- ---- lists, by index

pub get_set : {A : Type 0} (xs : List A) (i j : ℕ) (a d : A) → i < length xs → get_or (set xs i a) j d ≡ cond (eqb j i) a (get_or xs j d)
get_set [] i j a d h = absurd (omega arith)
get_set (x ∷ xs) zero zero a d h = refl
get_set (x ∷ xs) zero (suc j) a d h = rw (ne_eqb (suc j) 0 (λ e. omega arith))
get_set (x ∷ xs) (suc i) zero a d h = rw (ne_eqb 0 (suc i) (λ e. omega arith))
get_set (x ∷ xs) (suc i) (suc j) a d h = get_set xs i j a d (omega arith) ∙ ap (λ t. cond t a (get_or xs j d)) (same (eqb j i) refl)
  where
    same : (t : Bool) → eqb j i ≡ t → t ≡ eqb (suc j) (suc i)
    same true e = sym (eq-eqb (suc j) (suc i) (omega (arith, eqb-true j i e)))
    same false e = sym (ne_eqb (suc j) (suc i) (λ q. eqb-false j i e (omega arith)))

pub get_self : {A : Type 0} (xs : List A) (i : ℕ) (a d : A) → i < length xs → get_or (set xs i a) i d ≡ a
get_self xs i a d h = get_set xs i i a d h ∙ ap (λ t. cond t a (get_or xs i d)) (eq-eqb i i refl)

pub get_other : {A : Type 0} (xs : List A) (i j : ℕ) (a d : A) → i < length xs → j ≢ i → get_or (set xs i a) j d ≡ get_or xs j d
get_other xs i j a d h n = get_set xs i j a d h ∙ ap (λ t. cond t a (get_or xs j d)) (ne_eqb j i n)

pub set_past : {A : Type 0} (xs : List A) (i : ℕ) (a : A) → length xs ≤ i → set xs i a ≡ xs
set_past [] i a h = refl
set_past (x ∷ xs) zero a h = absurd (omega arith)
set_past (x ∷ xs) (suc i) a h = ap (λ r. x ∷ r) (set_past xs i a (omega arith))

pub get_map : (f : ℕ → ℕ) (xs : List ℕ) (i : ℕ) → f 0 ≡ 0 → get_or (map f xs) i 0 ≡ f (get_or xs i 0)
get_map f [] i z = sym z
get_map f (x ∷ xs) zero z = refl
get_map f (x ∷ xs) (suc i) z = get_map f xs i z

-- ---- a place after another is gone, as facts on numbers

pub drop_same : (m x : ℕ) → x ≡ m → dropped m x ≡ 0
unfolding dropped
drop_same m x e = rw (eq-eqb x m e)

pub drop_less : (m x : ℕ) → x < m → dropped m x ≡ x
unfolding dropped
drop_less m x h = rw (ne_eqb x m (λ e. omega arith), le-ltb m x (omega arith))

pub drop_more : (m x : ℕ) → m < x → dropped m x ≡ x - 1
unfolding dropped
drop_more m x h = rw (ne_eqb x m (λ e. omega arith), lt-ltb m x h)

drop_cases : (m x : ℕ) → x ≢ m → ((x < m) × (dropped m x ≡ x)) ⊎ ((m < x) × (dropped m x ≡ x - 1))
drop_cases m x n = by_cases (dec_lt x m) (λ h. inl (h, drop_less m x h)) (λ h. inr (omega arith, drop_more m x (omega arith)))

drop_pos : (m x : ℕ) → 0 < m → 0 < x → x ≢ m → 0 < dropped m x
drop_pos m x h k n = go (drop_cases m x n)
  where
    go : ((x < m) × (dropped m x ≡ x)) ⊎ ((m < x) × (dropped m x ≡ x - 1)) → 0 < dropped m x
    go (inl u) = omega arith
    go (inr u) = omega arith

drop_low : (m x t : ℕ) → m ≤ t → x ≤ t → 0 < t → dropped m x ≤ t - 1
drop_low m x t a b c = by_cases (ℕ_discrete x m) (λ e. omega (arith, drop_same m x e)) (λ n. go (drop_cases m x n))
  where
    go : ((x < m) × (dropped m x ≡ x)) ⊎ ((m < x) × (dropped m x ≡ x - 1)) → dropped m x ≤ t - 1
    go (inl u) = omega arith
    go (inr u) = omega arith

drop_apart : (m x y : ℕ) → 0 < m → 0 < dropped m x → dropped m x ≡ dropped m y → x ≡ y
drop_apart m x y h u e = by_cases (ℕ_discrete x m) (λ q. absurd (omega (arith, drop_same m x q)))
    (λ q. by_cases (ℕ_discrete y m) (λ s. absurd (omega (arith, drop_same m y s))) (λ s. go (drop_cases m x q) (drop_cases m y s)))
  where
    go : ((x < m) × (dropped m x ≡ x)) ⊎ ((m < x) × (dropped m x ≡ x - 1)) → ((y < m) × (dropped m y ≡ y)) ⊎ ((m < y) × (dropped m y ≡ y - 1)) → x ≡ y
    go (inl a) (inl b) = omega arith
    go (inl a) (inr b) = omega arith
    go (inr a) (inl b) = omega arith
    go (inr a) (inr b) = omega arith

-- ---- the eldest is the one at place 1

pub eldest_le : (q : List ℕ) (i : ℕ) → get_or q i 0 ≡ 1 → (eldest q ≤ i) × (get_or q (eldest q) 0 ≡ 1)
unfolding eldest
eldest_le [] i e = absurd (omega arith)
eldest_le (x ∷ q) zero e = rw (eq-eqb x 1 e) (omega arith)
eldest_le (x ∷ q) (suc i) e = go (eqb x 1) refl (eldest_le q i e)
  where
    go : (t : Bool) → eqb x 1 ≡ t → (eldest q ≤ i) × (get_or q (eldest q) 0 ≡ 1)
        → (cond t 0 (suc (eldest q)) ≤ suc i) × (get_or (x ∷ q) (cond t 0 (suc (eldest q))) 0 ≡ 1)
    go true u ih = (omega arith, eqb-true x 1 u)
    go false u ih = (omega (arith, ih.0), ih.1)

pub eldest_is : (q : List ℕ) → eldest q < length q → get_or q (eldest q) 0 ≡ 1
unfolding eldest
eldest_is [] h = absurd (omega arith)
eldest_is (x ∷ q) h = go (eqb x 1) refl h (λ u. eldest_is q u)
  where
    go : (t : Bool) → eqb x 1 ≡ t → cond t 0 (suc (eldest q)) < suc (length q) → (eldest q < length q → get_or q (eldest q) 0 ≡ 1)
        → get_or (x ∷ q) (cond t 0 (suc (eldest q))) 0 ≡ 1
    go true u v ih = eqb-true x 1 u
    go false u v ih = ih (omega arith)

member_at : (x : ℕ) (q : List ℕ) → member x q ≡ true → (j : ℕ) × (get_or q j 0 ≡ x)
unfolding member
member_at x [] e = clash e refl
member_at x (y ∷ q) e = go (or_cases (eqb x y) (member x q) e) (λ u. member_at x q u)
  where
    later : (j : ℕ) × (get_or q j 0 ≡ x) → (j : ℕ) × (get_or (y ∷ q) j 0 ≡ x)
    later (j, e) = (suc j, e)

    go : (eqb x y ≡ true) ⊎ (member x q ≡ true) → (member x q ≡ true → (j : ℕ) × (get_or q j 0 ≡ x)) → (j : ℕ) × (get_or (y ∷ q) j 0 ≡ x)
    go (inl u) ih = (0, sym (eqb-true x y u))
    go (inr u) ih = later (ih u)

member_of : (x j : ℕ) (q : List ℕ) → 0 < x → get_or q j 0 ≡ x → member x q ≡ true
unfolding member
member_of x j [] h e = absurd (omega arith)
member_of x zero (y ∷ q) h e = rw (eq-eqb x y (sym e))
member_of x (suc j) (y ∷ q) h e = go (eqb x y) (member_of x j q h e)
  where
    go : (t : Bool) → member x q ≡ true → (t || member x q) ≡ true
    go true u = refl
    go false u = u

module _ {A : Type 0} (p : Supply A) where
  pub in_range : (ss : List (Slot A)) (i : ℕ) → 0 < (at p ss i).kind → i < length ss
  in_range [] i h = absurd (omega arith)
  in_range (s ∷ ss) zero h = omega arith
  in_range (s ∷ ss) (suc i) h = omega (arith, in_range ss i h)

  -- for c requests: places 1 to c, each once, and 0 where nobody asks
  pub record PlacesTo (c : ℕ) (ss : List (Slot A)) (q : List ℕ) : Type 0 where
    pub long : length q ≡ length ss
    pub idle : (j : ℕ) → (at p ss j).kind ≢ waiting → get_or q j 0 ≡ 0
    pub named : (j : ℕ) → (at p ss j).kind ≡ waiting → 0 < get_or q j 0
    pub low : (j : ℕ) → get_or q j 0 ≤ c
    pub apart : (j k : ℕ) → 0 < get_or q j 0 → get_or q j 0 ≡ get_or q k 0 → j ≡ k

  abbrev pub Places : List (Slot A) → List ℕ → Type 0
  Places ss q = PlacesTo (waiting_count p ss) ss q

  -- ---- the test is the fact

  placed_of : (c : ℕ) (ss : List (Slot A)) (q : List ℕ) → PlacesTo c ss q → placed_all p c ss q ≡ true
  unfolding placed_all
  placed_of c [] [] h = refl
  placed_of c [] (x ∷ q) h = absurd (omega (arith, h.long))
  placed_of c (s ∷ ss) [] h = absurd (omega (arith, h.long))
  placed_of c (s ∷ ss) (x ∷ q) h = and_both (go (eqb s.kind waiting) refl) (and_both (fresh (eqb x 0) refl) (placed_of c ss q rest))
    where
      go : (t : Bool) → eqb s.kind waiting ≡ t → placed_by p t c x ≡ true
      go true e = and_both (lt-ltb 0 x (h.named 0 (eqb-true s.kind waiting e))) (le-leb x c (h.low 0))
      go false e = eq-eqb x 0 (h.idle 0 (eqb-false s.kind waiting e))

      fresh : (t : Bool) → eqb x 0 ≡ t → (t || not (member x q)) ≡ true
      fresh true e = refl
      fresh false e = none (member x q) refl
        where
          none : (u : Bool) → member x q ≡ u → not u ≡ true
          none true m = absurd (twice (member_at x q m))
            where
              twice : (j : ℕ) × (get_or q j 0 ≡ x) → ⊥
              twice (j, d) = omega (arith, h.apart 0 (suc j) (omega (arith, eqb-false x 0 e)) (sym d))
          none false m = refl

      rest : PlacesTo c ss q
      rest = record {
        long = omega (arith, h.long);
        idle = λ j. h.idle (suc j);
        named = λ j. h.named (suc j);
        low = λ j. h.low (suc j);
        apart = λ j k u e. omega (arith, h.apart (suc j) (suc k) u e);
      }

  of_placed : (c : ℕ) (ss : List (Slot A)) (q : List ℕ) → placed_all p c ss q ≡ true → PlacesTo c ss q
  unfolding placed_all
  of_placed c [] [] e = record {
    long = refl;
    idle = λ j u. refl;
    named = λ j u. absurd (omega arith);
    low = λ j. omega arith;
    apart = λ j k u d. absurd (omega arith);
  }
  of_placed c [] (x ∷ q) e = clash e refl
  of_placed c (s ∷ ss) [] e = clash e refl
  of_placed c (s ∷ ss) (x ∷ q) e =
      let own : Bool = placed_by p (eqb s.kind waiting) c x in
      let rest = and_right own _ e in
      cons (and_left own _ e) (and_left (eqb x 0 || not (member x q)) _ rest) (of_placed c ss q (and_right (eqb x 0 || not (member x q)) _ rest))
    where
      cons : placed_by p (eqb s.kind waiting) c x ≡ true → (eqb x 0 || not (member x q)) ≡ true → PlacesTo c ss q → PlacesTo c (s ∷ ss) (x ∷ q)
      cons f g h = record { long = omega (arith, h.long); idle = idle; named = named; low = low; apart = apart }
        where
          by : (t : Bool) → eqb s.kind waiting ≡ t → placed_by p t c x ≡ true → (x ≤ c) × (s.kind ≢ waiting → x ≡ 0) × (s.kind ≡ waiting → 0 < x)
          by true d u =
              let a = ltb-true 0 x (and_left (ltb 0 x) _ u) in
              let b = leb-true x c (and_right (ltb 0 x) _ u) in
              (b, λ n. absurd (n (eqb-true s.kind waiting d)), λ _. a)
          by false d u = let a = eqb-true x 0 u in (omega arith, λ _. a, λ k. absurd (eqb-false s.kind waiting d k))

          three : (x ≤ c) × (s.kind ≢ waiting → x ≡ 0) × (s.kind ≡ waiting → 0 < x)
          three = by (eqb s.kind waiting) refl f

          idle : (j : ℕ) → (at p (s ∷ ss) j).kind ≢ waiting → get_or (x ∷ q) j 0 ≡ 0
          idle zero u = three.1 u
          idle (suc j) u = h.idle j u

          named : (j : ℕ) → (at p (s ∷ ss) j).kind ≡ waiting → 0 < get_or (x ∷ q) j 0
          named zero u = three.2 u
          named (suc j) u = h.named j u

          low : (j : ℕ) → get_or (x ∷ q) j 0 ≤ c
          low zero = three.0
          low (suc j) = h.low j

          once : (j : ℕ) → 0 < x → get_or q j 0 ≡ x → ⊥
          once j u d = no (eqb x 0) refl (member x q) refl g
            where
              no : (a : Bool) → eqb x 0 ≡ a → (b : Bool) → member x q ≡ b → (a || not b) ≡ true → ⊥
              no true m b n y = omega (arith, eqb-true x 0 m)
              no false m true n y = clash y refl
              no false m false n y = clash (member_of x j q u d) n

          apart : (j k : ℕ) → 0 < get_or (x ∷ q) j 0 → get_or (x ∷ q) j 0 ≡ get_or (x ∷ q) k 0 → j ≡ k
          apart zero zero u d = refl
          apart zero (suc k) u d = absurd (once k u (sym d))
          apart (suc j) zero u d = absurd (once j (omega arith) d)
          apart (suc j) (suc k) u d = ap suc (h.apart j k u d)

  pub places_pass : (ss : List (Slot A)) (q : List ℕ) → Places ss q → placed_all p (waiting_count p ss) ss q ≡ true
  places_pass ss q h = placed_of (waiting_count p ss) ss q h

  pub places_say : (ss : List (Slot A)) (q : List ℕ) → placed_all p (waiting_count p ss) ss q ≡ true → Places ss q
  places_say ss q e = of_placed (waiting_count p ss) ss q e

  -- ---- how many ask

  count_set : (ss : List (Slot A)) (i : ℕ) (a : Slot A) → i < length ss
      → waiting_count p (set ss i a) + bit (eqb (at p ss i).kind waiting) ≡ waiting_count p ss + bit (eqb a.kind waiting)
  unfolding waiting_count sum_by
  count_set [] i a h = absurd (omega arith)
  count_set (s ∷ ss) zero a h = omega arith
  count_set (s ∷ ss) (suc i) a h = omega (arith, count_set ss i a (omega arith))

  count_same : (ss ts : List (Slot A)) → Both SameWaiting ss ts → waiting_count p ts ≡ waiting_count p ss
  unfolding waiting_count sum_by
  count_same [] [] b = refl
  count_same [] (t ∷ ts) b = absurd b
  count_same (s ∷ ss) [] b = absurd b
  count_same (s ∷ ss) (t ∷ ts) b = rw b.0 (omega (arith, count_same ss ts b.1))

  -- ---- what each call makes of them

  -- the same slots ask
  pub places_same : (ss ts : List (Slot A)) (q : List ℕ) → Both SameWaiting ss ts → Places ss q → Places ts q
  places_same ss ts q b h =
      let e : (j : ℕ) → eqb (at p ts j).kind waiting ≡ eqb (at p ss j).kind waiting = λ j. both_at SameWaiting ss ts j (free_slot p) (free_slot p) b refl in
      record {
        long = h.long ∙ sym (both_length SameWaiting ss ts b);
        idle = λ j n. h.idle j (λ k. n (eqb-true (at p ts j).kind waiting (e j ∙ eq-eqb (at p ss j).kind waiting k)));
        named = λ j k. h.named j (eqb-true (at p ss j).kind waiting (sym (e j) ∙ eq-eqb (at p ts j).kind waiting k));
        low = λ j. omega (arith, h.low j, count_same ss ts b);
        apart = h.apart;
      }

  kind_self : (ss : List (Slot A)) (i j : ℕ) (a : Slot A) → i < length ss → j ≡ i → (at p (set ss i a) j).kind ≡ a.kind
  kind_self ss i j a r e = ap (λ (x : ℕ). (at p (set ss i a) x).kind) e ∙ ap (λ (s : Slot A). s.kind) (get_self ss i a (free_slot p) r)

  kind_other : (ss : List (Slot A)) (i j : ℕ) (a : Slot A) → i < length ss → j ≢ i → (at p (set ss i a) j).kind ≡ (at p ss j).kind
  kind_other ss i j a r n = ap (λ (s : Slot A). s.kind) (get_other ss i j a (free_slot p) r n)

  -- a join: it is the last
  pub places_joined : (ss : List (Slot A)) (q : List ℕ) (i : ℕ) (b : A) → Places ss q → i < length ss → (at p ss i).kind ≡ free
      → Places (set ss i (waiting_slot p b)) (set q i (waiting_count p ss + 1))
  places_joined ss q i b h r k = record {
    long = length-set q i (waiting_count p ss + 1) ∙ h.long ∙ sym (length-set ss i a);
    idle = λ j u. by_cases (ℕ_discrete j i) (λ e. absurd (u (kind_self ss i j a r e))) (λ e. old j e ∙ h.idle j (λ x. u (kind_other ss i j a r e ∙ x)));
    named = λ j u. by_cases (ℕ_discrete j i) (λ e. omega (arith, own j e)) (λ e. omega (arith, old j e, h.named j (sym (kind_other ss i j a r e) ∙ u)));
    low = λ j. by_cases (ℕ_discrete j i) (λ e. omega (arith, own j e, one_more)) (λ e. omega (arith, old j e, h.low j, one_more));
    apart = λ j l u e. by_cases (ℕ_discrete j i)
        (λ x. by_cases (ℕ_discrete l i) (λ y. omega arith) (λ y. absurd (omega (arith, own j x, old l y, h.low l, e))))
        (λ x. by_cases (ℕ_discrete l i) (λ y. absurd (omega (arith, own l y, old j x, h.low j, e)))
        (λ y. h.apart j l (omega (arith, old j x)) (sym (old j x) ∙ e ∙ old l y)));
  }
    where
      a : Slot A
      a = waiting_slot p b

      one_more : waiting_count p (set ss i a) ≡ waiting_count p ss + 1
      one_more =
          let n : waiting_count p (set ss i a) + bit (eqb (at p ss i).kind waiting) ≡ waiting_count p ss + 1 = count_set ss i a r in
          let z : eqb (at p ss i).kind waiting ≡ false = ne_eqb (at p ss i).kind waiting (λ e. omega arith) in
          omega (arith, rw z at n)

      own : (j : ℕ) → j ≡ i → get_or (set q i (waiting_count p ss + 1)) j 0 ≡ waiting_count p ss + 1
      own j e = ap (λ (x : ℕ). get_or (set q i (waiting_count p ss + 1)) x 0) e ∙ get_self q i (waiting_count p ss + 1) 0 (omega (arith, h.long))

      old : (j : ℕ) → j ≢ i → get_or (set q i (waiting_count p ss + 1)) j 0 ≡ get_or q j 0
      old j n = get_other q i j (waiting_count p ss + 1) 0 (omega (arith, h.long)) n

  -- a request goes, it leaves or is granted: later ones drop by one
  pub places_gone : (ss : List (Slot A)) (q : List ℕ) (i : ℕ) (a : Slot A) (m : ℕ) → Places ss q → (at p ss i).kind ≡ waiting → a.kind ≢ waiting
      → get_or q i 0 ≡ m → Places (set ss i a) (map (dropped m) q)
  places_gone ss q i a m h k na em = record {
    long = length-map q (dropped m) ∙ h.long ∙ sym (length-set ss i a);
    idle = λ j u. by_cases (ℕ_discrete j i)
        (λ e. new j ∙ drop_same m (get_or q j 0) (ap (λ (x : ℕ). get_or q x 0) e ∙ em))
        (λ e. new j ∙ ap (dropped m) (h.idle j (λ x. u (kind_other ss i j a r e ∙ x))) ∙ zero_stays);
    named = λ j u. by_cases (ℕ_discrete j i)
        (λ e. absurd (na (sym (kind_self ss i j a r e) ∙ u)))
        (λ e. let w = h.named j (sym (kind_other ss i j a r e) ∙ u) in
        omega (arith, new j, drop_pos m (get_or q j 0) some w (λ x. e (h.apart j i w (x ∙ sym em)))));
    low = λ j. omega (arith, new j, one_less, drop_low m (get_or q j 0) (waiting_count p ss) most (h.low j) (omega (arith, one_less)));
    apart = λ j l u e.
        let y = drop_apart m (get_or q j 0) (get_or q l 0) some (omega (arith, new j)) (sym (new j) ∙ e ∙ new l) in
        h.apart j l (by_cases (ℕ_discrete (get_or q j 0) 0) (λ x. absurd (omega (arith, new j, ap (dropped m) x ∙ zero_stays))) (λ x. omega arith)) y;
  }
    where
      r : i < length ss
      r = in_range ss i (omega arith)

      some : 0 < m
      some = omega (arith, h.named i k)

      most : m ≤ waiting_count p ss
      most = omega (arith, h.low i)

      zero_stays : dropped m 0 ≡ 0
      zero_stays = drop_less m 0 some

      one_less : waiting_count p (set ss i a) + 1 ≡ waiting_count p ss
      one_less =
          let n : waiting_count p (set ss i a) + bit (eqb (at p ss i).kind waiting) ≡ waiting_count p ss + bit (eqb a.kind waiting) = count_set ss i a r in
          omega (arith, rw (eq-eqb (at p ss i).kind waiting k, ne_eqb a.kind waiting na) at n)

      new : (j : ℕ) → get_or (map (dropped m) q) j 0 ≡ dropped m (get_or q j 0)
      new j = get_map (dropped m) q j zero_stays
