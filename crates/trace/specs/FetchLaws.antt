-- An accepted begin fetches for each slot that needs a block and for no other, in order.
-- Assumes nothing.
use Prim.Native.Nat.{ℕ, zero, suc, ◌+◌, ◌*◌, ◌-◌, ◌≤◌, ◌<◌}
use Rattle.std.specs.Prelude.{◌≡◌, ◌≢◌, ◌⊎◌, length, get_or}
use Rattle.std.proofs.Math.Path.{refl, sym, ap, subst}
use Rattle.std.proofs.Common.{◌∙◌}
use Rattle.std.proofs.Math.Logic.{inl, inr, by_cases}
use Rattle.std.proofs.Math.Bool.{Bool, true, false, cond}
use mathlib.Core.List.{List, [], ◌∷◌, ◌++◌}
use native.Mathlib.Omega.{arith}
use Rattle.std.proofs.Math.Decide.{dec_le, ℕ_discrete}
use Rattle.std.proofs.Math.Dec.{eqb}
use borrow.Author.Tests.{eqb-true, eq-eqb}
use Rattle.laws.specs.Bools.{bit, and_left, and_right, and_both, clash}
use Rattle.laws.specs.Runs.{sum_by}
use Rattle.placement.specs.Best.{zigzag_laying}
use Rattle.placement.specs.Showing.{Showing, one, loop, pairs, visits_of, laying, first_place, other_places}
use Rattle.plan.specs.declared.Plan.{Plan}
use Rattle.plan.specs.Plan.{showing_in}
use Rattle.plan.specs.Answer.{is_plan}
use Rattle.plan.specs.Names.{Named, block_names}
use Rattle.rules.specs.Supply.{Supply}
use Rattle.rules.specs.Scheduler.{Slot, Entry, begin, at, entries_at, reads, is_fetched, entries_from, entries}
use Rattle.turns.specs.Sorting.{before_says, rising_at, sorted_keeps, entries_rise, entries_of}
use Rattle.rules.specs.InOrder.{same_entry, occurrences}
use Rattle.rules.specs.Calls.{Given}
use Rattle.desk.specs.declared.Desk.{Desk}
use Rattle.desk.specs.Desk.{supply_of, begin_desk}
use Rattle.trace.specs.Answers.{blank_entry, entry_at}
use Rattle.rules.specs.Calls as C

-- ---- entries by how often they occur

same_true : (e f : Entry) → same_entry e f ≡ true → e ≡ f
unfolding same_entry
same_true e f t =
    let r = and_right (eqb e.position f.position) _ t in
    let p = eqb-true e.position f.position (and_left (eqb e.position f.position) _ t) in
    let s = eqb-true e.slot f.slot (and_left (eqb e.slot f.slot) _ r) in
    let b = eqb-true e.block f.block (and_right (eqb e.slot f.slot) _ r) in
    λ i. record { position = p i; slot = s i; block = b i }

same_self : (e : Entry) → same_entry e e ≡ true
unfolding same_entry
same_self e = and_both (eq-eqb e.position e.position refl) (and_both (eq-eqb e.slot e.slot refl) (eq-eqb e.block e.block refl))

-- an entry of a list occurs in it
occurs : (es : List Entry) (k : ℕ) → k < length es → 1 ≤ occurrences (entry_at es k) es
unfolding occurrences sum_by
occurs [] k h = absurd (omega arith)
occurs (f ∷ es) zero h = rw (same_self f) (omega arith)
occurs (f ∷ es) (suc k) h = omega (arith, occurs es k (omega arith))

-- and twice where it stands twice
occurs_twice : (es : List Entry) (j k : ℕ) → j < k → k < length es → entry_at es j ≡ entry_at es k → 2 ≤ occurrences (entry_at es k) es
unfolding occurrences sum_by
occurs_twice [] j k l h e = absurd (omega arith)
occurs_twice (f ∷ es) j zero l h e = absurd (omega arith)
occurs_twice (f ∷ es) zero (suc k) l h e =
    let t : same_entry (entry_at es k) f ≡ true = rw e (same_self (entry_at es k)) in
    rw t (omega (arith, occurs es k (omega arith)))
occurs_twice (f ∷ es) (suc j) (suc k) l h e = omega (arith, occurs_twice es j k (omega arith) (omega arith) e)

-- what occurs in a list stands somewhere in it
stands : (e : Entry) (es : List Entry) → 1 ≤ occurrences e es → (k : ℕ) × (k < length es) × (entry_at es k ≡ e)
unfolding occurrences sum_by
stands e [] h = absurd (omega arith)
stands e (f ∷ es) h = go (same_entry e f) refl h (stands e es)
  where
    go : (t : Bool) → same_entry e f ≡ t → 1 ≤ bit t + occurrences e es → (1 ≤ occurrences e es → (k : ℕ) × (k < length es) × (entry_at es k ≡ e))
        → (k : ℕ) × (k < suc (length es)) × (entry_at (f ∷ es) k ≡ e)
    go true q l ih = (0, omega arith, sym (same_true e f q))
    go false q l ih = let (k, u, r) = ih (omega arith) in (suc k, omega arith, r)

-- those of two lists
occurs_append : (e : Entry) (es fs : List Entry) → occurrences e (es ++ fs) ≡ occurrences e es + occurrences e fs
unfolding occurrences sum_by
occurs_append e [] fs = omega arith
occurs_append e (f ∷ es) fs = omega (arith, occurs_append e es fs)

-- ---- the entries of one block, at the positions qs

-- no position is there twice
abbrev pub Apart : List ℕ → Type 0
Apart qs = (u v : ℕ) → u < v → v < length qs → get_or qs u 0 ≢ get_or qs v 0

module _ (i b : ℕ) where
  abbrev visit : ℕ → Entry
  visit q = record { position = q; slot = i; block = b }

  at_own : (qs : List ℕ) (v : ℕ) → v < length qs → 1 ≤ occurrences (visit (get_or qs v 0)) (entries_at i b qs)
  unfolding entries_at occurrences sum_by
  at_own [] v l = absurd (omega arith)
  at_own (q ∷ qs) zero l = rw (same_self (visit q)) (omega arith)
  at_own (q ∷ qs) (suc v) l = omega (arith, at_own qs v (omega arith))

  -- an entry of theirs
  abbrev Visit : List ℕ → Entry → Type 0
  Visit qs e = (v : ℕ) × (v < length qs) × (e ≡ visit (get_or qs v 0))

  own_at : (qs : List ℕ) (e : Entry) → 1 ≤ occurrences e (entries_at i b qs) → Visit qs e
  unfolding entries_at occurrences sum_by
  own_at [] e h = absurd (omega arith)
  own_at (q ∷ qs) e h = go (same_entry e (visit q)) refl h (own_at qs e)
    where
      go : (t : Bool) → same_entry e (visit q) ≡ t → 1 ≤ bit t + occurrences e (entries_at i b qs)
          → (1 ≤ occurrences e (entries_at i b qs) → Visit qs e) → Visit (q ∷ qs) e
      go true a l ih = (0, omega arith, same_true e (visit q) a)
      go false a l ih = let (v, u, r) = ih (omega arith) in (suc v, omega arith, r)

  own_once : (qs : List ℕ) (e : Entry) → Apart qs → occurrences e (entries_at i b qs) ≤ 1
  unfolding entries_at occurrences sum_by
  own_once [] e a = omega arith
  own_once (q ∷ qs) e a = go (same_entry e (visit q)) refl (own_once qs e (λ u v l h. a (suc u) (suc v) (omega arith) (omega arith)))
    where
      again : same_entry e (visit q) ≡ true → 1 ≤ occurrences e (entries_at i b qs) → ⊥
      again s h =
          let (v, l, r) = own_at qs e h in
          a 0 (suc v) (omega arith) (omega arith) (ap (λ (x : Entry). x.position) (sym (same_true e (visit q) s) ∙ r))

      go : (t : Bool) → same_entry e (visit q) ≡ t → occurrences e (entries_at i b qs) ≤ 1 → bit t + occurrences e (entries_at i b qs) ≤ 1
      go true s h = by_cases (dec_le 1 (occurrences e (entries_at i b qs))) (λ l. absurd (again s l)) (λ l. omega arith)
      go false s h = omega arith

-- ---- the entries of slots

module _ {A : Type 0} (p : Supply A) where
  -- the positions of a slot's next block
  abbrev places : Slot A → List ℕ
  places s = p.position s.next ∷ p.others s.next

  abbrev visit_of : ℕ → Slot A → ℕ → Entry
  visit_of i s v = visit i (p.number s.next) (get_or (places s) v 0)

  -- slot i's own entries, if it is fetched for, and then those of the slots after it
  occurs_from : (i : ℕ) (s : Slot A) (ss : List (Slot A)) (e : Entry)
      → occurrences e (entries_from p i (s ∷ ss)) ≡ cond (is_fetched p s) (occurrences e (entries_of p i s)) 0 + occurrences e (entries_from p (suc i) ss)
  unfolding entries_from
  occurs_from i s ss e = occurs_append e (cond (is_fetched p s) (entries_of p i s) []) (entries_from p (suc i) ss) ∙ go (is_fetched p s)
    where
      go : (t : Bool) → occurrences e (cond t (entries_of p i s) []) + occurrences e (entries_from p (suc i) ss)
          ≡ cond t (occurrences e (entries_of p i s)) 0 + occurrences e (entries_from p (suc i) ss)
      go true = refl
      go false = unfold occurrences sum_by in refl

  -- e is an entry of slot i + j, which is fetched for
  abbrev Own : ℕ → List (Slot A) → Entry → Type 0
  Own i ss e =
      (j : ℕ) × (is_fetched p (at p ss j) ≡ true) × ((v : ℕ) × (v < length (places (at p ss j))) × (e ≡ visit_of (i + j) (at p ss j) v))

  from_own : (i : ℕ) (ss : List (Slot A)) (e : Entry) → 1 ≤ occurrences e (entries_from p i ss) → Own i ss e
  unfolding entries_from occurrences sum_by
  from_own i [] e h = absurd (omega arith)
  from_own i (s ∷ ss) e h = go (is_fetched p s) refl (rw (occurs_from i s ss e) at h) (from_own (suc i) ss e)
    where
      later : Own (suc i) ss e → Own i (s ∷ ss) e
      later (j, f, (v, l, q)) = (suc j, f, (v, l, q ∙ ap (λ (k : ℕ). visit_of k (at p ss j) v) (omega arith)))

      here : is_fetched p s ≡ true → 1 ≤ occurrences e (entries_of p i s) → Own i (s ∷ ss) e
      here f h =
          let (v, l, q) = own_at i (p.number s.next) (places s) e h in
          (0, f, (v, l, q ∙ ap (λ (k : ℕ). visit_of k s v) (omega arith)))

      go : (t : Bool) → is_fetched p s ≡ t → 1 ≤ cond t (occurrences e (entries_of p i s)) 0 + occurrences e (entries_from p (suc i) ss)
          → (1 ≤ occurrences e (entries_from p (suc i) ss) → Own (suc i) ss e) → Own i (s ∷ ss) e
      go true f l ih = by_cases (dec_le 1 (occurrences e (entries_of p i s))) (here f) (λ n. later (ih (omega arith)))
      go false f l ih = later (ih (omega arith))

  -- and each that is fetched for has its own
  own_from : (i : ℕ) (ss : List (Slot A)) (j v : ℕ) → is_fetched p (at p ss j) ≡ true → v < length (places (at p ss j))
      → 1 ≤ occurrences (visit_of (i + j) (at p ss j) v) (entries_from p i ss)
  unfolding is_fetched reads
  own_from i [] j v h l = clash h refl
  own_from i (s ∷ ss) zero v h l =
      let e : i + 0 ≡ i = omega arith in
      rw (e, occurs_from i s ss (visit_of i s v), h) (omega (arith, at_own i (p.number s.next) (places s) v l))
  own_from i (s ∷ ss) (suc j) v h l =
      let e : i + suc j ≡ suc i + j = omega arith in
      rw (e, occurs_from i s ss (visit_of (suc i + j) (at p ss j) v)) (omega (arith, own_from (suc i) ss j v h l))

  -- none is there twice, where the positions of a block are different
  from_once : (i : ℕ) (ss : List (Slot A)) (e : Entry) → ((j : ℕ) → is_fetched p (at p ss j) ≡ true → Apart (places (at p ss j)))
      → occurrences e (entries_from p i ss) ≤ 1
  unfolding entries_from occurrences sum_by
  from_once i [] e a = omega arith
  from_once i (s ∷ ss) e a = rw (occurs_from i s ss e) (go (is_fetched p s) refl (from_once (suc i) ss e (λ j f. a (suc j) f)))
    where
      -- an entry of slot i is not among the later ones
      apart : 1 ≤ occurrences e (entries_of p i s) → 1 ≤ occurrences e (entries_from p (suc i) ss) → ⊥
      apart h g =
          let (v, l, q) = own_at i (p.number s.next) (places s) e h in
          let (j, f, (w, m, r)) = from_own (suc i) ss e g in
          omega (arith, ap (λ (x : Entry). x.slot) (sym q ∙ r))

      go : (t : Bool) → is_fetched p s ≡ t → occurrences e (entries_from p (suc i) ss) ≤ 1
          → cond t (occurrences e (entries_of p i s)) 0 + occurrences e (entries_from p (suc i) ss) ≤ 1
      go true f h = let once = own_once i (p.number s.next) (places s) e (a 0 f) in
          by_cases (dec_le 1 (occurrences e (entries_of p i s)))
          (λ l. by_cases (dec_le 1 (occurrences e (entries_from p (suc i) ss))) (λ m. absurd (apart l m)) (λ m. omega arith))
          (λ l. omega arith)
      go false f h = omega arith

  -- ---- in order

  module _ (ss : List (Slot A)) where
    -- as often in order as they were listed
    as_listed : (e : Entry) → occurrences e (entries p ss) ≡ occurrences e (entries_from p 0 ss)
    unfolding entries
    as_listed e = sorted_keeps e (entries_from p 0 ss)

    pub each_entry : (i v : ℕ) → is_fetched p (at p ss i) ≡ true → v < length (places (at p ss i))
        → (k : ℕ) × (k < length (entries p ss)) × (entry_at (entries p ss) k ≡ visit_of i (at p ss i) v)
    each_entry i v h l =
        let e : 0 + i ≡ i = omega arith in
        stands (visit_of i (at p ss i) v) (entries p ss) (omega (arith, as_listed (visit_of i (at p ss i) v), rw e at (own_from 0 ss i v h l)))

    pub only_entry : (k : ℕ) → k < length (entries p ss)
        → (i : ℕ) × (is_fetched p (at p ss i) ≡ true) × ((v : ℕ) × (v < length (places (at p ss i)))
        × (entry_at (entries p ss) k ≡ visit_of i (at p ss i) v))
    only_entry k l =
        let e = entry_at (entries p ss) k in
        let (i, f, (v, m, q)) = from_own 0 ss e (omega (arith, as_listed e, occurs (entries p ss) k l)) in
        (i, f, (v, m, q ∙ ap (λ (j : ℕ). visit_of j (at p ss i) v) (omega arith)))

    pub entry_order : ((j : ℕ) → is_fetched p (at p ss j) ≡ true → Apart (places (at p ss j))) → (j k : ℕ) → j < k → k < length (entries p ss)
        → (let a = entry_at (entries p ss) j in let b = entry_at (entries p ss) k in
        (a.position < b.position) ⊎ ((a.position ≡ b.position) × (a.slot < b.slot)))
    entry_order apart j k u l =
        go (before_says (entry_at (entries p ss) j) (entry_at (entries p ss) k) (rising_at (entries p ss) j k blank_entry (entries_rise p ss) u l))
      where
        a : Entry
        a = entry_at (entries p ss) j

        b : Entry
        b = entry_at (entries p ss) k

        -- of one slot there is one entry at a position
        other : a.position ≡ b.position → a.slot ≡ b.slot → ⊥
        other h e =
            let (i, f, (v, x, q)) = only_entry j (omega arith) in
            let (m, g, (w, y, r)) = only_entry k l in
            let s : i ≡ m = sym (ap (λ (x : Entry). x.slot) q) ∙ e ∙ ap (λ (x : Entry). x.slot) r in
            let block : a.block ≡ b.block =
            ap (λ (x : Entry). x.block) q ∙ ap (λ (n : ℕ). p.number (at p ss n).next) s ∙ sym (ap (λ (x : Entry). x.block) r) in
            let same : a ≡ b = λ t. record { position = h t; slot = e t; block = block t } in
            omega (arith, occurs_twice (entries p ss) j k u l same, as_listed b, from_once 0 ss b apart)

        go : (a.position < b.position) ⊎ ((a.position ≡ b.position) × (a.slot ≤ b.slot))
            → (a.position < b.position) ⊎ ((a.position ≡ b.position) × (a.slot < b.slot))
        go (inl h) = inl h
        go (inr h) = by_cases (ℕ_discrete a.slot b.slot) (λ e. absurd (other h.0 e)) (λ n. inr (h.0, omega (arith, h.1)))

-- ---- the positions of a block

-- of a laying l in a showing
module _ (l : ℕ → ℕ) (b : ℕ) where
  pub places_count : (x : Showing) → length (first_place x l b ∷ other_places x l b) ≡ visits_of x
  places_count one = refl
  places_count loop = refl
  places_count pairs = refl

  pub places_at_law : (x : Showing) (v : ℕ) → v < visits_of x → get_or (first_place x l b ∷ other_places x l b) v 0 ≡ l (visits_of x * b + v)
  places_at_law one zero h = ap l (omega arith)
  places_at_law one (suc v) h = absurd (omega arith)
  places_at_law loop zero h = ap l (omega arith)
  places_at_law loop (suc v) h = absurd (omega arith)
  places_at_law pairs zero h = ap l (omega arith)
  places_at_law pairs (suc zero) h = ap l (omega arith)
  places_at_law pairs (suc (suc v)) h = absurd (omega arith)

-- they are different, where there is room for the film
pub places_apart : (x : Showing) (P N b : ℕ) → visits_of x * N ≤ P → b < N
    → Apart (first_place x (laying x P N) b ∷ other_places x (laying x P N) b)
places_apart one P N b r h u v l m e = omega arith
places_apart loop P N b r h u v l m e = omega arith
places_apart pairs P N b r h zero zero l m e = omega arith
places_apart pairs P N b r h zero (suc zero) l m e = omega (arith, (zigzag_laying P (2 * N) r).apart (2 * b) (suc (2 * b)) (omega arith) (omega arith) e)
places_apart pairs P N b r h zero (suc (suc v)) l m e = omega arith
places_apart pairs P N b r h (suc u) v l m e = omega arith

-- a block is one of its film's
pub below : (q : Plan) (x y : ℕ) → x ≡ y → (supply_of q).is_block y ≡ true → Named q.figures x
unfolding supply_of
below q x y e b = subst (Named q.figures) (sym e) (block_names (showing_in q) q.figures y b)

module _ (d : Desk) (ps ls : List ℕ) (room : ℕ) (n : (begin_desk d ps ls room).verdict.number ≡ 0) where
  abbrev pub given : Given ℕ
  given = record { call = begin; fair = is_plan d.plan ps ls; room = room }
