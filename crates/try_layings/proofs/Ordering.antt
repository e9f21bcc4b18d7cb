-- One step of finding an order by its number: the chosen time changes places with the one that stands first.
-- Assumes nothing.
use Prim.Native.Nat.{ℕ, zero, suc, ◌+◌, ◌-◌, ◌/◌, ◌%◌, ◌≤◌, ◌<◌}
use mathlib.Core.Path.{◌≡◌, refl, sym, ap, ◌∙◌}
use mathlib.Core.List.{List, [], ◌∷◌, ◌++◌, append_assoc, append-nil}
use native.Mathlib.Omega.{arith}
use native.Mathlib.Numerals.{add-one}
use lib.ListN.{length, get_or, set, take, drop, length-set}
use lib.Seq.{take-suc, drop-cons, drop-set-lt, drop-set-add, take-suc-set, take-set-le, get_or-take, get_or-drop}
use Rattle.laws.specs.Each.{Each, each_set, each_at}
use Rattle.numbers.specs.Limits.{max_time, max_tried}
use Rattle.placement.specs.Showing.{Showing, visits_of}
use Rattle.layings.specs.Layings.{others, laid, worst_in}
use Rattle.layings.specs.Numbered.{factorial, factorial_pos, factorial_down, numbered, pick_below, rest_below, numbered_take}
use Rattle.layings.specs.Smallest.{Best}
use Rattle.layings.specs.Times.{worst_same, orders_tried}
use Rattle.layings.proofs.Times.{orders_at}

-- the first `next` of the row are the order's, and its others are those of the rest
pub record Ordering (count number : ℕ) (times row : List ℕ) (rest size next : ℕ) : Type 0 where
  pub upto : next ≤ count
  pub long : length row ≡ max_tried
  pub sized : size ≡ factorial (count - next)
  pub below : rest < factorial (count - next)
  pub order : take next row ++ numbered (count - next) rest (drop next row) ≡ numbered count number times
  pub small : Each (λ (t : ℕ). t ≤ max_time) row

-- the row after a step
abbrev pub swapped : List ℕ → ℕ → ℕ → List ℕ
swapped row i j = set (set row j (get_or row i 0)) i (get_or row j 0)

swapped_drop : (row : List ℕ) (i q : ℕ) → i < length row → drop (suc i) (swapped row i (i + q)) ≡ others q (drop i row)
unfolding others
swapped_drop row i q h =
    rw (drop-cons row i 0 h)
    (drop-set-lt (suc i) (set row (i + q) (get_or row i 0)) i (get_or row (i + q) 0) (omega arith) ∙ go q)
  where
    go : (q : ℕ) → drop (suc i) (set row (i + q) (get_or row i 0)) ≡ others q (get_or row i 0 ∷ drop (suc i) row)
    go zero = drop-set-lt (suc i) row (i + 0) (get_or row i 0) (omega arith)
    go (suc p) = let e : i + suc p ≡ suc i + p = omega arith in rw e (drop-set-add (suc i) row p (get_or row i 0))

swapped_take : (row : List ℕ) (i q : ℕ) → i < length row → take (suc i) (swapped row i (i + q)) ≡ take i row ++ (get_or row (i + q) 0 ∷ [])
swapped_take row i q h =
    take-suc-set (set row (i + q) (get_or row i 0)) i (get_or row (i + q) 0) (omega (arith, length-set row (i + q) (get_or row i 0)))
    ∙ ap (λ (ys : List ℕ). ys ++ (get_or row (i + q) 0 ∷ [])) (take-set-le i row (i + q) (get_or row i 0) (omega arith))

-- the order stays what it was
swapped_order : (row : List ℕ) (i n rest : ℕ) → i < length row
    → take (i + 1) (swapped row i (i + rest / factorial n)) ++ numbered n (rest % factorial n) (drop (i + 1) (swapped row i (i + rest / factorial n)))
    ≡ take i row ++ numbered (suc n) rest (drop i row)
unfolding numbered
swapped_order row i n rest h =
    let q = rest / factorial n in
    rw (add-one i, swapped_take row i q h, swapped_drop row i q h, get_or-drop i row q 0)
    (append_assoc (take i row) (get_or row (i + q) 0 ∷ []) (numbered n (rest % factorial n) (others q (drop i row))))

module _ (count number : ℕ) (times row : List ℕ) (rest size next : ℕ) (few : count ≤ max_tried) (more : next < count)
    (o : Ordering count number times row rest size next) where
  -- what is left to choose from
  left : count - next ≡ suc (count - (next + 1))
  left = omega arith

  size_is : size / (count - next) ≡ factorial (count - (next + 1))
  size_is =
      let e : count - next - 1 ≡ count - (next + 1) = omega arith in
      ap (λ (s : ℕ). s / (count - next)) o.sized ∙ factorial_down (count - next) (omega arith) ∙ ap factorial e

  pub size_pos : 0 < size / (count - next)
  size_pos = rw size_is (factorial_pos (count - (next + 1)))

  pub pick : rest / (size / (count - next)) < count - next
  pick = rw size_is (rw left (pick_below (count - (next + 1)) rest (rw left at o.below)))

  pub ordering_next : Ordering count number times (swapped row next (next + rest / (size / (count - next)))) (rest % (size / (count - next)))
      (size / (count - next)) (next + 1)
  ordering_next =
      let n = count - (next + 1) in
      let there = next + rest / factorial n in
      let long : next < length row = omega (arith, o.long) in
      rw size_is (record {
        upto = omega arith;
        long = length-set (set row there (get_or row next 0)) next (get_or row there 0) ∙ length-set row there (get_or row next 0) ∙ o.long;
        sized = refl;
        below = rest_below n rest;
        order = swapped_order row next n rest long ∙ rw left at o.order;
        small = each_set Small (set row there (get_or row next 0)) next (get_or row there 0) (each_set Small row there (get_or row next 0) o.small (at next))
            (at there);
      })
    where
      Small : ℕ → Type 0
      Small t = t ≤ max_time

      at : (i : ℕ) → get_or row i 0 ≤ max_time
      at i = each_at Small row i 0 o.small (omega arith)

pub ordering_last : (count number : ℕ) (times row : List ℕ) (rest size next : ℕ) → count ≤ next → Ordering count number times row rest size next
    → take count row ≡ numbered count number times
unfolding numbered
ordering_last count number times row rest size next h o =
    let e : next ≡ count = omega (arith, o.upto) in
    let z : count - count ≡ 0 = omega arith in
    sym (append-nil (take count row)) ∙ rw (e, z) at o.order

-- ---- what a found order adds to those that were tried

-- its worst time is the next of the list
pub tried_at : (x : Showing) → visits_of x ≡ 1 → (N r : ℕ) (times row : List ℕ) → r < factorial N → take N row ≡ numbered N r times
    → worst_in x (λ t. t) N row ≡ get_or (orders_tried x N (take N times)) r 0
tried_at x v N r times row h e =
    worst_same x v (λ t. t) (λ t. t) (laid row) (laid (take N row)) N (λ b u. sym (get_or-take N row b 0 u))
    ∙ ap (worst_in x (λ t. t) N) (e ∙ numbered_take N r times h)
    ∙ sym (orders_at x N r (take N times) h)

pub best_next : (ws : List ℕ) (r w least count : ℕ) → r < length ws → w ≡ get_or ws r 0 → Best (take r ws ++ (w ∷ [])) least count
    → Best (take (r + 1) ws) least count
best_next ws r w least count h e b = rw (add-one r, take-suc ws r 0 h, ← e) b
