-- The judge of a shelf refuses nothing just where its films are legal (document 02, ticket 14).
-- Assumes nothing.
use Prim.Native.Nat.{ℕ, zero, suc, ◌+◌, ◌*◌, ◌≤◌, ◌<◌}
use Rattle.std.specs.Prelude.{◌≡◌, List, cond, get_or}
use Rattle.std.proofs.Math.Path.{refl, ap}
use Rattle.std.proofs.Common.{sym, subst}
use Rattle.std.proofs.Math.Logic.{by_cases}
use Rattle.std.proofs.Math.Nat.{mul-le-mul_left}
use native.Mathlib.Omega.{arith}
use Rattle.std.proofs.Math.Decide.{ℕ_discrete}
use Rattle.laws.specs.Starts.{start_of, start_none, start_next, start_rises}
use Rattle.numbers.specs.Limits.{min_blocks, max_blocks, max_films}
use Rattle.numbers.specs.Refusals.{wrong_films}
use Rattle.card_field.specs.declared.Rule.TheVariants.{Films}
use Rattle.card_field.specs.Ranges.{fault_of, blocks_fault}
use Rattle.card_field.specs.Row.{row_fault}
use Rattle.card_field.specs.RangeLaws.{first_none, first_clear, films_range, films_legal, blocks_range, blocks_legal}
use Rattle.card.specs.Card.{zeros, shelf_fault}
use Rattle.legality.specs.Zeros.{zeros_at, at_zeros, clear}

-- a fact at i and from the next on is a fact from i on
pub from_here : (P : ℕ → Type 0) (i left : ℕ) → P i → ((j : ℕ) → i + 1 ≤ j → j < i + 1 + left → P j) → (j : ℕ) → i ≤ j → j < i + suc left → P j
from_here P i left here later j l h = by_cases (ℕ_discrete i j) (λ e. subst P e here) (λ n. later j (omega arith) (omega arith))

module _ (k total : ℕ) (ns : List ℕ) where
  -- N of film i
  abbrev N : ℕ → ℕ
  N i = get_or ns i 0

  -- `left` films from the i-th on are legal after those before them
  record LengthsLegal (left i : ℕ) : Type 0 where
    blocks : (j : ℕ) → i ≤ j → j < i + left → (min_blocks ≤ N j) × (N j ≤ max_blocks)
    all : start_of N (i + left) ≤ max_blocks
    room : k * start_of N (i + left) ≤ total

  -- films that are not refused are legal
  fault_lengths : (left i sofar : ℕ) → sofar ≡ start_of N i → sofar ≤ max_blocks → k * sofar ≤ total
      → row_fault (blocks_fault k total) ◌+◌ left sofar i ns ≡ 0 → LengthsLegal left i
  unfolding row_fault
  fault_lengths zero i sofar s a r e =
      let last : i + 0 ≡ i = omega arith in
      record {
        blocks = λ j l h. absurd (omega arith);
        all = rw last (rw s at a);
        room = rw last (rw s at r);
      }
  fault_lengths (suc left) i sofar s a r e =
      let p = first_none (blocks_fault k total sofar (N i)) _ e in
      let b = blocks_range k total sofar (N i) p.0 in
      let next : i + 1 ≡ suc i = omega arith in
      let so : sofar + N i ≡ start_of N (i + 1) = omega (arith, start_next N i, ap (start_of N) next) in
      let later = fault_lengths left (i + 1) (sofar + N i) so b.2 b.3 p.1 in
      let last : i + suc left ≡ i + 1 + left = omega arith in
      record {
        blocks = from_here (λ j. (min_blocks ≤ N j) × (N j ≤ max_blocks)) i left (b.0, b.1) later.blocks;
        all = rw last later.all;
        room = rw last later.room;
      }

  -- legal films are not refused
  lengths_fault : (left i sofar : ℕ) → sofar ≡ start_of N i → LengthsLegal left i → row_fault (blocks_fault k total) ◌+◌ left sofar i ns ≡ 0
  unfolding row_fault
  lengths_fault zero i sofar s l = refl
  lengths_fault (suc left) i sofar s l =
      let next : i + 1 ≡ suc i = omega arith in
      let so : sofar + N i ≡ start_of N (i + 1) = omega (arith, start_next N i, ap (start_of N) next) in
      let last : i + suc left ≡ i + 1 + left = omega arith in
      let here = l.blocks i (omega arith) (omega arith) in
      let rises = start_rises N (i + 1) (i + suc left) (omega arith) in
      let room : k * (sofar + N i) ≤ total = rw so (omega (arith, mul-le-mul_left k rises, l.room)) in
      let later : LengthsLegal left (i + 1) = record {
        blocks = λ j m h. l.blocks j (omega arith) (omega arith);
        all = rw last at l.all;
        room = rw last at l.room;
      } in
      first_clear (blocks_legal k total sofar (N i) here.0 here.1 (omega (arith, l.all)) room) (lengths_fault left (i + 1) (sofar + N i) so later)

  -- a shelf of so many films: the ranges of document 02, and room for all
  pub record ShelfLegal (films : ℕ) : Type 0 where
    pub count : (1 ≤ films) × (films ≤ max_films)
    pub idle : (i : ℕ) → films ≤ i → N i ≡ 0
    pub blocks : (i : ℕ) → i < films → (min_blocks ≤ N i) × (N i ≤ max_blocks)
    pub all : start_of N films ≤ max_blocks
    pub room : k * start_of N films ≤ total

  -- A SHELF THAT IS NOT REFUSED IS LEGAL, AND BACK
  pub fault_shelf : (films : ℕ) → shelf_fault k total films ns ≡ 0 → ShelfLegal films
  unfolding shelf_fault
  fault_shelf films e =
      let c = first_none (fault_of Films 0 films) _ e in
      let u = first_none (cond (zeros films ns) 0 wrong_films) _ c.1 in
      let none = start_none N in
      let l = fault_lengths films 0 0 (sym none) (omega arith) (omega arith) u.1 in
      let last : 0 + films ≡ films = omega arith in
      record {
        count = films_range 0 films c.0;
        idle = zeros_at films ns (clear wrong_films (omega arith) (zeros films ns) u.0);
        blocks = λ i h. l.blocks i (omega arith) (omega arith);
        all = rw last at l.all;
        room = rw last at l.room;
      }

  pub shelf_fault_law : (films : ℕ) → ShelfLegal films → shelf_fault k total films ns ≡ 0
  unfolding shelf_fault
  shelf_fault_law films l =
      let unused = at_zeros films ns l.idle in
      let last : 0 + films ≡ films = omega arith in
      let lengths : LengthsLegal films 0 = record {
        blocks = λ j m h. l.blocks j (omega arith);
        all = rw last l.all;
        room = rw last l.room;
      } in
      first_clear (films_legal 0 films l.count.0 l.count.1) (first_clear (rw unused) (lengths_fault films 0 0 (sym (start_none N)) lengths))
