-- A walk over the films of a shelf, and the lists that grow or are compared with it.
-- Assumes nothing.
use Prim.Native.Nat.{ℕ, suc, ◌+◌, ◌*◌, ◌-◌, ◌≤◌, ◌<◌}
use mathlib.Core.Path.{◌≡◌, sym, ap, ap₂, ◌∙◌}
use mathlib.Core.Bool.{Bool, ◌&&◌}
use mathlib.Core.List.{List, ◌++◌}
use native.Mathlib.Omega.{arith}
use native.Mathlib.Nat.{mul-le-mul}
use native.Mathlib.Numerals.{add-one}
use lib.ListN.{length, take, drop, length-drop}
use Rattle.laws.specs.Starts.{start_of, start_none, start_next, start_rises}
use Rattle.numbers.specs.Limits.{max_blocks}
use Rattle.words.specs.Words.{words_of, with_words}
use Rattle.words.specs.Laws.{words_length, with_words_length, with_words_entries, words_lent, words_returned}
use Rattle.placement.specs.Showing.{Showing, visits_of, visits_few, laying, walked, walked_laying}
use Rattle.placement.specs.Shelf.{free_for, laying_in}
use Rattle.plan.specs.Plan.{row, rows_of}
use Rattle.plan.specs.Answer.{begins}
use Rattle.plan.specs.Disk.{lead_at, length_at, Shelved, walked_leads}
use Rattle.plan.specs.Films.{start_visits, rows_begin, rows_written}

-- ---- the rows of films in a list: film i's n i entries, from byte `at` on

module _ (n : ℕ → ℕ) (F i at : ℕ) (u : i < F) (here : at ≡ 4 * start_of n i) where
  -- they stand before those of all
  pub rows_end : start_of n i + n i ≤ start_of n F
  rows_end = omega (arith, start_next n i, start_rises n (suc i) F u)

  -- a list with room for all has room for them
  pub part_start : (s : List ℕ) → start_of n F ≤ length (words_of s) → at ≤ length s
  part_start s h = omega (arith, rows_end, words_length s)

  pub part_room : (s : List ℕ) → start_of n F ≤ length (words_of s) → n i ≤ length (words_of (take (length s - at) (drop at s)))
  part_room s h =
      let e = ap length (words_lent (start_of n i) s at here) ∙ length-drop (start_of n i) (words_of s) in
      omega (arith, rows_end)

  -- as it does in one that is written in part
  pub part_roomy : (s t vs : List ℕ) → start_of n F ≤ length (words_of s) → t ≡ with_words s 0 vs → start_of n F ≤ length (words_of t)
  part_roomy s t vs h e =
      let k = ap (λ (r : List ℕ). length (words_of r)) e ∙ with_words_entries s 0 vs in omega arith

  -- one film more is written
  pub part_written : (g : ℕ → ℕ → ℕ) (s t ys vs : List ℕ) → start_of n F ≤ length (words_of s) → t ≡ with_words s 0 (rows_of g n i)
      → ys ≡ with_words (take (length t - at) (drop at t)) 0 vs → vs ≡ row (g i) 0 (n i)
      → take at t ++ (ys ++ drop (length t - at) (drop at t)) ≡ with_words s 0 (rows_of g n (i + 1))
  part_written g s t ys vs h e q r =
      let l = ap length e ∙ with_words_length s 0 (rows_of g n i) in
      words_returned (start_of n i) t at vs ys here (omega (arith, part_start s h)) q
      ∙ ap (with_words t (start_of n i)) r
      ∙ ap (λ (v : List ℕ). with_words v (start_of n i) (row (g i) 0 (n i))) e
      ∙ sym (rows_written g n i s)
      ∙ ap (λ (j : ℕ). with_words s 0 (rows_of g n j)) (sym (add-one i))

  -- or compared
  pub part_same : (g : ℕ → ℕ → ℕ) (s vs : List ℕ) (same film : Bool) → same ≡ begins (rows_of g n i) (words_of s)
      → film ≡ begins vs (words_of (take (length s - at) (drop at s))) → vs ≡ row (g i) 0 (n i)
      → (same && film) ≡ begins (rows_of g n (i + 1)) (words_of s)
  part_same g s vs same film e q r =
      ap₂ ◌&&◌ e (q ∙ ap₂ begins r (words_lent (start_of n i) s at here))
      ∙ sym (rows_begin g n i (words_of s))
      ∙ ap (λ (j : ℕ). begins (rows_of g n j) (words_of s)) (sym (add-one i))

-- ---- the byte at which a film's entries begin

pub byte_first : (n : ℕ → ℕ) → 0 ≡ 4 * start_of n 0
byte_first n = let z = start_none n in omega arith

pub byte_next : (n : ℕ → ℕ) (i at m : ℕ) → at ≡ 4 * start_of n i → m ≡ n i → at + 4 * m ≡ 4 * start_of n (i + 1)
byte_next n i at m e d = omega (arith, start_next n i, ap (start_of n) (add-one i))

-- ---- the entries of a film in the positions list

module _ (x : Showing) (bs : List ℕ) where
  abbrev pub visits_at : ℕ → ℕ
  visits_at i = visits_of x * length_at bs i

  pub visits_start : (i : ℕ) → start_of visits_at i ≡ visits_of x * start_of (length_at bs) i
  visits_start i = start_visits (visits_of x) (length_at bs) i

  pub visits_room : (F : ℕ) (s : List ℕ) → visits_of x * start_of (length_at bs) F ≤ length (words_of s) → start_of visits_at F ≤ length (words_of s)
  visits_room F s h = omega (arith, visits_start F)

  module _ (P F : ℕ) (ok : Shelved x P bs F) where
    -- few in all
    pub visits_all : start_of visits_at F ≤ 2 * max_blocks
    visits_all = omega (arith, visits_start F, mul-le-mul (visits_few x).1 ok.all)

  -- as a walk over its visits gives them
  pub visits_row : (P i v p : ℕ) → v ≡ visits_at i → p ≡ free_for x P (length_at bs) i
      → row (laying (walked x) p v) 0 v ≡ row (laying_in x P (length_at bs) i) 0 (visits_at i)
  visits_row P i v p e d =
      ap₂ (λ (q n : ℕ). row (laying (walked x) q n) 0 n) d e
      ∙ ap (λ (l : ℕ → ℕ). row l 0 (visits_at i)) (walked_laying x (free_for x P (length_at bs) i) (length_at bs i))

-- ---- its leads

pub leads_row : (ps ts : List ℕ) (x : Showing) (P : ℕ) (bs : List ℕ) (w i p : ℕ) → p ≡ free_for x P (length_at bs) i
    → row (lead_at ps ts (laying (walked x) p (length_at bs i)) w) 0 (length_at bs i) ≡ row (walked_leads ps ts x P bs w i) 0 (length_at bs i)
leads_row ps ts x P bs w i p e = ap (λ (q : ℕ). row (lead_at ps ts (laying (walked x) q (length_at bs i)) w) 0 (length_at bs i)) e
