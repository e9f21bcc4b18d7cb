-- Document 02, ticket 14: a list that goes through films, one row after the other. Film i has n i entries, entry v of it is g i v.
-- Assumes nothing.
use Prim.Native.Nat.{ℕ, zero, suc, ◌+◌, ◌*◌, ◌<◌}
use Rattle.std.specs.Prelude.{◌≡◌, refl, true, false, ◌&&◌, List, [], ◌∷◌, ◌++◌, drop}
use Rattle.std.proofs.Math.Path.{sym, ap}
use Rattle.std.proofs.Common.{ap₂, ◌∙◌, get_or-drop}
use Rattle.std.proofs.Math.Logic.{by_cases}
use native.Mathlib.Omega.{arith}
use Rattle.std.proofs.Math.Decide.{ℕ_discrete}
use Rattle.std.proofs.Math.ListN.{length, get_or, length-append}
use Rattle.laws.specs.Bools.{and_left, and_right}
use Rattle.words.specs.Words.{Words, with_words}
use Rattle.words.specs.Laws.{with_words_append}
use Rattle.laws.specs.Starts.{start_of, start_none, start_next}
use Rattle.card.specs.declared.Figures.{Figures}
use Rattle.card.specs.Card.{length_in, blocks_of}
use Rattle.placement.specs.Showing.{Showing, visits_of}
use Rattle.plan.specs.Plan.{start_in, position_in, entries_of, lead_in, row, rows_of, positions_of, leads_of}
use Rattle.plan.specs.Answer.{begins}
use Rattle.plan.specs.Rows.{row_length, row_same, begins_append, begins_at, begins_none}

-- where film i's entries begin, k of them being a block's
pub start_visits : (k : ℕ) (N : ℕ → ℕ) (i : ℕ) → start_of (λ j. k * N j) i ≡ k * start_of N i
start_visits k N zero = omega (arith, start_none (λ j. k * N j), ap (λ (s : ℕ). k * s) (start_none N))
start_visits k N (suc i) = omega (arith, start_next (λ j. k * N j) i, start_visits k N i, ap (λ (s : ℕ). k * s) (start_next N i))

-- numbers of 32 bits, one list after the other
words_append : (us vs : List ℕ) → Words us → Words vs → Words (us ++ vs)
words_append [] vs p q k = q k
words_append (u ∷ us) vs p q zero = p zero
words_append (u ∷ us) vs p q (suc k) = words_append us vs (λ j. p (suc j)) q k

row_words : (g : ℕ → ℕ) (b n : ℕ) → ((k : ℕ) → k < b + n → g k < 4294967296) → Words (row g b n)
unfolding row
row_words g b zero h i = omega arith
row_words g b (suc n) h zero = h b (omega arith)
row_words g b (suc n) h (suc i) = row_words g (suc b) n (λ k u. h k (omega arith)) i

module _ (g : ℕ → ℕ → ℕ) (n : ℕ → ℕ) where
  abbrev rows : ℕ → List ℕ
  rows = rows_of g n

  pub rows_length : (F : ℕ) → length (rows F) ≡ start_of n F
  unfolding rows_of
  rows_length zero = sym (start_none n)
  rows_length (suc i) = omega (arith, length-append (rows i) (row (g i) 0 (n i)), rows_length i, row_length (g i) 0 (n i), start_next n i)

  -- a list begins with them where it begins with those of the films before, and from there on with the last film's
  pub rows_begin : (i : ℕ) (ws : List ℕ) → begins (rows (suc i)) ws ≡ (begins (rows i) ws && begins (row (g i) 0 (n i)) (drop (start_of n i) ws))
  unfolding rows_of
  rows_begin i ws = begins_append (rows i) (row (g i) 0 (n i)) ws
      ∙ ap (λ (k : ℕ). begins (rows i) ws && begins (row (g i) 0 (n i)) (drop k ws)) (rows_length i)

  -- a list too short for them does not
  pub rows_short : (F : ℕ) (ws : List ℕ) → length ws < start_of n F → false ≡ begins (rows F) ws
  rows_short F ws h = begins_none (rows F) ws (omega (arith, rows_length F))

  -- one that begins with them has each
  pub rows_at : (F : ℕ) (ws : List ℕ) → begins (rows F) ws ≡ true → (i v : ℕ) → i < F → v < n i → get_or ws (start_of n i + v) 0 ≡ g i v
  rows_at zero ws e i v u h = absurd (omega arith)
  rows_at (suc f) ws e i v u h =
      let d = sym (rows_begin f ws) ∙ e in
      by_cases (ℕ_discrete i f)
      (λ s. rw s (here v (rw s at h) (and_right (begins (rows f) ws) _ d)))
      (λ s. rows_at f ws (and_left (begins (rows f) ws) _ d) i v (omega arith) h)
    where
      here : (v : ℕ) → v < n f → begins (row (g f) 0 (n f)) (drop (start_of n f) ws) ≡ true → get_or ws (start_of n f + v) 0 ≡ g f v
      here v h e = let z : 0 + v ≡ v = omega arith in
          sym (get_or-drop (start_of n f) ws v 0) ∙ begins_at (g f) 0 (n f) (drop (start_of n f) ws) e v h ∙ ap (g f) z

  -- numbers of 32 bits each
  pub rows_words : (F : ℕ) → ((i v : ℕ) → i < F → v < n i → g i v < 4294967296) → Words (rows F)
  unfolding rows_of
  rows_words zero h = λ k. omega arith
  rows_words (suc i) h =
      words_append (rows i) (row (g i) 0 (n i)) (rows_words i (λ j v u l. h j v (omega arith) l))
      (row_words (g i) 0 (n i) (λ v l. h i v (omega arith) (omega arith)))

  -- they are written film by film
  pub rows_written : (i : ℕ) (s : List ℕ) → with_words s 0 (rows (suc i)) ≡ with_words (with_words s 0 (rows i)) (start_of n i) (row (g i) 0 (n i))
  unfolding rows_of
  rows_written i s = let z : 0 + length (rows i) ≡ start_of n i = omega (arith, rows_length i) in
      with_words_append s 0 (rows i) (row (g i) 0 (n i)) ∙ ap (λ (k : ℕ). with_words (with_words s 0 (rows i)) k (row (g i) 0 (n i))) z

-- films with the same entries
pub rows_same : (g h : ℕ → ℕ → ℕ) (n : ℕ → ℕ) (F : ℕ) → ((i v : ℕ) → i < F → v < n i → g i v ≡ h i v) → rows_of g n F ≡ rows_of h n F
unfolding rows_of
rows_same g h n zero e = refl
rows_same g h n (suc i) e =
    ap₂ ◌++◌ (rows_same g h n i (λ j v u l. e j v (omega arith) l)) (row_same (g i) (h i) 0 (n i) (λ v l u. e i v (omega arith) (omega arith)))

-- ---- the two lists of a plan

module _ (x : Showing) (f : Figures) where
  -- where film i's entries begin in the positions list
  pub entries_start : (i : ℕ) → start_of (λ j. visits_of x * length_in f j) i ≡ visits_of x * start_in f i
  entries_start i = start_visits (visits_of x) (length_in f) i

  pub positions_length : length (positions_of x f) ≡ entries_of x f
  unfolding positions_of
  positions_length = rows_length (position_in x f) (λ i. visits_of x * length_in f i) f.films ∙ entries_start f.films

  pub leads_length : length (leads_of x f) ≡ blocks_of f
  unfolding leads_of
  leads_length = rows_length (lead_in x f) (length_in f) f.films

  -- a list that begins with them has each film's entries
  pub positions_at : (ws : List ℕ) → begins (positions_of x f) ws ≡ true → (i v : ℕ) → i < f.films → v < visits_of x * length_in f i
      → get_or ws (visits_of x * start_in f i + v) 0 ≡ position_in x f i v
  unfolding positions_of
  positions_at ws e i v u h =
      ap (λ (s : ℕ). get_or ws (s + v) 0) (sym (entries_start i)) ∙ rows_at (position_in x f) (λ j. visits_of x * length_in f j) f.films ws e i v u h

  pub leads_at : (ws : List ℕ) → begins (leads_of x f) ws ≡ true → (i b : ℕ) → i < f.films → b < length_in f i
      → get_or ws (start_in f i + b) 0 ≡ lead_in x f i b
  unfolding leads_of
  leads_at ws e i b u h = rows_at (lead_in x f) (length_in f) f.films ws e i b u h
