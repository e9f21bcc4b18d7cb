-- Laws of windows: an even one takes at most half its blocks times what bounds the pairs, for any paced film, and one of two blocks is the
-- worst pair; of half blocks one of one block takes p.
-- Assumes nothing.
use Prim.Native.Nat.{ℕ, zero, suc, ◌+◌, ◌*◌, ◌/◌, ◌%◌, ◌≤◌, ◌<◌}
use Rattle.std.specs.Prelude.{◌≡◌, refl, ◌&&◌}
use Rattle.std.proofs.Math.Path.{sym, ap₂}
use Rattle.std.proofs.Common.{◌∙◌}
use Rattle.std.proofs.Math.Bool.{true}
use native.Mathlib.Omega.{arith}
use Rattle.laws.specs.Bools.{and_left, and_right}
use Rattle.laws.specs.Greatest.{greatest_of, greatest_of_least, earliest_of, Earliest, earliest_unique, earliest_is}
use Rattle.placement.specs.Showing.{Showing, one, loop, pairs, visits_of, first_place, other_places, block_time, after}
use Rattle.placement.specs.Showing.{worst_of, worst_at, pair_time, pairs_of, greatest_twice, worst_pair}
use Rattle.placement.specs.Circle.{round}
use Rattle.placement.specs.Pairs.{worst_match}
use Rattle.pacing.specs.Film.{Film, Paced, row, span}
use Rattle.pacing.specs.Shown.{once_in, loop_in}
use Rattle.pacing.specs.Laid.{laid_film, slowest, laid_paced}
use Rattle.pacing.specs.Window.{places_of, window_time, worst_window, window_at}

-- ---- even windows of any paced film (T9.7)

module _ {A : Type 0} (film : Film A) (w m : ℕ) (ok : Paced film w m) where
  -- twice j blocks in a row are j pairs
  pairs_row : (j : ℕ) (a : A) → row film (2 * j) a ≡ true → span film (2 * j) a ≤ j * w
  unfolding row span
  pairs_row zero a e = omega arith
  pairs_row (suc j) a e = go (2 * suc j) (omega arith) e (λ r. pairs_row j (film.next (film.next a)) r)
    where
      go : (n : ℕ) → n ≡ suc (suc (2 * j)) → row film n a ≡ true
          → (row film (2 * j) (film.next (film.next a)) ≡ true → span film (2 * j) (film.next (film.next a)) ≤ j * w) → span film n a ≤ suc j * w
      go n q e ih =
          let d : (film.is_block a && (film.is_block (film.next a) && row film (2 * j) (film.next (film.next a)))) ≡ true = rw q at e in
          let r = and_right (film.is_block a) _ d in
          rw q (omega (
            arith,
            ok.pairs a (and_left (film.is_block a) _ d) (and_left (film.is_block (film.next a)) _ r),
            ih (and_right (film.is_block (film.next a)) _ r),
          ))

  -- AN EVEN NUMBER OF BLOCKS IN A ROW takes at most half as many times w
  pub even_row : (k : ℕ) (a : A) → k % 2 ≡ 0 → row film k a ≡ true → span film k a ≤ k / 2 * w
  even_row k a even e = let q : k ≡ 2 * (k / 2) = omega arith in rw (sym q) at (pairs_row (k / 2) a (rw q at e))

-- ---- windows of a film as it is laid

module _ (τ l : ℕ → ℕ) (N : ℕ) where
  -- the blocks of a window are the film's
  window_row : (x : Showing) (k b : ℕ) → b < places_of x N k → row (laid_film x τ l N) k b ≡ true
  window_row one k b u = once_in N (block_time one τ l) (first_place one l) (other_places one l) k b (omega arith)
  window_row loop k b u = loop_in N (block_time loop τ l) (first_place loop l) (other_places loop l) k b u
  window_row pairs k b u = once_in N (block_time pairs τ l) (first_place pairs l) (other_places pairs l) k b (omega arith)

  -- AN EVEN WINDOW takes at most half its blocks times the worst time of two (T9.7)
  pub even_window : (x : Showing) (k : ℕ) → k % 2 ≡ 0 → worst_window x τ l N k ≤ k / 2 * worst_of x τ l N
  unfolding worst_window
  even_window x k even = greatest_of_least (window_time x τ l N k) (places_of x N k) (k / 2 * worst_of x τ l N)
      (λ b u. even_row (laid_film x τ l N) (worst_of x τ l N) (slowest x τ l N) (laid_paced τ l N x) k b even (window_row x k b u))

  plus_none : (s t : ℕ) → s + (t + 0) ≡ s + t
  plus_none s t = omega arith

  -- a window of two blocks is a pair, of blocks with one visit
  two_time : (x : Showing) → visits_of x ≡ 1 → window_time x τ l N 2 ≡ pair_time x τ l N
  unfolding span
  two_time one e = λ i b. plus_none (τ (l b)) (τ (l (suc b))) i
  two_time loop e = λ i b. plus_none (τ (l b)) (τ (l (round N b))) i
  two_time pairs e = absurd (omega arith)

  two_places : (x : Showing) → visits_of x ≡ 1 → places_of x N 2 ≡ pairs_of x N
  two_places one e = omega arith
  two_places loop e = refl
  two_places pairs e = absurd (omega arith)

  -- so the worst one is the worst pair
  pub two_worst : (x : Showing) → visits_of x ≡ 1 → worst_window x τ l N 2 ≡ worst_of x τ l N
  unfolding worst_window
  two_worst x e = ap₂ greatest_of (two_time x e) (two_places x e) ∙ sym (worst_pair x τ l N)

  pub two_at : (x : Showing) → visits_of x ≡ 1 → window_at x τ l N 2 ≡ worst_at x τ l N
  unfolding window_at worst_at
  two_at x e = ap₂ earliest_of (two_time x e) (two_places x e)

  -- a window of one block takes its time
  one_time : window_time pairs τ l N 1 ≡ block_time pairs τ l
  unfolding span
  one_time = λ i b. none (block_time pairs τ l b) i
    where
      none : (t : ℕ) → t + 0 ≡ t
      none t = omega arith

  one_places : places_of pairs N 1 ≡ N
  one_places = omega arith

  -- so of half blocks the worst one takes p, half of the worst time, and begins where the worst pair does
  pub one_worst : worst_window pairs τ l N 1 ≡ worst_match τ l N
  unfolding worst_window worst_match
  one_worst = ap₂ greatest_of one_time one_places

  pub one_at : 0 < N → window_at pairs τ l N 1 ≡ worst_at pairs τ l N
  unfolding window_at worst_at
  one_at some =
      let g = block_time pairs τ l in
      let e = earliest_is g N some in
      let twice : Earliest (pair_time pairs τ l N) N (earliest_of g N) =
      record { below = e.below; reached = omega (arith, e.reached, greatest_twice g N); first = λ a u. omega (arith, e.first a u, greatest_twice g N) } in
      ap₂ earliest_of one_time one_places ∙ earliest_unique (pair_time pairs τ l N) N _ _ twice (earliest_is (pair_time pairs τ l N) N some)
