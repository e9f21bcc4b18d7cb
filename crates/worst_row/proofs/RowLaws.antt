-- Rows of k blocks on the circle: how a row grows, how it slides on by a block or a run of them, and how long it takes at most.
-- Assumes nothing.
use Prim.Native.Nat.{ℕ, zero, suc, ◌+◌, ◌*◌, ◌-◌, ◌≤◌, ◌<◌}
use mathlib.Core.Path.{◌≡◌, refl, sym, ap, ◌∙◌}
use mathlib.Core.Logic.{by_cases}
use mathlib.Core.List.{List}
use native.Mathlib.Omega.{arith}
use native.Mathlib.Decide.{dec_lt}
use Rattle.laws.specs.Greatest.{greatest_of, Peak}
use Rattle.numbers.specs.Limits.{max_time}
use Rattle.placement.specs.Circle.{round}
use Rattle.placement.specs.CircleBest.{round_last, round_next}
use Rattle.placement.specs.Showing.{Showing, one, loop, pairs, visits_of, laying}
use Rattle.placement.specs.Zones.{time_at}
use Rattle.pacing.specs.Film.{span}
use Rattle.pacing.specs.Shown.{round_below}
use Rattle.pacing.specs.Window.{places_of, window_time}
use Rattle.plan.specs.Disk.{OnDisk}
use Rattle.plan.specs.FilmWalk.{visit_quick}
use Rattle.worst_pair.specs.declared.Pair.{Pair}
use Rattle.walk.specs.declared.Walk.{Walk}
use Rattle.walk.specs.Walk.{Cursors}
use Rattle.worst_row.specs.Rows.{max_row, past, Comes, Stands, row_time, Slides}

module _ (N : ℕ) where
  -- one block further
  pub past_more : (k b : ℕ) → past N (suc k) b ≡ round N (past N k b)
  unfolding past
  past_more zero b = refl
  past_more (suc k) b = past_more k (round N b)

  pub past_below : (k b : ℕ) → b < N → past N k b < N
  unfolding past
  past_below zero b u = u
  past_below (suc k) b u = past_below k (round N b) (round_below N b u)

  past_round : (k b : ℕ) → past N k (round N b) ≡ round N (past N k b)
  unfolding past
  past_round k b = past_more k b

  -- d blocks further on both sides, where neither goes round
  past_on : (k a b d : ℕ) → a ≡ past N k b → a + d < N → b + d < N → a + d ≡ past N k (b + d)
  past_on k a b zero e u v = let p : a + 0 ≡ a = omega arith in
      let q : b + 0 ≡ b = omega arith in
      p ∙ e ∙ ap (past N k) (sym q)
  past_on k a b (suc d) e u v =
      let p : a + suc d ≡ round N (a + d) = omega (arith, round_next N (a + d) (omega arith)) in
      let q : round N (b + d) ≡ b + suc d = omega (arith, round_next N (b + d) (omega arith)) in
      p ∙ ap (round N) (past_on k a b d e (omega arith) (omega arith)) ∙ sym (past_round k (b + d)) ∙ ap (past N k) q

  -- so too where the one ahead goes round in the last step
  pub past_turn : (k a b to n : ℕ) → a ≡ past N k b → b < to → to < N → a + (to - b) ≤ N → n ≡ round N (a + (to - b) - 1) → n ≡ past N k to
  past_turn k a b to n e o u v h =
      let d = to - b - 1 in
      let p : a + (to - b) - 1 ≡ a + d = omega arith in
      let q : round N (b + d) ≡ to = omega (arith, round_next N (b + d) (omega arith)) in
      h ∙ ap (round N) (p ∙ past_on k a b d e (omega arith) (omega arith)) ∙ sym (past_round k (b + d)) ∙ ap (past N k) q

module _ (ps ts : List ℕ) (l : ℕ → ℕ) (N : ℕ) where
  -- one block more at the end
  pub row_more : (k b : ℕ) → row_time ps ts l N (suc k) b ≡ row_time ps ts l N k b + time_at ps ts (l (past N k b))
  unfolding span past
  row_more zero b = omega arith
  row_more (suc k) b = omega (arith, row_more k (round N b))

  -- a row that starts one block later has one block more at its end and its first one less
  row_slides : (k b : ℕ) → time_at ps ts (l b) + row_time ps ts l N k (round N b) ≡ row_time ps ts l N k b + time_at ps ts (l (past N k b))
  unfolding span
  row_slides k b = row_more k b

  -- it takes at most k times the greatest time
  pub row_small : ((b : ℕ) → b < N → time_at ps ts (l b) ≤ max_time) → (k b : ℕ) → b < N → row_time ps ts l N k b ≤ k * max_time
  unfolding span
  row_small quick zero b u = omega arith
  row_small quick (suc k) b u = omega (arith, quick b u, row_small quick k (round N b) (round_below N b u))

  -- a row within a film shown once does not go round
  once_row : (k b : ℕ) → b + k ≤ N → row_time ps ts l N k b ≡ window_time one (time_at ps ts) l N k b
  unfolding span
  once_row zero b h = refl
  once_row (suc zero) b h = refl
  once_row (suc (suc k)) b h =
      let e : round N b ≡ suc b = round_next N b (omega arith) in
      ap (λ (r : ℕ). time_at ps ts (l b) + r) (ap (row_time ps ts l N (suc k)) e ∙ once_row (suc k) (suc b) (omega arith))

  -- so it is a window of blocks that are visited once, where it may start
  pub row_window : (x : Showing) → visits_of x ≡ 1 → (k b : ℕ) → b < places_of x N k → row_time ps ts l N k b ≡ window_time x (time_at ps ts) l N k b
  row_window one e k b u = once_row k b (omega arith)
  row_window loop e k b u = refl
  row_window pairs e k b u = absurd (omega arith)

-- a walk may set out at the first block
pub comes_first : (ps ts : List ℕ) (l : ℕ → ℕ) (N : ℕ) (w : Walk) → Cursors ps w → Comes ps ts l N w 0
comes_first ps ts l N w c = record { cursors = c; film = λ some. absurd (omega arith); times = λ some k i v. absurd (omega arith) }

-- a walk that stands at a block may go on to the one after any later block
pub comes_on : (ps ts : List ℕ) (l : ℕ → ℕ) (N : ℕ) (w : Walk) (b c n : ℕ) → Stands ps ts l N w b → b ≤ c → c < N → n ≡ round N c → Comes ps ts l N w n
comes_on ps ts l N w b c n s o u e = record {
  cursors = s.cursors;
  film = λ some. s.film;
  times = λ some k i v. s.times k
      (by_cases (dec_lt (suc c) N) (λ h. omega (arith, round_next N c h)) (λ h. absurd (omega (arith, round_last N c (omega arith))))) v;
}

-- the greatest and earliest of one
pub peak_first : (g : ℕ → ℕ) → Peak g 1 0 (g 0)
unfolding greatest_of
peak_first g = record {
  value = omega arith;
  none = λ e. absurd (omega arith);
  some = λ h. record { below = omega arith; reached = omega arith; first = λ a u. absurd (omega arith) };
}

-- both walks stand in a run: the rows slide on as far as both runs go
module _ (ps ts : List ℕ) (P N : ℕ) (film : OnDisk ps ts P N) (x : Showing) (single : visits_of x ≡ 1) (k : ℕ) (most : k ≤ max_row)
    (ahead behind : Walk) (a b to : ℕ)
    (front : Stands ps ts (laying x P N) N ahead a) (rear : Stands ps ts (laying x P N) N behind b) (apart : a ≡ past N k b)
    (order : b ≤ to) (last : to < N) (near : a + (to - b) ≤ ahead.until) (far : to ≤ behind.until) where
  -- the block that comes in as block d goes out
  on : (c d : ℕ) → b ≤ d → d < to → c + b ≡ a + d → c ≡ past N k d
  on c d i v e =
      let p : a + (d - b) ≡ c = omega arith in
      let q : b + (d - b) ≡ d = omega arith in
      rw (p, q) at (past_on N k a b (d - b) apart (omega (arith, front.film)) (omega arith))

  pub slides_run : (sum : ℕ) (worst : Pair) → sum ≡ row_time ps ts (laying x P N) N k b
      → Peak (row_time ps ts (laying x P N) N k) (suc b) worst.first worst.time
      → Slides (row_time ps ts (laying x P N) N k) ahead behind a b to sum worst
  slides_run sum worst time found =
      let quick = visit_quick ps ts P N film x single in
      record {
        order = order;
        fits = omega (arith, front.film, film.room, film.whole, film.disk.zoned.small);
        small = λ d i v. omega (arith, row_small ps ts (laying x P N) N quick k d (omega arith));
        quick = λ c d i v e. omega (arith, front.times c (omega arith) (omega arith), quick c (omega (arith, front.film)));
        turn = λ c d i v e.
            let t : time_at ps ts (laying x P N c) ≡ time_at ps ts (laying x P N (past N k d)) = ap (λ (n : ℕ). time_at ps ts (laying x P N n)) (on c d i v e) in
            let n : row_time ps ts (laying x P N) N k (round N d) ≡ row_time ps ts (laying x P N) N k (suc d) =
            ap (row_time ps ts (laying x P N) N k) (round_next N d (omega arith)) in
            omega (arith, front.times c (omega arith) (omega arith), rear.times d i (omega arith), row_slides ps ts (laying x P N) N k d);
        time = time;
        found = found;
      }
