-- The verdict on the draws of an end.
-- Assumes nothing.
use Prim.Native.Nat.{ℕ, ◌≤◌, ◌<◌}
use mathlib.Core.Path.{◌≡◌, sym, ap, ◌∙◌, subst}
use mathlib.Core.Logic.{◌≢◌, by_cases}
use mathlib.Core.Bool.{true}
use mathlib.Core.List.{List}
use native.Mathlib.Omega.{arith}
use native.Mathlib.Decide.{ℕ_discrete}
use lib.ListN.{length, get_or}
use borrow.Author.Tests.{ne_eqb}
use Rattle.std.specs.Prelude.{Option, None, Some, MatchOption, unwrap_or}
use Rattle.laws.specs.Indices.{all_from}
use Rattle.numbers.specs.Refusals.{draw_count, draw_above_limit, draw_above_held}
use Rattle.numbers.specs.Slots.{playing, draining}
use Rattle.rules.specs.Supply.{Supply}
use Rattle.rules.specs.Scheduler.{Slot, at, most_drawn, draw_limit, end}
use Rattle.rules.specs.Order.{Scheduler}
use Rattle.rules.specs.Arrays.{slot_of}
use Rattle.turns.specs.ArrayLaws.{length_slots, slot_at}
use Rattle.rules.specs.Refusals as R
use Rattle.rules.specs.Refusals.{judged, draw_allowed}
use Rattle.turns.specs.Rows.{end_length, end_excess, end_overdrawn, end_accepted}
use Rattle.turns.specs.Turns.{draws_allowed, draw_excess, draws_held, draw_overdrawn}
use Rattle.desk.specs.Desk.{Queue, verdict}
use Rattle.draws.specs.Draws.{NoneAbove, FirstAbove, kind_limit, Sweeps, judged_draws}

-- a kind that plays or drains, and any other
pub kind_draws : (m k : ℕ) → playing ≤ k → k ≤ draining → m ≡ kind_limit m k
unfolding kind_limit
kind_draws m k a b = by_cases (ℕ_discrete k playing) (λ e. rw e) (λ e. let q : k ≡ draining = omega arith in rw q)

pub kind_other : (m k : ℕ) → k ≢ playing → k ≢ draining → 0 ≡ kind_limit m k
unfolding kind_limit
kind_other m k a b = rw (ne_eqb k playing a, ne_eqb k draining b)

-- ---- a search that answers n where it finds none

module _ (limit : ℕ → ℕ) (ds : List ℕ) {n place : ℕ} (count : length ds ≡ n) where
  pub found_first : (r : Option ℕ) → MatchOption r (NoneAbove limit ds (length ds)) (FirstAbove limit ds) → place ≡ unwrap_or r n → place < n
      → FirstAbove limit ds place
  found_first None m e h = absurd (omega (arith, e, h))
  found_first (Some i) m e h = subst (FirstAbove limit ds) (sym e) m

  pub found_none : (r : Option ℕ) → MatchOption r (NoneAbove limit ds (length ds)) (FirstAbove limit ds) → place ≡ unwrap_or r n → n ≤ place
      → NoneAbove limit ds (length ds)
  found_none None m e h = m
  found_none (Some i) m e h = absurd (omega (arith, m.inside, count, e, h))

-- ---- the verdict

-- the limits are the same
module _ (f g : ℕ → ℕ) (e : (j : ℕ) → f j ≡ g j) (ds : List ℕ) where
  none_same : (n : ℕ) → NoneAbove f ds n → NoneAbove g ds n
  none_same n u j h = omega (arith, u j h, e j)

  first_same : (i : ℕ) → FirstAbove f ds i → FirstAbove g ds i
  first_same i u = record { inside = u.inside; below = none_same i u.below; above = omega (arith, u.above, e i) }

module _ (p : Supply ℕ) (v : Scheduler ℕ Queue) (n m : ℕ) (ks xs hs : List ℕ) (o : Sweeps p v n m ks xs hs) (ds : List ℕ) where
  -- the slots are those of the arrays
  slot_now : (j : ℕ) → at p v.slots j ≡ slot_of p (get_or ks j 0) (get_or xs j p.none) (get_or hs j 0)
  slot_now j = ap (λ (ss : List (Slot ℕ)). at p ss j) o.slots ∙ slot_at p ks xs hs o.shown.same j

  long : length v.slots ≡ 256
  long = ap (λ (ss : List (Slot ℕ)). length ss) o.slots ∙ length_slots p ks xs hs ∙ o.shown.long

  by_kind : (j : ℕ) → kind_limit m (get_or ks j 0) ≡ draw_limit p m (at p v.slots j)
  unfolding kind_limit draw_limit
  by_kind j = ap (λ (s : Slot ℕ). kind_limit m s.kind) (sym (slot_now j))

  by_held : (j : ℕ) → get_or hs j 0 ≡ (at p v.slots j).buffered
  by_held j = ap (λ (s : Slot ℕ). s.buffered) (sym (slot_now j))

  -- the verdict as this crate answers it
  says : (u : R.Verdict) → judged p v 0 (end ds) ≡ u → verdict u.number u.place ≡ judged_draws p v ds
  unfolding judged_draws
  says u e = ap (λ (u : R.Verdict). verdict u.number u.place) (sym e)

  pub judged_length : length ds ≢ n → verdict draw_count 0 ≡ judged_draws p v ds
  judged_length h = says _ (end_length p v 0 ds o.phase (λ e. h (e ∙ sym o.streams)))

  -- there are n draws
  module _ (few : n ≤ 256) (count : length ds ≡ n) where
    -- i is the first above its limit
    pub judged_excess : (i : ℕ) → FirstAbove (λ j. kind_limit m (get_or ks j 0)) ds i → verdict draw_above_limit i ≡ judged_draws p v ds
    judged_excess i excess =
        let f = first_same _ _ by_kind ds i excess in
        let e = draw_excess p v.slots ds m i (omega (arith, f.inside, long)) f.below f.above in
        says _ (end_excess p v 0 ds i o.phase (count ∙ o.streams) (rw o.most at e))

    -- none is
    module _ (none : NoneAbove (λ j. kind_limit m (get_or ks j 0)) ds (length ds)) where
      allowed : all_from (draw_allowed p (most_drawn p v.slots) ds) 0 v.slots ≡ true
      allowed = rw o.most at (draws_allowed p v.slots ds m (none_same _ _ by_kind ds (length ds) none))

      -- k is the first above what its slot holds
      pub judged_overdrawn : (k : ℕ) → FirstAbove (λ j. get_or hs j 0) ds k → verdict draw_above_held k ≡ judged_draws p v ds
      judged_overdrawn k overdrawn =
          let h = first_same _ _ by_held ds k overdrawn in
          says _ (end_overdrawn p v 0 ds k o.phase (count ∙ o.streams) allowed
          (draw_overdrawn p v.slots ds m k (omega (arith, h.inside, long)) h.below h.above))

      pub judged_accepted : NoneAbove (λ j. get_or hs j 0) ds (length ds) → verdict 0 0 ≡ judged_draws p v ds
      judged_accepted held =
          says _ (end_accepted p v 0 ds o.phase (count ∙ o.streams) allowed
          (draws_held p v.slots ds m (none_same _ _ by_held ds (length ds) held)))
