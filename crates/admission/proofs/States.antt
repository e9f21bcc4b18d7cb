-- 17, 31 and 18 by the ways that the code takes: a slot of kind k, F films, a film of N blocks, a move m.
-- Assumes nothing.
use Prim.Native.Nat.{ℕ, ◌+◌, ◌*◌, ◌≤◌, ◌<◌}
use mathlib.Core.Path.{◌≡◌}
use mathlib.Core.Logic.{◌≢◌}
use mathlib.Core.Bool.{true, false}
use borrow.Author.Tests.{lt-ltb, le-ltb, eq-eqb, ne_eqb}
use native.Mathlib.Omega.{arith}
use Rattle.numbers.specs.Limits.{name_step}
use Rattle.numbers.specs.Refusals.{slot_state, no_such_block, no_such_film}
use Rattle.numbers.specs.Slots.{free, waiting}
use Rattle.desk.specs.Desk.{verdict}
use Rattle.admission.specs.declared.Move.{Move}
use Rattle.admission.specs.Moves.{kind_after, next_after, state_verdict}

module _ (k F N : ℕ) (m : Move) where
  module _ (e : m.joins ≡ true) where
    pub joins_taken : k ≢ free → verdict slot_state m.slot ≡ state_verdict k F N m
    unfolding state_verdict
    joins_taken h = rw (e, ne_eqb k free h)

    pub joins_none : k ≡ free → F ≤ m.film → verdict no_such_film m.slot ≡ state_verdict k F N m
    unfolding state_verdict
    joins_none h l = rw (e, eq-eqb k free h, le-ltb m.film F l)

    pub joins_past : k ≡ free → m.film < F → N ≤ m.block → verdict no_such_block m.slot ≡ state_verdict k F N m
    unfolding state_verdict
    joins_past h i l = rw (e, eq-eqb k free h, lt-ltb m.film F i, le-ltb m.block N l)

    pub joins_done : k ≡ free → m.film < F → m.block < N → verdict 0 0 ≡ state_verdict k F N m
    unfolding state_verdict
    joins_done h i l = rw (e, eq-eqb k free h, lt-ltb m.film F i, lt-ltb m.block N l)

  module _ (e : m.joins ≡ false) where
    pub leaves_vacant : k ≡ free → verdict slot_state m.slot ≡ state_verdict k F N m
    unfolding state_verdict
    leaves_vacant h = rw (e, eq-eqb k free h)

    pub leaves_done : k ≢ free → verdict 0 0 ≡ state_verdict k F N m
    unfolding state_verdict
    leaves_done h = rw (e, ne_eqb k free h)

-- what an accepted move gives its slot
module _ (m : Move) where
  pub joins_kind : m.joins ≡ true → waiting ≡ kind_after m
  unfolding kind_after
  joins_kind e = rw e

  pub leaves_kind : m.joins ≡ false → free ≡ kind_after m
  unfolding kind_after
  leaves_kind e = rw e

  pub joins_next : m.joins ≡ true → m.block < name_step → name_step * m.film + m.block ≡ next_after m
  unfolding next_after
  joins_next e u = rw e (omega arith)

  pub leaves_next : m.joins ≡ false → 0 ≡ next_after m
  unfolding next_after
  leaves_next e = rw e
