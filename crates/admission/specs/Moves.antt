-- A join and a leave told as one, a move: which of the two, its slot, and the film and start block of a join.
-- Assumes nothing.
use Rattle.std.specs.Prelude.{ℕ, ◌<◌, ◌≡◌, refl, Bool, true, false, cond, List, ltb, eqb}
use Rattle.std.proofs.Common.{ap, arith, ltb-true}
use Rattle.numbers.specs.Refusals.{too_short, slot_state, no_such_block, no_such_film}
use Rattle.numbers.specs.Slots.{free, waiting}
use Rattle.card.specs.declared.Verdict.{Verdict}
use Rattle.pacing.specs.Shelf.{name_of}
use Rattle.rules.specs.Scheduler.{Call, join, leave}
use Rattle.desk.specs.declared.Desk.{Desk}
use Rattle.desk.specs.declared.Answer.{Answer}
use Rattle.plan.specs.Scratch.{scratch_short}
use Rattle.desk.specs.Desk.{verdict, answer_of, answered, join_desk, leave_desk}
use Rattle.desk.specs.Records.{answers}
use Rattle.desk.specs.Scratch.{desk_leads, join_scratch, leave_scratch}
use Rattle.admission.specs.declared.Move.{Move}

abbrev pub join_of : ℕ → ℕ → ℕ → Move
join_of slot block film = record { joins = true; slot = slot; block = block; film = film }

abbrev pub leave_of : ℕ → Move
leave_of slot = record { joins = false; slot = slot; block = 0; film = 0 }

-- the name of the block that a join asks for
abbrev pub name_for : Move → ℕ
name_for m = name_of m.film m.block

-- the call
abbrev pub call_of : Move → Call ℕ
call_of m = cond m.joins (join m.slot (name_for m)) (leave m.slot)

-- its answer
unfoldable pub move_desk : Desk → List ℕ → List ℕ → Move → Answer
move_desk d ps ls m = answered d (answer_of d ps ls 0 (call_of m))

pub join_is : (d : Desk) (ps ls : List ℕ) (slot block film : ℕ) → move_desk d ps ls (join_of slot block film) ≡ join_desk d ps ls slot block film
unfolding move_desk join_desk
join_is d ps ls slot block film = refl

pub leave_is : (d : Desk) (ps ls : List ℕ) (slot : ℕ) → move_desk d ps ls (leave_of slot) ≡ leave_desk d ps ls slot
unfolding move_desk leave_desk
leave_is d ps ls slot = refl

-- the same with a scratch s
unfoldable pub move_scratch : Desk → List ℕ → List ℕ → Move → Answer
move_scratch d ps s m = cond (scratch_short s) (answers d too_short 0) (move_desk d ps (desk_leads d) m)

pub join_scratch_is : (d : Desk) (ps s : List ℕ) (slot block film : ℕ) → move_scratch d ps s (join_of slot block film) ≡ join_scratch d ps s slot block film
unfolding move_scratch join_scratch
join_scratch_is d ps s slot block film = ap (cond (scratch_short s) (answers d too_short 0)) (join_is d ps (desk_leads d) slot block film)

pub leave_scratch_is : (d : Desk) (ps s : List ℕ) (slot : ℕ) → move_scratch d ps s (leave_of slot) ≡ leave_scratch d ps s slot
unfolding move_scratch leave_scratch
leave_scratch_is d ps s slot = ap (cond (scratch_short s) (answers d too_short 0)) (leave_is d ps (desk_leads d) slot)

-- the kind that it gives its slot, and the name of its next block
unfoldable pub kind_after : Move → ℕ
kind_after m = cond m.joins waiting free

unfoldable pub next_after : Move → ℕ
next_after m = cond m.joins (name_for m) 0

-- 17, 31 and 18, the slot being of kind k, the shelf having F films and the move's film N blocks
unfoldable pub state_verdict : ℕ → ℕ → ℕ → Move → Verdict
state_verdict k F N m =
    cond m.joins
    (cond (eqb k free)
    (cond (ltb m.film F) (cond (ltb m.block N) (verdict 0 0) (verdict no_such_block m.slot)) (verdict no_such_film m.slot))
    (verdict slot_state m.slot))
    (cond (eqb k free) (verdict slot_state m.slot) (verdict 0 0))

-- none of them has place 0
pub state_clear : (k F N : ℕ) (m : Move) → (state_verdict k F N m).number ≡ 0 → (state_verdict k F N m).place ≡ 0
unfolding state_verdict
state_clear k F N m = go m.joins (eqb k free) (ltb m.film F) (ltb m.block N)
  where
    by : (t f i b : Bool) → Verdict
    by t f i b =
        cond t (cond f (cond i (cond b (verdict 0 0) (verdict no_such_block m.slot)) (verdict no_such_film m.slot)) (verdict slot_state m.slot))
        (cond f (verdict slot_state m.slot) (verdict 0 0))

    go : (t f i b : Bool) → (by t f i b).number ≡ 0 → (by t f i b).place ≡ 0
    go true true true true e = refl
    go true true true false e = absurd (omega arith)
    go true true false b e = absurd (omega arith)
    go true false i b e = absurd (omega arith)
    go false true i b e = absurd (omega arith)
    go false false i b e = refl

-- a join that is not refused names a block of a film
pub state_named : (k F N : ℕ) (m : Move) → (state_verdict k F N m).number ≡ 0 → m.joins ≡ true → (m.film < F) × (m.block < N)
unfolding state_verdict
state_named k F N m e j = go (eqb k free) (ltb m.film F) refl (ltb m.block N) refl (rw j at e)
  where
    go : (f i : Bool) → ltb m.film F ≡ i → (b : Bool) → ltb m.block N ≡ b
        → (cond f (cond i (cond b (verdict 0 0) (verdict no_such_block m.slot)) (verdict no_such_film m.slot)) (verdict slot_state m.slot)).number ≡ 0
        → (m.film < F) × (m.block < N)
    go true true p true q e = (ltb-true m.film F p, ltb-true m.block N q)
    go true true p false q e = absurd (omega arith)
    go true false p b q e = absurd (omega arith)
    go false i p b q e = absurd (omega arith)
