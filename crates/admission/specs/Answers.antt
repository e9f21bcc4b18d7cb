-- The answers of an opening and of a move, a law for each way that their code can take: the rows of 01's table, then what an accepted call makes.
-- Assumes nothing.
use Prim.Native.Nat.{ℕ, ◌+◌, ◌≤◌, ◌<◌}
use Rattle.std.specs.Prelude.{◌≡◌, ◌≢◌, Bool, cond, List, length, get_or, take, ltb, eqb}
use Rattle.std.proofs.Math.Path.{refl, sym, ap}
use Rattle.std.proofs.Common.{◌∙◌}
use Rattle.std.proofs.Math.Logic.{by_cases}
use Rattle.std.proofs.Math.Bool.{true, false}
use native.Mathlib.Omega.{arith}
use Rattle.std.proofs.Math.Decide.{dec_lt, ℕ_discrete}
use Rattle.std.proofs.Math.ListN.{set, length-set}
use borrow.Author.Tests.{lt-ltb, le-ltb, eq-eqb, ne_eqb}
use Rattle.laws.specs.Bools.{and_right}
use Rattle.numbers.specs.Limits.{max_blocks, name_step, max_streams}
use Rattle.numbers.specs.Refusals.{not_sound, wrong_phase, no_such_slot, slot_state, no_such_block, no_such_film}
use Rattle.numbers.specs.Slots.{free, waiting, between}
use Rattle.card.specs.declared.Verdict.{Verdict}
use Rattle.card.specs.Card.{length_in}
use Rattle.legality.specs.Legality as legality
use Rattle.pacing.specs.Shelf.{name_of, film_in, block_in, film_of_name, block_of_name}
use Rattle.plan.specs.declared.Plan.{Plan}
use Rattle.plan.proofs.Check.{checked_legal}
use Rattle.plan.specs.Answer.{is_plan}
use Rattle.rules.specs.Scheduler.{Call, join, leave, joined, left}
use Rattle.rules.specs.Order.{waiting_count, by_place}
use Rattle.turns.specs.ArrayLaws.{slots_set}
use Rattle.turns.specs.Facts.{Sound, sound_says}
use Rattle.turns.specs.Places.{places_say}
use Rattle.rules.specs.Refusals as refusals
use Rattle.rules.specs.Calls as calls
use Rattle.turns.specs.Answers.{answer_accepted, answer_refused}
use Rattle.turns.specs.Rows.{refuse, join_phase, join_slot_law, join_occupied, join_fault_law, join_accepted, leave_phase, leave_slot_law, leave_free, leave_accepted}
use Rattle.desk.specs.declared.Desk.{Desk}
use Rattle.desk.specs.declared.Answer.{Answer}
use Rattle.desk.specs.Desk.{supply_of, rules_of, order_of, slots_in, view_of, desk_of, fresh_desk, blank_desk, verdict, open_desk, answer_of, answered}
use Rattle.desk.specs.View.{Wide, same_length, desk_of_view}
use Rattle.desk.specs.Slots.{kind_in}
use Rattle.desk.specs.Promise.{supply_named}
use Rattle.desk.specs.Asked.{asked_count, asked_slots, asked_first}
use Rattle.desk.specs.Records.{answers, with_slot}
use Rattle.soundness.specs.Facts.{sound_desk}
use Rattle.soundness.specs.Ready.{plan_streams, sound_plan}
use Rattle.admission.specs.declared.Move.{Move}
use Rattle.admission.specs.Moves.{name_for, call_of, move_desk, kind_after, next_after, state_verdict, state_clear, state_named}
use Rattle.admission.specs.Places.{place_after, places_with, places_after, Placeless, Nameable, Movable, with_unplaced, with_left, with_length}
use Rattle.admission.specs.Refused.{refused_desk}

-- ---- open

pub open_unfit : (p : Plan) (ps ls : List ℕ) → is_plan p ps ls ≡ false → answers blank_desk not_sound 0 ≡ open_desk p ps ls
unfolding open_desk
open_unfit p ps ls e = rw e

pub open_done : (p : Plan) (ps ls : List ℕ) → is_plan p ps ls ≡ true → answers (fresh_desk p) 0 0 ≡ open_desk p ps ls
unfolding open_desk
open_done p ps ls e = rw e

-- ---- join and leave

module _ (d : Desk) (w : Wide d) (ps ls : List ℕ) where
  abbrev judges : Call ℕ → refusals.Verdict
  judges c = refusals.verdict (supply_of d.plan) (order_of d.plan) (view_of d) (is_plan d.plan ps ls) 0 c

  -- a refused call answers the desk it was given
  refused_is : (c : Call ℕ) (k i : ℕ) → 0 < k → judges c ≡ refuse k i → answered d (answer_of d ps ls 0 c) ≡ answers d k i
  unfolding answered answer_of calls.refusals
  refused_is c k i h e =
      let p = supply_of d.plan in
      ap (answered d) (answer_refused p (order_of d.plan) (rules_of d.plan) (view_of d)
      (record { call = c; fair = is_plan d.plan ps ls; room = 0 }) k i h e)
      ∙ λ t. record { verdict = verdict k i; desk = desk_of_view d w t }

  -- the record with a slot set, and its view
  set_wide : (i k x : ℕ) (qs : List ℕ) → length qs ≡ max_streams → Wide (with_slot d i k x qs)
  unfolding with_slot
  set_wide i k x qs l = record {
    kinds = length-set d.kinds i k ∙ w.kinds;
    next = length-set d.next i x ∙ w.next;
    held = length-set d.held i 0 ∙ w.held;
    places = l;
  }

  set_slots : (i k x : ℕ) {qs rs : List ℕ} → qs ≡ rs → length qs ≡ max_streams → d.phase ≡ between
      → desk_of d.plan (record { phase = between; slots = set (slots_in d) i (record { kind = k; next = x; buffered = 0 }); queue = rs })
      ≡ with_slot d i k x qs
  unfolding with_slot view_of
  set_slots i k x {qs} q l e =
      let p = supply_of d.plan in
      (λ t. desk_of d.plan
      (record { phase = sym e t; slots = sym (slots_set p d.kinds d.next d.held (same_length d w) i k x 0) t; queue = sym q t }))
      ∙ desk_of_view (with_slot d i k x qs) (set_wide i k x qs l)

  -- ---- 14

  unsound_row : (c : Call ℕ) → sound_desk d ps ls ≡ false → judges c ≡ refuse not_sound 0
  unfolding refusals.verdict
  unsound_row c e = rw e

  sound_row : (c : Call ℕ) → sound_desk d ps ls ≡ true → judges c ≡ refusals.judged (supply_of d.plan) (view_of d) 0 c
  unfolding refusals.verdict
  sound_row c e = rw e

  -- the answer to an accepted call
  accepted_is : (c : Call ℕ) → sound_desk d ps ls ≡ true → refusals.judged (supply_of d.plan) (view_of d) 0 c ≡ refusals.accept
      → answer_of d ps ls 0 c ≡ calls.accepted (supply_of d.plan) (order_of d.plan) (view_of d) c
  unfolding answer_of calls.refusals
  accepted_is c s e =
      let p = supply_of d.plan in
      let v : judges c ≡ refusals.accept = sound_row c s ∙ e in
      answer_accepted p (order_of d.plan) (rules_of d.plan) (view_of d) (record { call = c; fair = is_plan d.plan ps ls; room = 0 })
      (ap (λ (u : refusals.Verdict). u.number) v)

  -- ---- a move

  module _ (m : Move) where
    abbrev judged : refusals.Verdict
    judged = refusals.judged (supply_of d.plan) (view_of d) 0 (call_of m)

    -- turned down by a row of the table
    row_refused : (k i : ℕ) → 0 < k → sound_desk d ps ls ≡ true → judged ≡ refuse k i → answers d k i ≡ move_desk d ps ls m
    unfolding move_desk
    row_refused k i h s e = sym (refused_is (call_of m) k i h (sound_row (call_of m) s ∙ e))

    pub move_unsound : sound_desk d ps ls ≡ false → answers d not_sound 0 ≡ move_desk d ps ls m
    unfolding move_desk
    move_unsound e = sym (refused_is (call_of m) not_sound 0 (omega arith) (unsound_row (call_of m) e))

    module _ (s : sound_desk d ps ls ≡ true) where
      pub move_in_sweep : d.phase ≢ between → answers d wrong_phase 0 ≡ move_desk d ps ls m
      unfolding view_of
      move_in_sweep h = row_refused wrong_phase 0 (omega arith) s (go m.joins)
        where
          go : (t : Bool) → refusals.judged (supply_of d.plan) (view_of d) 0 (cond t (join m.slot (name_for m)) (leave m.slot)) ≡ refuse wrong_phase 0
          go true = join_phase (supply_of d.plan) (view_of d) 0 m.slot (name_for m) h
          go false = leave_phase (supply_of d.plan) (view_of d) 0 m.slot h

      module _ (h : d.phase ≡ between) where
        pub move_no_slot : d.plan.streams ≤ m.slot → answers d no_such_slot m.slot ≡ move_desk d ps ls m
        unfolding view_of supply_of
        move_no_slot l = row_refused no_such_slot m.slot (omega arith) s (go m.joins)
          where
            go : (t : Bool) → refusals.judged (supply_of d.plan) (view_of d) 0
                (cond t (join m.slot (name_for m)) (leave m.slot)) ≡ refuse no_such_slot m.slot
            go true = join_slot_law (supply_of d.plan) (view_of d) 0 m.slot (name_for m) h l
            go false = leave_slot_law (supply_of d.plan) (view_of d) 0 m.slot h l

  -- ---- the places of a sound record

  module _ (s : sound_desk d ps ls ≡ true) where
    is_sound : Sound (supply_of d.plan) (order_of d.plan) (view_of d)
    is_sound = let p = d.plan in sound_says (supply_of p) (supply_named p) (order_of p) (view_of d) (and_right (is_plan p ps ls) _ s)

    -- who does not ask has none
    unplaced : (i : ℕ) → get_or d.kinds i 0 ≢ waiting → get_or d.places i 0 ≡ 0
    unfolding view_of by_place
    unplaced i n = (places_say (supply_of d.plan) (slots_in d) d.places is_sound.queue).idle i (λ e. n (sym (kind_in d w i) ∙ e))

    rest_unplaced : Placeless d.plan.streams d.places
    unfolding view_of supply_of
    rest_unplaced j l = unplaced j (λ e. omega (arith, kind_in d w j, is_sound.unused j l))

    pub sound_movable : legality.Wide d.plan.figures → (m : Move) → Nameable m → m.slot < d.plan.streams → Movable d m
    sound_movable z m n l = record { named = n; few = plan_streams d.plan ps ls z (sound_plan d ps ls s); inside = l; rest = rest_unplaced }

    -- how many ask
    sound_count : asked_count (take d.plan.streams d.kinds) ≡ waiting_count (supply_of d.plan) (slots_in d)
    unfolding view_of supply_of
    sound_count =
        let p = supply_of d.plan in
        asked_first p d.plan.streams d.kinds d.next d.held is_sound.unused ∙ sym (asked_slots p d.kinds d.next d.held)

  -- past 14 to 16: 17, 31, 18 or none of them
  module _ (z : legality.Wide d.plan.figures) (s : sound_desk d ps ls ≡ true) (h : d.phase ≡ between) where
    abbrev state : Move → Verdict
    state m = state_verdict (get_or d.kinds m.slot 0) d.plan.figures.films (length_in d.plan.figures m.film) m

    -- the desk that it leaves
    abbrev landed : Move → Desk
    landed m = cond (eqb (state m).number 0) (with_slot d m.slot (kind_after m) (next_after m) (places_after d m)) d

    -- no film has as many blocks as a name has room for
    length_few : (i : ℕ) → i < d.plan.figures.films → length_in d.plan.figures i ≤ max_blocks
    length_few i u = ((checked_legal d.plan ps ls z (sound_plan d ps ls s)).blocks i u).1

    -- a name is refused as its film and block are
    named_fault : (i b : ℕ) → (supply_of d.plan).fault (name_of i b)
        ≡ cond (ltb i d.plan.figures.films) (cond (ltb b (length_in d.plan.figures i)) 0 no_such_block) no_such_film
    unfolding supply_of
    named_fault i b = by_cases (dec_lt i F)
        (λ u. fault_by i (name_of i b) b (film_of_name i b) (within i u))
        (λ u. rw (film_of_name i b, le-ltb i F (omega arith)))
      where
        F : ℕ
        F = d.plan.figures.films

        N : ℕ → ℕ
        N = length_in d.plan.figures

        -- a block past those that a name has room for is past the film's
        within : (i : ℕ) → i < F → ltb (block_in (name_of i b)) (N i) ≡ ltb b (N i)
        within i u = by_cases (dec_lt b name_step)
            (λ l. ap (λ (c : ℕ). ltb c (N i)) (block_of_name i b l))
            (λ l. le-ltb (block_in (name_of i b)) (N i) (omega (arith, length_few i u)) ∙ sym (le-ltb b (N i) (omega (arith, length_few i u))))

        fault_by : (i t b : ℕ) → film_in t ≡ i → ltb (block_in t) (N i) ≡ ltb b (N i)
            → cond (ltb (film_in t) F) (cond (ltb (block_in t) (N (film_in t))) 0 no_such_block) no_such_film
            ≡ cond (ltb i F) (cond (ltb b (N i)) 0 no_such_block) no_such_film
        fault_by i t b e q = rw (e, q)

    module _ (slot block film : ℕ) (l : slot < d.plan.streams) where
      abbrev joins : Move
      joins = record { joins = true; slot = slot; block = block; film = film }

      abbrev leaves : Move
      leaves = record { joins = false; slot = slot; block = block; film = film }

      join_taken : get_or d.kinds slot 0 ≢ free → answers d slot_state slot ≡ move_desk d ps ls joins
      unfolding view_of supply_of
      join_taken k =
          row_refused joins slot_state slot (omega arith) s
          (join_occupied (supply_of d.plan) (view_of d) 0 slot (name_of film block) h l (λ e. k (sym (kind_in d w slot) ∙ e)))

      -- refused by its name
      join_faulty : (n : ℕ) → 0 < n → get_or d.kinds slot 0 ≡ free → (supply_of d.plan).fault (name_of film block) ≡ n → answers d n slot ≡ move_desk d ps ls joins
      unfolding view_of supply_of
      join_faulty n some k f =
          row_refused joins n slot some s
          (join_fault_law (supply_of d.plan) (view_of d) 0 slot (name_of film block) h l (kind_in d w slot ∙ k) (λ z. omega (arith, f))
          ∙ ap (λ (n : ℕ). refuse n slot) f)

      join_no_film : get_or d.kinds slot 0 ≡ free → d.plan.figures.films ≤ film → answers d no_such_film slot ≡ move_desk d ps ls joins
      join_no_film k u = join_faulty no_such_film (omega arith) k (named_fault film block ∙ rw (le-ltb film _ u) refl)

      module _ (u : film < d.plan.figures.films) where
        join_past_end : get_or d.kinds slot 0 ≡ free → length_in d.plan.figures film ≤ block → answers d no_such_block slot ≡ move_desk d ps ls joins
        join_past_end k b = join_faulty no_such_block (omega arith) k (named_fault film block ∙ rw (lt-ltb film _ u, le-ltb block _ b) refl)

        join_done : get_or d.kinds slot 0 ≡ free → block < length_in d.plan.figures film
            → answers (with_slot d slot waiting (name_of film block) (places_after d joins)) 0 0 ≡ move_desk d ps ls joins
        unfolding move_desk view_of supply_of answered calls.accepted joined by_place place_after
        join_done k b =
            let p = supply_of d.plan in
            let f : p.fault (name_of film block) ≡ 0 = named_fault film block ∙ rw (lt-ltb film _ u, lt-ltb block _ b) refl in
            sym (ap (answered d) (accepted_is (join slot (name_of film block)) s (join_accepted p (view_of d) 0 slot (name_of film block) h l (kind_in d w slot ∙ k) f))
            ∙ λ t. record { verdict = verdict 0 0; desk = set_slots slot waiting (name_of film block) placed (with_length d.places slot _ ∙ w.places) h t })
          where
            placed : places_with d.places slot (asked_count (take d.plan.streams d.kinds) + 1)
                ≡ set d.places slot (waiting_count (supply_of d.plan) (slots_in d) + 1)
            placed =
                with_unplaced d.places slot _ (unplaced s slot (λ e. omega arith))
                ∙ ap (λ (n : ℕ). set d.places slot (n + 1)) (sound_count s)

      leave_vacant : get_or d.kinds slot 0 ≡ free → answers d slot_state slot ≡ move_desk d ps ls leaves
      unfolding view_of supply_of
      leave_vacant k = row_refused leaves slot_state slot (omega arith) s (leave_free (supply_of d.plan) (view_of d) 0 slot h l (kind_in d w slot ∙ k))

      leave_done : get_or d.kinds slot 0 ≢ free → answers (with_slot d slot free 0 (places_after d leaves)) 0 0 ≡ move_desk d ps ls leaves
      unfolding move_desk view_of supply_of answered calls.accepted left by_place place_after
      leave_done k =
          let p = supply_of d.plan in
          sym (ap (answered d) (accepted_is (leave slot) s (leave_accepted p (view_of d) 0 slot h l (λ e. k (sym (kind_in d w slot) ∙ e))))
          ∙ λ t. record { verdict = verdict 0 0; desk = set_slots slot free 0 (with_left d.places slot) (with_length d.places slot 0 ∙ w.places) h t })

      state_is : (t : Bool) → (let m : Move = record { joins = t; slot = slot; block = block; film = film } in
          answers (landed m) (state m).number (state m).place ≡ move_desk d ps ls m)
      unfolding state_verdict kind_after next_after
      state_is true =
          by_cases (ℕ_discrete (get_or d.kinds slot 0) free)
          (λ k. by_cases (dec_lt film d.plan.figures.films)
          (λ u. by_cases (dec_lt block (length_in d.plan.figures film))
          (λ b. rw (eq-eqb _ free k, lt-ltb film _ u, lt-ltb block _ b) (join_done u k b))
          (λ b. let past : length_in d.plan.figures film ≤ block = omega arith in
          rw (eq-eqb _ free k, lt-ltb film _ u, le-ltb block _ past) (join_past_end u k past)))
          (λ u. let none : d.plan.figures.films ≤ film = omega arith in rw (eq-eqb _ free k, le-ltb film _ none) (join_no_film k none)))
          (λ k. rw (ne_eqb _ free k) (join_taken k))
      state_is false =
          by_cases (ℕ_discrete (get_or d.kinds slot 0) free)
          (λ k. rw (eq-eqb _ free k) (leave_vacant k))
          (λ k. rw (ne_eqb _ free k) (leave_done k))

    pub move_state : (m : Move) → m.slot < d.plan.streams → answers (landed m) (state m).number (state m).place ≡ move_desk d ps ls m
    move_state m l = state_is m.slot m.block m.film l m.joins

  -- ---- by the answer's number

  module _ (m : Move) where
    pub move_refused : ((move_desk d ps ls m).verdict.number ≡ 0 → ⊥) → (move_desk d ps ls m).desk ≡ d
    unfolding move_desk answered
    move_refused n = refused_desk d ps ls 0 (call_of m) w n

    pub move_made : legality.Wide d.plan.figures → (move_desk d ps ls m).verdict.number ≡ 0
        → (sound_desk d ps ls ≡ true) × (m.slot < d.plan.streams)
        × (answers (with_slot d m.slot (kind_after m) (next_after m) (places_after d m)) 0 0 ≡ move_desk d ps ls m) × Nameable m
    move_made y z = go (sound_desk d ps ls) refl
      where
        Made : Type 0
        Made = (sound_desk d ps ls ≡ true) × (m.slot < d.plan.streams)
            × (answers (with_slot d m.slot (kind_after m) (next_after m) (places_after d m)) 0 0 ≡ move_desk d ps ls m) × Nameable m

        -- no row refuses it
        not : (k i : ℕ) → 0 < k → answers d k i ≡ move_desk d ps ls m → Made
        not k i h e = absurd (omega (arith, ap (λ (a : Answer). a.verdict.number) e))

        made : (s : sound_desk d ps ls ≡ true) (h : d.phase ≡ between) → m.slot < d.plan.streams → Made
        made s h l =
            let f = d.plan.figures in
            let k = get_or d.kinds m.slot 0 in
            let e = move_state y s h m l in
            let n : (state y s h m).number ≡ 0 = ap (λ (a : Answer). a.verdict.number) e ∙ z in
            let ok = checked_legal d.plan ps ls y (sound_plan d ps ls s) in (
              s,
              l,
              rw (n, state_clear k f.films (length_in f m.film) m n) at e,
              λ j. let u = state_named k f.films (length_in f m.film) m n j in
                  (omega (arith, u.0, ok.films), omega (arith, u.1, ok.blocks m.film u.0)),
            )

        go : (t : Bool) → sound_desk d ps ls ≡ t → Made
        go false s = not not_sound 0 (omega arith) (move_unsound m s)
        go true s =
            by_cases (ℕ_discrete d.phase between)
            (λ h. by_cases (dec_lt m.slot d.plan.streams) (λ l. made s h l)
            (λ l. not no_such_slot m.slot (omega arith) (move_no_slot m s h (omega arith))))
            (λ h. not wrong_phase 0 (omega arith) (move_in_sweep m s h))
