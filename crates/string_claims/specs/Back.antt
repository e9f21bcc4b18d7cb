-- The desk that an accepted call leaves in its string reads back: it has the sizes of its type, and its numbers have 32 bits.
-- Assumes nothing.
use Prim.Native.Nat.{ℕ, zero, suc, ◌≤◌, ◌<◌}
use Rattle.std.proofs.Math.Path.{◌≡◌, refl, sym, ap}
use Rattle.std.proofs.Common.{◌∙◌, subst, arith, eq-eqb, ne_eqb, ltb-true}
use Rattle.std.specs.Prelude.{Bool, eqb}
use Rattle.std.proofs.Math.Bool.{true, false}
use mathlib.Core.List.{List, [], ◌∷◌, map}
use Rattle.std.proofs.Math.Logic.{by_cases}
use Rattle.std.proofs.Math.Decide.{ℕ_discrete}
use Rattle.std.proofs.Math.ListN.{length}
use Rattle.std.proofs.lemmas.List.{length-map, length-replicate}
use Rattle.numbers.specs.Limits.{max_streams, no_number}
use Rattle.numbers.specs.Refusals.{not_sound}
use Rattle.numbers.specs.Slots.{waiting}
use Rattle.laws.specs.Bools.{bit_le}
use Rattle.laws.specs.Runs.{sum_by}
use Rattle.laws.specs.Each.{Each, each_replicate}
use Rattle.words.specs.Words.{Words, words_of, with_words}
use Rattle.words.specs.Laws.{words_length}
use Rattle.card.specs.Card.{Legal}
use Rattle.legality.specs.Legality.{Wide}
use Rattle.plan.specs.declared.Plan.{Plan}
use Rattle.plan.specs.Plan.{showing_in, plan_of}
use Rattle.plan.specs.Answer.{is_plan}
use Rattle.plan.specs.Names.{block_names}
use Rattle.plan.proofs.Check.{checked, checked_legal}
use Rattle.plan.proofs.Legal.{buffer_small}
use Rattle.pacing.specs.Shelf.{name_of, film_in}
use Rattle.rules.specs.Scheduler.{Slot, Call, join, leave, begin, end}
use Rattle.rules.specs.Order.{Scheduler, waiting_count, by_place}
use Rattle.turns.specs.Facts.{Good, Sound, sound_says}
use Rattle.turns.specs.Places.{Places, places_say}
use Rattle.turns.specs.ArrayLaws.{length_slots}
use Rattle.rules.specs.Calls as C
use Rattle.turns.specs.Answers.{verdict_zero, answer_accepted}
use Rattle.turns.specs.Verdicts.{accepted_was_sound}
use Rattle.safety.specs.Safety.{accepted_length}
use Rattle.safety.specs.Claim as K
use Rattle.desk.specs.declared.Desk.{Desk}
use Rattle.desk.specs.Desk.{visits_in, supply_of, rules_of, order_of, Queue, view_of, desk_of, zeros, fresh_desk, open_by, open_desk, answer_of, answered, join_desk}
use Rattle.desk.specs.Desk.{leave_desk, end_desk, begin_desk}
use Rattle.desk.specs.FilmEnd.{end_says}
use Rattle.desk.specs.Promise.{order_orderly, supply_named}
use Rattle.trace.specs.Opening.{checked_lawful, fair_of}
use Rattle.layout.specs.declared.FilmdiskAnswer.{FilmdiskAnswer}
use Rattle.layout.specs.Answers.{verdict_answer}
use Rattle.fields.specs.Fields.{◌&◌}
use Rattle.fields.specs.FieldLaws.{words_each}
use Rattle.plan_layout.specs.Layout.{plan_words, plan_in, plan_size}
use Rattle.desk_layout.specs.Layout.{desk_words, desk_in, desk_size}
use Rattle.plan_layout.specs.RoundTrip.{PlanSized, plan_sized}
use Rattle.desk_layout.specs.RoundTrip.{DeskSized, desk_fit, desk_written}
use Rattle.plan_layout.specs.Legal.{legal_words}
use Rattle.desk_calls.specs.ByLength.{enough, said_sized, said_wide, right_answer, right_string}
use Rattle.desk_calls.specs.Calls.{opened_from, open_answer, open_string, said, answer_by, string_by, join_answer, join_string, leave_answer, leave_string}
use Rattle.desk_calls.specs.Calls.{end_answer, end_string, room_in, begun_answer, begin_answer, begin_string}
use Rattle.string_claims.specs.Kept.{open_number, open_right, open_other}

-- ---- places

asked_few : (p : Plan) (ss : List (Slot ℕ)) → waiting_count (supply_of p) ss ≤ length ss
unfolding waiting_count sum_by
asked_few p [] = omega arith
asked_few p (s ∷ ss) = omega (arith, bit_le (eqb s.kind waiting), asked_few p ss)

places_in_law : (p : Plan) (s : Scheduler ℕ Queue) → Sound (supply_of p) (order_of p) s → Places (supply_of p) s.slots s.queue
unfolding by_place
places_in_law p s h = places_say (supply_of p) s.slots s.queue h.queue

-- ---- numbers of 32 bits

-- a plan that passes the check
module _ (p : Plan) (ps ls : List ℕ) (w : Wide p.figures) (i : is_plan p ps ls ≡ true) where
  legal : Legal (visits_in p) p.figures
  legal = checked_legal p ps ls w i

  plan_fits : Words (plan_words p)
  plan_fits = subst (λ (q : Plan). Words (plan_words q)) (sym (checked p ps ls i).plan) (legal_words (showing_in p) p.figures legal)

  buffer_fits : p.buffer < no_number
  unfolding plan_of
  buffer_fits = omega (arith, ap (λ (q : Plan). q.buffer) (checked p ps ls i).plan, buffer_small (showing_in p) p.figures legal, legal.bytes)

  -- a good slot
  next_fits : (L : ℕ) (s : Slot ℕ) → Good (supply_of p) L s → s.next < no_number
  unfolding supply_of
  next_fits L s g = by_kind s.kind refl
    where
      -- a film of the shelf is one of 16
      of_film : film_in s.next < p.figures.films → s.next < no_number
      of_film u = omega (arith, u, legal.films)

      block : (1 ≤ s.kind) → s.kind ≤ 3 → s.next < no_number
      block m n = of_film (block_names (showing_in p) p.figures s.next (g.named m n)).0

      by_kind : (k : ℕ) → s.kind ≡ k → s.next < no_number
      by_kind zero e = omega (arith, (g.zeros e).0)
      by_kind (suc k) e = by_cases (ℕ_discrete k 3)
          (λ z. of_film (end_says p s.next (g.past (omega arith))).1)
          (λ z. block (omega arith) (omega (arith, g.kinds)))

  module _ (L : ℕ) where
    kinds_fit : (ss : List (Slot ℕ)) → Each (Good (supply_of p) L) ss → Each (λ v. v < no_number) (map (λ x. x.kind) ss)
    kinds_fit [] h = tt
    kinds_fit (s ∷ ss) h = (omega (arith, h.0.kinds), kinds_fit ss h.1)

    nexts_fit : (ss : List (Slot ℕ)) → Each (Good (supply_of p) L) ss → Each (λ v. v < no_number) (map (λ x. x.next) ss)
    nexts_fit [] h = tt
    nexts_fit (s ∷ ss) h = (next_fits L s h.0, nexts_fit ss h.1)

    helds_fit : (ss : List (Slot ℕ)) → Each (Good (supply_of p) L) ss → Each (λ v. v < no_number) (map (λ x. x.buffered) ss)
    unfolding supply_of
    helds_fit [] h = tt
    helds_fit (s ∷ ss) h = (omega (arith, h.0.fits, buffer_fits), helds_fit ss h.1)

  -- places are at most as many as ask
  places_fit : (s : Scheduler ℕ Queue) → Sound (supply_of p) (order_of p) s → length s.slots ≡ max_streams → Words s.queue
  places_fit s h l i = omega (arith, (places_in_law p s h).low i, asked_few p s.slots, l)

  -- the record of a sound scheduler
  pub sound_fits : (s : Scheduler ℕ Queue) → Sound (supply_of p) (order_of p) s → length s.slots ≡ max_streams → Words (desk_words (desk_of p s))
  unfolding desk_of
  sound_fits s h l = desk_fit (desk_of p s) plan_fits
      (omega (arith, h.phase)
      & words_each (map (λ x. x.kind) s.slots) (kinds_fit _ s.slots h.slots)
      & words_each (map (λ x. x.next) s.slots) (nexts_fit _ s.slots h.slots)
      & words_each (map (λ x. x.buffered) s.slots) (helds_fit _ s.slots h.slots)
      & places_fit s h l
      & tt)

-- ---- sizes

desk_of_sized : (p : Plan) (s : Scheduler ℕ Queue) → PlanSized p → Sound (supply_of p) (order_of p) s → length s.slots ≡ max_streams
    → DeskSized (desk_of p s)
unfolding desk_of
desk_of_sized p s z h l = record {
  plan = z;
  kinds = length-map s.slots (λ x. x.kind) ∙ l;
  next = length-map s.slots (λ x. x.next) ∙ l;
  held = length-map s.slots (λ x. x.buffered) ∙ l;
  places = (places_in_law p s h).long ∙ l;
}

-- ---- an accepted call

module _ (D ps ls : List ℕ) where
  -- the answer a has the number that the rules give, and accepts: the desk string has the right length, and so do the rules
  accepted_right : (room : ℕ) (call : Call ℕ) (a : FilmdiskAnswer) → a.number ≡ (answer_of (said D) ps ls room call).number → (answer_by D a).number ≡ 0
      → (length D ≡ desk_size) × ((answer_of (said D) ps ls room call).number ≡ 0)
  unfolding answer_by verdict_answer
  accepted_right room call a e n = by_cases (ℕ_discrete (length D) desk_size)
      (λ l. (l, sym e ∙ sym (ap (λ (x : FilmdiskAnswer). x.number) (right_answer D l a)) ∙ n))
      (λ o. wrong (rw (ne_eqb (length D) desk_size o) at n))
    where
      wrong : ◌≡◌ {A = ℕ} not_sound 0 → (length D ≡ desk_size) × ((answer_of (said D) ps ls room call).number ≡ 0)
      wrong z = absurd (omega arith)

  module _ (room : ℕ) (call : Call ℕ) (right : length D ≡ desk_size) (zeroed : (answer_of (said D) ps ls room call).number ≡ 0) where
    abbrev d : Desk
    d = said D

    abbrev p : Plan
    p = (said D).plan

    pub wide : Wide p.figures
    wide = let s = said_sized D right in (s.plan.positions, s.plan.times, s.plan.blocks, s.plan.table)

    judged : ((rules_of p).verdict (view_of d) (record { call = call; fair = is_plan p ps ls; room = room })).number ≡ 0
    unfolding answer_of
    judged = verdict_zero (supply_of p) (order_of p) (rules_of p) (view_of d) _ zeroed

    pub fair : is_plan p ps ls ≡ true
    fair = fair_of p (view_of d) (record { call = call; fair = is_plan p ps ls; room = room }) judged

    was_sound : Sound (supply_of p) (order_of p) (view_of d)
    unfolding C.refusals
    was_sound = sound_says (supply_of p) (supply_named p) (order_of p) (view_of d)
        (accepted_was_sound (supply_of p) (supply_named p) (order_of p) (view_of d) (is_plan p ps ls) room call judged)

    pub stays_sound : Sound (supply_of p) (order_of p) (answer_of d ps ls room call).scheduler
    unfolding answer_of
    stays_sound = sound_says (supply_of p) (supply_named p) (order_of p) _
        (K.accepted_stays_sound (supply_of p) (checked_lawful p ps ls wide fair) (supply_named p) (order_of p) (order_orderly p) (view_of d)
        (record { call = call; fair = is_plan p ps ls; room = room }) zeroed)

    slots_long : length (view_of d).slots ≡ max_streams
    unfolding view_of
    slots_long = length_slots (supply_of p) d.kinds d.next d.held ∙ (said_wide D right).kinds

    stays_long : length (answer_of d ps ls room call).scheduler.slots ≡ max_streams
    unfolding answer_of C.refusals
    stays_long =
        ap (λ (x : C.Answer ℕ Queue). length x.scheduler.slots) (answer_accepted (supply_of p) (order_of p) (rules_of p) (view_of d) _ judged)
        ∙ accepted_length (supply_of p) (checked_lawful p ps ls wide fair) (order_of p) (order_orderly p) (view_of d) call was_sound
        ∙ slots_long

    pub call_back : said (string_by D (desk_of p (answer_of d ps ls room call).scheduler)) ≡ desk_of p (answer_of d ps ls room call).scheduler
    call_back =
        let s = (answer_of d ps ls room call).scheduler in
        ap said (right_string D right (desk_of p s))
        ∙ (unfold said in desk_written D (desk_of p s) (desk_of_sized p s (said_sized D right).plan stays_sound stays_long)
        (sound_fits p ps ls wide fair s stays_sound stays_long) (enough D right))

  pub join_back : (slot block film : ℕ) → (join_answer D ps ls slot block film).number ≡ 0 → said (join_string D ps ls slot block film) ≡ (join_desk (said D) ps ls slot block film).desk
  unfolding join_answer join_string join_desk answered verdict_answer
  join_back slot block film n = let (l, z) = accepted_right 0 (join slot (name_of film block)) _ refl n in call_back 0 (join slot (name_of film block)) l z

  pub leave_back : (slot : ℕ) → (leave_answer D ps ls slot).number ≡ 0 → said (leave_string D ps ls slot) ≡ (leave_desk (said D) ps ls slot).desk
  unfolding leave_answer leave_string leave_desk answered verdict_answer
  leave_back slot n = let (l, z) = accepted_right 0 (leave slot) _ refl n in call_back 0 (leave slot) l z

  pub end_back : (draws : List ℕ) → (end_answer D ps ls draws).number ≡ 0 → said (end_string D ps ls draws) ≡ (end_desk (said D) ps ls draws).desk
  unfolding end_answer end_string end_desk answered verdict_answer
  end_back draws n = let (l, z) = accepted_right 0 (end (words_of draws)) _ refl n in call_back 0 (end (words_of draws)) l z

  pub begin_back : (F : List ℕ) → (begin_answer D ps ls F).number ≡ 0 → said (begin_string D ps ls F) ≡ (begin_desk (said D) ps ls (room_in F)).desk
  unfolding begin_answer begin_string begin_desk begun_answer
  begin_back F n = let (l, z) = accepted_right (room_in F) begin _ refl n in call_back (room_in F) begin l z

-- ---- an accepted opening

fresh_sized : (p : Plan) → PlanSized p → DeskSized (fresh_desk p)
unfolding fresh_desk zeros
fresh_sized p z = let l = length-replicate {A = ℕ} max_streams 0 in record { plan = z; kinds = l; next = l; held = l; places = l }

fresh_fits : (p : Plan) → Words (plan_words p) → Words (desk_words (fresh_desk p))
unfolding fresh_desk zeros
fresh_fits p y =
    let z : Words zeros = words_each zeros (each_replicate (λ (v : ℕ). v < no_number) max_streams 0 (omega arith)) in
    desk_fit (fresh_desk p) y (omega arith & z & z & z & z & tt)

pub opened_wide : (P : List ℕ) → length P ≡ plan_size → Wide (plan_in (words_of P)).figures
opened_wide P l = let z = plan_sized (words_of P) (omega (arith, words_length P, l)) in (z.positions, z.times, z.blocks, z.table)

module _ (P ps ls : List ℕ) where
  -- it has a plan string of the right length, and is the plan of its figures
  pub opened_plan : (opened_from P ps ls).verdict.number ≡ 0
      → (length P ≡ plan_size) × (is_plan (plan_in (words_of P)) ps ls ≡ true) × ((opened_from P ps ls).desk ≡ fresh_desk (plan_in (words_of P)))
  unfolding opened_from open_desk
  opened_plan n = by_cases (ℕ_discrete (length P) plan_size)
      (λ l. rw (eq-eqb (length P) plan_size l) (go (is_plan (plan_in (words_of P)) ps ls) l (rw (eq-eqb (length P) plan_size l) at n)))
      (λ o. wrong (rw (ne_eqb (length P) plan_size o) at n))
    where
      go : (t : Bool) → length P ≡ plan_size → (open_by t (plan_in (words_of P))).verdict.number ≡ 0
          → (length P ≡ plan_size) × (t ≡ true) × ((open_by t (plan_in (words_of P))).desk ≡ fresh_desk (plan_in (words_of P)))
      go true l e = (l, refl, refl)
      go false l e = absurd (omega arith)

      wrong : ◌≡◌ {A = ℕ} not_sound 0 → (length P ≡ plan_size) × (is_plan (plan_in (words_of P)) ps ls ≡ true)
          × ((opened_from P ps ls).desk ≡ fresh_desk (plan_in (words_of P)))
      wrong z = absurd (omega arith)

  -- only a desk string of the right length is opened
  pub opened_right : (D : List ℕ) → (open_answer P ps ls D).number ≡ 0 → (length D ≡ desk_size) × ((opened_from P ps ls).verdict.number ≡ 0)
  opened_right D n = by_cases (ℕ_discrete (length D) desk_size) (λ l. (l, sym (open_number P ps ls D l) ∙ n)) (λ o. absurd ((open_other P ps ls D o).1 n))

  pub open_back : (D : List ℕ) → (open_answer P ps ls D).number ≡ 0 → said (open_string P ps ls D) ≡ fresh_desk (plan_in (words_of P))
  unfolding said
  open_back D n =
      let p : Plan = plan_in (words_of P) in
      let l = opened_right D n in
      let t = opened_plan l.1 in
      let z : PlanSized p = plan_sized (words_of P) (omega (arith, words_length P, t.0)) in
      ap (λ (s : List ℕ). desk_in (words_of s)) (open_right P ps ls D l.0 ∙ ap (λ (x : Desk). with_words D 0 (desk_words x)) t.2)
      ∙ desk_written D (fresh_desk p) (fresh_sized p z) (fresh_fits p (plan_fits p ps ls (z.positions, z.times, z.blocks, z.table) t.1)) (enough D l.0)
