-- A begin and an end on a desk string D.
-- Assumes nothing.
use Prim.Native.Nat.{ℕ, ◌≤◌}
use mathlib.Core.Path.{◌≡◌, refl, sym, ap, ◌∙◌}
use mathlib.Core.Logic.{◌≢◌}
use mathlib.Core.List.{List}
use native.Mathlib.Omega.{arith}
use lib.ListN.{length}
use borrow.Author.Tests.{eq-eqb, ne_eqb}
use Rattle.numbers.specs.Refusals.{not_sound}
use Rattle.numbers.specs.Slots.{between, sweeping}
use Rattle.words.specs.Words.{words_of, with_words}
use Rattle.words.specs.Laws.{with_words_none}
use Rattle.desk.specs.declared.Desk.{Desk}
use Rattle.desk.specs.declared.Answer.{Answer}
use Rattle.desk.specs.declared.Begun.{Begun}
use Rattle.rules.specs.Scheduler as S
use Rattle.desk.specs.Desk.{supply_of, slots_in, begin_desk, fetches_of, entries_of, fetch_list_after, end_desk}
use Rattle.desk.specs.Records.{record_of, not_begun}
use Rattle.desk.specs.View.{Wide}
use Rattle.desk.specs.Slots.{with_slots}
use Rattle.legality.specs.Legality as legality
use Rattle.ends.specs.Ends.{Ends}
use Rattle.sweep.specs.declared.Swept.{Swept}
use Rattle.sweep.specs.Steps.{swept_of, begun_of}
use Rattle.sweep.specs.Ended.{ended_is}
use Rattle.scheduler.specs.Count.{begin_few}
use Rattle.scheduler.specs.Ways.{begin_refused, begin_swept, HasEnded, end_turned_down, end_accepted}
use Rattle.layout.specs.declared.FilmdiskAnswer.{FilmdiskAnswer}
use Rattle.layout.specs.Answers.{verdict_answer}
use Rattle.desk_layout.specs.Layout.{desk_words, desk_in, desk_size, with_kinds, with_places}
use Rattle.entry_layout.specs.Entries.{rows, rows_of}
use Rattle.desk_layout.specs.RoundTrip.{DeskSized}
use Rattle.card.specs.declared.Verdict.{Verdict}
use Rattle.desk_calls.specs.Calls.{refused_by, said, room_in, begun_answer, begin_answer, begin_string, fetch_string, end_answer, end_string}
use Rattle.desk_calls.specs.Inner.{FetchesFit, swept_answer}
use Rattle.desk_calls.specs.ByLength.{said_sized, right_answer}
use Rattle.desk_calls.specs.Judged.{wide_of, slim_of, other_call, Judged, judged_said, said_number, judged_answer, written_string, refused_string}

-- ---- begin, with the fetch string F

-- the desk and the verdict that it answers
abbrev pub begun_by : List ℕ → List ℕ → ℕ → Desk → Answer
begun_by ps ls room d = record { verdict = (begin_desk d ps ls room).verdict; desk = (begin_desk d ps ls room).desk }

-- a refused one answers the desk it was given, no count, no bound and no entries
module _ (ps ls : List ℕ) (room : ℕ) (d : Desk) (z : DeskSized d) (n : (begin_desk d ps ls room).verdict.number ≢ 0) where
  refused_begun : not_begun d (begin_desk d ps ls room).verdict.number ≡ begin_desk d ps ls room
  refused_begun = begin_refused d (wide_of d z) (slim_of d z) ps ls room n

  refused_answer : verdict_answer (begin_desk d ps ls room).verdict ≡ begun_answer (begin_desk d ps ls room)
  unfolding not_begun begun_answer verdict_answer fetches_of
  refused_answer = ap (λ (b : Begun). verdict_answer b.verdict) (sym refused_begun) ∙ ap begun_answer refused_begun

  refused_desk : (begin_desk d ps ls room).desk ≡ d
  unfolding not_begun
  refused_desk = ap (λ (b : Begun). b.desk) (sym refused_begun)

  refused_list : (F : List ℕ) → F ≡ fetch_list_after d ps ls room F
  unfolding begin_desk fetch_list_after not_begun fetches_of rows
  refused_list F =
      sym (with_words_none F 0)
      ∙ ap (λ (b : Begun). with_words F 0 (rows 0 b.fetches.count b.fetches)) refused_begun
      ∙ ap (with_words F 0) (rows_of (entries_of d ps ls room))

module _ (ps ls D F : List ℕ) where
  right_list : length D ≡ desk_size → fetch_list_after (said D) ps ls (room_in F) F ≡ fetch_string D ps ls F
  unfolding fetch_string
  right_list l = rw (eq-eqb (length D) desk_size l)

  pub begin_other : (length D ≡ desk_size → ⊥) → (r : FilmdiskAnswer) → r ≡ refused_by not_sound
      → (r ≡ begin_answer D ps ls F) × (D ≡ begin_string D ps ls F) × (F ≡ fetch_string D ps ls F)
  unfolding begin_answer begin_string fetch_string
  begin_other o r e = let c = other_call D _ _ r o e in (c.0, c.1, rw (ne_eqb (length D) desk_size o))

  -- s is what was judged of the desk in D
  module _ (s : Swept) (h : Judged (begun_by ps ls (room_in F)) D s.verdict) (e : s ≡ swept_of (begin_desk (desk_in (words_of D)) ps ls (room_in F))) where
    abbrev room : ℕ
    room = room_in F

    sized : DeskSized (said D)
    sized = said_sized D h.right

    pub begin_left : s.verdict.number ≢ 0 → (r : FilmdiskAnswer) → r ≡ verdict_answer s.verdict
        → (r ≡ begin_answer D ps ls F) × (D ≡ begin_string D ps ls F) × (F ≡ fetch_string D ps ls F)
    unfolding begin_answer begin_string
    begin_left n r q =
        let m : (begin_desk (said D) ps ls room).verdict.number ≢ 0 = λ z. n (sym (said_number _ D _ h) ∙ z) in (
          q ∙ ap verdict_answer (judged_said _ D _ h) ∙ refused_answer ps ls room (said D) sized m ∙ sym (right_answer D h.right _),
          refused_string _ D _ h (refused_desk ps ls room (said D) sized m),
          refused_list ps ls room (said D) sized m F ∙ right_list h.right,
        )

    swept_said : s ≡ swept_of (begin_desk (said D) ps ls room)
    unfolding said
    swept_said = e

    -- accepted
    pub begin_room : FetchesFit s.fetches.count F × (desk_size ≤ length D)
    unfolding swept_of room_in
    begin_room =
        let few = begin_few (said D) (wide_of (said D) sized) (slim_of (said D) sized) ps ls room in
        omega (arith, few, ap (λ (x : Swept). x.fetches.count) swept_said, h.right)

    module _ (n : s.verdict.number ≡ 0) where
      begun_said : begun_of (said D) s ≡ begin_desk (said D) ps ls room
      begun_said =
          ap (begun_of (said D)) swept_said ∙ begin_swept (said D) (wide_of (said D) sized) (slim_of (said D) sized) ps ls room (said_number _ D _ h ∙ n)

      pub begin_put : (r : FilmdiskAnswer) (t u : List ℕ)
          → (r ≡ swept_answer s) × (t ≡ with_words D 0 (desk_words (with_places (with_kinds (desk_in (words_of D)) sweeping s.kinds) s.places)))
          × (u ≡ with_words F 0 (rows 0 s.fetches.count s.fetches))
          → (r ≡ begin_answer D ps ls F) × (t ≡ begin_string D ps ls F) × (u ≡ fetch_string D ps ls F)
      unfolding begin_answer begin_string begun_answer begun_of said swept_of begin_desk fetch_list_after
      begin_put r t u (p, q, w) = (
        p ∙ ap begun_answer begun_said ∙ sym (right_answer D h.right _),
        written_string _ D _ h t (q ∙ ap (λ (b : Begun). with_words D 0 (desk_words b.desk)) begun_said),
        w
            ∙ ap (λ (x : Swept). with_words F 0 (rows 0 x.fetches.count x.fetches)) swept_said
            ∙ ap (with_words F 0) (rows_of (entries_of (said D) ps ls room))
            ∙ right_list h.right,
      )

-- ---- end

module _ (ps ls draws D : List ℕ) (v : Verdict) (h : Judged (λ (x : Desk). end_desk x ps ls draws) D v) where
  wide : Wide (said D)
  wide = wide_of (said D) (said_sized D h.right)

  slim : legality.Wide (said D).plan.figures
  slim = slim_of (said D) (said_sized D h.right)

  pub end_left : v.number ≢ 0 → (r : FilmdiskAnswer) → r ≡ verdict_answer v → (r ≡ end_answer D ps ls draws) × (D ≡ end_string D ps ls draws)
  unfolding end_answer end_string
  end_left n r q = (
    q ∙ judged_answer _ D v h,
    refused_string _ D v h (ap (λ (a : Answer). a.desk) (sym (end_turned_down (said D) wide slim ps ls draws (λ z. n (sym (said_number _ D v h) ∙ z))))),
  )

  -- accepted
  module _ (n : v.number ≡ 0) where
    ended : HasEnded (said D) wide slim ps ls draws
    ended = end_accepted (said D) wide slim ps ls draws (said_number _ D v h ∙ n)

    pub end_told : (let d = desk_in (words_of D) in Ends d d.kinds d.next d.held (words_of draws))
    unfolding said
    end_told = record { kinds = refl; next = refl; held = refl; wide = wide; ready = ended.ready; drawn = ended.drawn }

    pub end_put : (r : FilmdiskAnswer) (t ks xs hs : List ℕ) → r ≡ verdict_answer v
        → (let d = desk_in (words_of D) in
        record_of d.plan d.phase ks xs hs d.places ≡ with_slots d (S.ended (supply_of d.plan) (slots_in d) (words_of draws)))
        → (let d = desk_in (words_of D) in t ≡ with_words D 0 (desk_words (record_of d.plan between ks xs hs d.places)))
        → (r ≡ end_answer D ps ls draws) × (t ≡ end_string D ps ls draws)
    unfolding end_answer end_string said
    end_put r t ks xs hs q e w = (
      q ∙ judged_answer _ D v h,
      written_string _ D v h t
          (w ∙ ap (λ (y : Desk). with_words D 0 (desk_words y))
          (ended_is (desk_in (words_of D)) (words_of draws) _ e ∙ ap (λ (a : Answer). a.desk) ended.answer)),
    )
