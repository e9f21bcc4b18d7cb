-- The fetch entries that a C caller reads are those of the rules.
-- Assumes nothing.
use Rattle.std.specs.Prelude.{ℕ, zero, suc, ◌+◌, ◌*◌, ◌≤◌, ◌<◌, ◌≡◌, refl, List, [], ◌∷◌, ◌++◌, length, drop}
use Rattle.std.proofs.Math.Path.{sym, ap, subst}
use Rattle.std.proofs.Common.{◌∙◌, arith, mul-le-mul_left, eq-eqb, ltb-true}
use Rattle.std.proofs.Math.Logic.{⊎_elim, by_cases}
use Rattle.std.proofs.Math.Decide.{dec_lt, ℕ_discrete}
use Rattle.std.proofs.Math.ListN.{get_or}
use Rattle.numbers.specs.Limits.{max_streams, no_number}
use Rattle.laws.specs.Each.{Each, each_at, each_by}
use Rattle.words.specs.Words.{Words, words_of, with_words}
use Rattle.laws.specs.Overwrite.{overwrite_front}
use Rattle.words.specs.Laws.{words_with_words}
use Rattle.card.specs.Card.{Legal}
use Rattle.pacing.specs.Streams.{cap_visits}
use Rattle.pacing.specs.Shelf.{film_in, block_in}
use Rattle.plan.specs.declared.Plan.{Plan}
use Rattle.plan.specs.Plan.{showing_in, plan_of}
use Rattle.plan.specs.Names.{Named, block_names}
use Rattle.plan.proofs.Check.{checked, checked_legal}
use Rattle.plan.specs.Legal.{streams_few}
use Rattle.plan.proofs.Legal.{position_below}
use Rattle.rules.specs.Scheduler.{Entry, begin, free_slot, at, leads}
use Rattle.rules.specs.Order.{Scheduler}
use Rattle.turns.specs.Facts.{Good, good_free, Sound}
use Rattle.admission.specs.Refused.{refused_same}
use Rattle.desk.specs.declared.Desk.{Desk}
use Rattle.desk.specs.Desk.{visits_in, supply_of, order_of, Queue, desk_of, answer_of, fetches_of, begin_desk, entries_of, entry_words, fetch_list_after}
use Rattle.desk.specs.Entries.{entries_in, entries_in_law}
use Rattle.trace.specs.Answers.{blank_entry, NeedsBlock, place_of}
use Rattle.trace.proofs.FetchLaws.{begin_fetched}
use Rattle.trace.specs.SlotLaws.{kind_at, next_at_law}
use Rattle.scheduler.specs.Count.{begin_few}
use Rattle.layout.specs.declared.FilmdiskAnswer.{FilmdiskAnswer}
use Rattle.desk_layout.specs.Layout.{desk_size}
use Rattle.desk_calls.specs.ByLength.{said_wide, right_answer}
use Rattle.desk_calls.specs.Calls.{said, room_in, begun_answer, begin_answer, fetch_string}
use Rattle.string_claims.specs.Back.{wide, fair, stays_sound}
use Rattle.string_claims.specs.Lists.{entries_read}

-- ---- what is written is read

pub entry_length : (es : List Entry) → length (entry_words es) ≡ 3 * length es
unfolding entry_words
entry_length [] = refl
entry_length (e ∷ es) = omega (arith, entry_length es)

-- an entry of three numbers of 32 bits
abbrev Fits : Entry → Type 0
Fits e = (e.position < no_number) × (e.slot < no_number) × (e.block < no_number)

entry_words_law : (es : List Entry) → Each Fits es → Words (entry_words es)
unfolding entry_words
entry_words_law [] h i = omega arith
entry_words_law (e ∷ es) h zero = h.0.0
entry_words_law (e ∷ es) h (suc zero) = h.0.1
entry_words_law (e ∷ es) h (suc (suc zero)) = h.0.2
entry_words_law (e ∷ es) h (suc (suc (suc i))) = entry_words_law es h.1 i

-- entries that stand before other words
front_read : (es : List Entry) (ws : List ℕ) → entries_read (length es) (entry_words es ++ ws) ≡ es
unfolding entries_read entry_words
front_read [] ws = refl
front_read (e ∷ es) ws = ap (λ (xs : List Entry). e ∷ xs) (front_read es ws)

read_entries : (es : List Entry) (F : List ℕ) → Each Fits es → 3 * length es ≤ length (words_of F)
    → entries_read (length es) (words_of (with_words F 0 (entry_words es))) ≡ es
read_entries es F f l =
    ap (entries_read (length es)) (words_with_words F 0 (entry_words es) (entry_words_law es f) (omega (arith, entry_length es))
    ∙ overwrite_front (words_of F) (entry_words es))
    ∙ front_read es (drop (length (entry_words es)) (words_of F))

-- ---- the entries of an accepted begin

module _ (D ps ls F : List ℕ) (l : length D ≡ desk_size) where
  abbrev d : Desk
  d = said D

  abbrev es : List Entry
  es = entries_of d ps ls (room_in F)

  module _ (z : (answer_of d ps ls (room_in F) begin).number ≡ 0) where
    abbrev p : Plan
    p = d.plan

    legal : Legal (visits_in p) p.figures
    legal = checked_legal p ps ls (wide D ps ls (room_in F) begin l z) (fair D ps ls (room_in F) begin l z)

    abbrev s : Scheduler ℕ Queue
    s = (answer_of d ps ls (room_in F) begin).scheduler

    sound : Sound (supply_of p) (order_of p) s
    sound = stays_sound D ps ls (room_in F) begin l z

    -- a slot that is fetched for is one of the n, and its next block is one of a film's
    fetched_within : (i : ℕ) → NeedsBlock (desk_of p s) i → (i < p.streams) × Named p.figures (get_or (desk_of p s).next i 0)
    unfolding supply_of
    fetched_within i h =
        let kind = kind_at p s i in
        let reads : (2 ≤ get_or (desk_of p s).kinds i 0) × (get_or (desk_of p s).kinds i 0 ≤ 3) = ⊎_elim (λ e. omega arith) (λ e. omega arith) h.0 in
        let x = at (supply_of p) s.slots i in
        let good = each_at (Good (supply_of p) (leads (supply_of p) s.slots)) s.slots i (free_slot (supply_of p)) sound.slots
        (good_free (supply_of p) _) in (
          by_cases (dec_lt i p.streams) (λ u. u) (λ u. absurd (omega (arith, kind, sound.unused i (omega arith)))),
          subst (Named p.figures) (sym (next_at_law p s i)) (block_names (showing_in p) p.figures x.next (good.named (omega arith) (omega arith))),
        )

    streams_small : p.streams ≤ max_streams
    unfolding plan_of
    streams_small =
        omega (arith, cap_visits (showing_in p) _ (streams_few (showing_in p) p.figures legal), ap (λ (q : Plan). q.streams) (checked p ps ls (fair D ps ls (room_in F) begin l z)).plan)

    fetched_fits : (e : Entry) → NeedsBlock (desk_of p s) e.slot × (e.block ≡ block_in (get_or (desk_of p s).next e.slot 0))
        × ((v : ℕ) × (v < visits_in p) × (e.position ≡ place_of p (get_or (desk_of p s).next e.slot 0) v))
        → Fits e
    fetched_fits e (h, b, (v, u, q)) =
        let a = get_or (desk_of p s).next e.slot 0 in
        let w = fetched_within e.slot h in
        let r = position_below (showing_in p) p.figures legal (film_in a) (visits_in p * block_in a + v) w.1.0
        (omega (arith, mul-le-mul_left (visits_in p) w.1.1)) in
        (omega (arith, legal.total), omega (arith, w.0, streams_small), omega (arith, b))

    entries_fit : Each Fits es
    unfolding begin_desk desk_of
    entries_fit =
        subst (Each Fits) (entries_in_law es)
        (each_by Fits (entries_in (fetches_of es)) blank_entry (λ k u. fetched_fits _ ((begin_fetched d ps ls (room_in F) z).only k u)))

    entries_few : 3 * length es ≤ length (words_of F)
    unfolding begin_desk fetches_of room_in
    entries_few = let few = begin_few d (said_wide D l) (wide D ps ls (room_in F) begin l z) ps ls (room_in F) in omega (arith, few.1)

  -- accepted or refused
  entries_read_law : entries_read (length es) (words_of (with_words F 0 (entry_words es))) ≡ es
  unfolding entries_read
  entries_read_law = by_cases (ℕ_discrete (answer_of d ps ls (room_in F) begin).number 0)
      (λ z. read_entries es F (entries_fit z) (entries_few z))
      (λ n. let e = (refused_same d ps ls (room_in F) begin n).1 in rw e)

  -- WHAT IS READ is what the begin on the record answers
  pub begin_reads : entries_read (begin_answer D ps ls F).count (words_of (fetch_string D ps ls F)) ≡ entries_in (begin_desk d ps ls (room_in F)).fetches
  unfolding begin_answer begin_desk begun_answer fetches_of fetch_string fetch_list_after
  begin_reads =
      let a = right_answer D l (begun_answer (begin_desk d ps ls (room_in F))) in
      rw (eq-eqb (length D) desk_size l) (ap (λ (x : FilmdiskAnswer). entries_read x.count (words_of (with_words F 0 (entry_words es)))) a
      ∙ entries_read_law ∙ sym (entries_in_law es))
