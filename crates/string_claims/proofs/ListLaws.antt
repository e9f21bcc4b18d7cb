-- Laws of what specs/ListLaws defines.
use Rattle.std.specs.Prelude.{ℕ, ◌≡◌, Bool, true, false, length}
use Rattle.std.proofs.Math.Path.{refl, ap}
use Rattle.std.proofs.Common.{sym, ◌∙◌, subst}
use mathlib.Core.List.{List, [], ◌∷◌, map}
use Rattle.std.proofs.Math.Logic.{by_cases}
use Rattle.std.proofs.Math.Decide.{ℕ_discrete}
use Rattle.numbers.specs.Refusals.{too_short}
use Rattle.words.specs.Words.{Bytes, words_of}
use Rattle.words.specs.Laws.{with_words_length, with_words_bytes}
use Rattle.legality.specs.Legality.{Wide}
use Rattle.plan.specs.declared.Plan.{Plan}
use Rattle.plan.specs.Answer.{is_plan}
use Rattle.plan.specs.Scratch.{scratch_short}
use Rattle.pacing.specs.Shelf.{name_of}
use Rattle.rules.specs.Scheduler.{Entry, Call, join, leave, begin, end}
use Rattle.rules.specs.Ledger.{opened_ledger, recorded}
use Rattle.rules.specs.Calls.{is_accepted}
use Rattle.desk.specs.declared.Desk.{Desk}
use Rattle.desk.specs.Desk.{fresh_desk, answer_of, answered, join_desk, leave_desk, end_desk, begin_desk}
use Rattle.trace.specs.List.{Request, joins, leaves, begins, ends, World, Answered, answer_to, called, fair_to, turn, after, opened}
use Rattle.trace.specs.Safe.{Seen, Safe, world_after, on_record}
use Rattle.trace.specs.SafeLists.{seen_as, safe_as, long_answer, short_answer}
use Rattle.trace.proofs.SafeLists.{list_safe}
use Rattle.trace.specs.Opening.{checked_lawful}
use Rattle.trace.specs.Wait.{IsLeast, InTime, InAskingOrder}
use Rattle.trace.proofs.WaitLaws.{in_time_as, checked_in_time}
use Rattle.trace.proofs.AskingLaws.{ordered_as, checked_ordered}
use Rattle.layout.specs.declared.FilmdiskAnswer.{FilmdiskAnswer}
use Rattle.layout.specs.Answers.{verdict_answer}
use Rattle.plan_layout.specs.Layout.{plan_in}
use Rattle.desk_layout.specs.Layout.{desk_words, desk_size}
use Rattle.desk_calls.specs.ByLength.{said_wide, right_answer, right_string}
use Rattle.desk_calls.specs.Calls.{open_answer, opened_from, said, answer_by, string_by, join_answer, join_string, leave_answer, leave_string}
use Rattle.desk_calls.specs.Calls.{end_answer, end_string, room_in, begun_answer, begin_answer, begin_string, refused_by, leads_of_desk}
use Rattle.desk_calls.specs.Calls.{join_scratch_answer, join_scratch_string, leave_scratch_answer, leave_scratch_string, begin_scratch_answer}
use Rattle.desk_calls.specs.Calls.{begin_scratch_string, fetch_scratch_string, end_scratch_answer, end_scratch_string}
use Rattle.admission.specs.Refused.{refused_desk}
use Rattle.string_claims.specs.Kept.{call_kept, open_right}
use Rattle.string_claims.specs.Back.{call_back, opened_right, opened_plan, opened_wide, open_back}
use Rattle.string_claims.specs.EntryLaws.{begin_reads}
use Rattle.string_claims.specs.Lists.{StringRequest, join_slot, leave_slot, begin_sweep, end_sweep, StringCall}
use Rattle.string_claims.specs.Lists.{entries_read, answer_on, string_on, entries_on, Strings, string_turn, strings_from, strings_after, on_string}
use Rattle.string_claims.specs.ListLaws.{left as left_in_specs, lent_of, SameCall as SameCall_in_specs, Same as Same_in_specs, move_same, InStep, room_same, plan as plan_in_specs, first as first_in_specs}

module _ (D : List ℕ) (y : Bytes D) (l : length D ≡ desk_size) where
  abbrev SameCall : (S : List ℕ) (a : FilmdiskAnswer) (es : List Entry) (b : Answered) → Type 0
  SameCall = SameCall_in_specs D y l

  abbrev Same : Bool → List ℕ → List ℕ → StringRequest → Type 0
  Same = Same_in_specs D y l

  module _ (ps ls : List ℕ) (room : ℕ) (call : Call ℕ) where
    abbrev left : Desk
    left = left_in_specs D y l ps ls room call

    -- accepted or refused, the string says the desk that the call answered
    says : said (string_by D left) ≡ left
    says = by_cases (ℕ_discrete (answer_of (said D) ps ls room call).number 0)
        (call_back D ps ls room call l)
        (λ n. ap said (call_kept D ps ls room call y (λ m. n)) ∙ sym (refused_desk (said D) ps ls room call (said_wide D l) n))

  same_by : (d : Desk) (a : FilmdiskAnswer) (es : List Entry) (b : Answered) → said (string_by D d) ≡ b.desk → a.number ≡ b.number → a.bound ≡ b.bound
      → es ≡ b.entries → SameCall (string_by D d) (answer_by D a) es b
  same_by d a es b e n m f = record {
    desk = e;
    number = ap (λ (x : FilmdiskAnswer). x.number) (right_answer D l a) ∙ n;
    bound = ap (λ (x : FilmdiskAnswer). x.bound) (right_answer D l a) ∙ m;
    entries = f;
    bytes = rw (right_string D l d) (with_words_bytes D 0 (desk_words d) y);
    long = ap length (right_string D l d) ∙ with_words_length D 0 (desk_words d) ∙ l;
  }

  same_listed : (ps ls : List ℕ) (r : StringRequest) → Same true ps ls r
  unfolding join_answer leave_answer begin_answer end_answer join_string leave_string begin_string end_string answer_to join_desk leave_desk begin_desk end_desk answered verdict_answer begun_answer
  same_listed ps ls (join_slot slot block film) = same_by _ _ _ _ (says ps ls 0 (join slot (name_of film block))) refl refl refl
  same_listed ps ls (leave_slot slot) = same_by _ _ _ _ (says ps ls 0 (leave slot)) refl refl refl
  same_listed ps ls (begin_sweep F) = same_by _ _ _ _ (says ps ls (room_in F) begin) refl refl (begin_reads D ps ls F l)
  same_listed ps ls (end_sweep draws) = same_by _ _ _ _ (says ps ls 0 (end (words_of draws))) refl refl refl

  -- a scratch that is long enough stands for the film's own leads
  same_long : (ps s : List ℕ) → scratch_short s ≡ false → (r : StringRequest) → Same false ps s r
  unfolding join_scratch_answer leave_scratch_answer begin_scratch_answer end_scratch_answer join_scratch_string leave_scratch_string begin_scratch_string fetch_scratch_string end_scratch_string
  same_long ps s e (join_slot slot block film) = rw (e, ← long_answer (said D) ps s (joins slot block film) e) (same_listed ps (leads_of_desk D) (join_slot slot block film))
  same_long ps s e (leave_slot slot) = rw (e, ← long_answer (said D) ps s (leaves slot) e) (same_listed ps (leads_of_desk D) (leave_slot slot))
  same_long ps s e (begin_sweep F) = rw (e, ← long_answer (said D) ps s (begins (room_in F)) e) (same_listed ps (leads_of_desk D) (begin_sweep F))
  same_long ps s e (end_sweep draws) = rw (e, ← long_answer (said D) ps s (ends draws) e) (same_listed ps (leads_of_desk D) (end_sweep draws))

  -- one that is too short changes nothing
  none : SameCall D (refused_by too_short) [] (record { number = too_short; desk = said D; entries = []; bound = 0 })
  unfolding verdict_answer
  none = record { desk = refl; number = refl; bound = refl; entries = refl; bytes = y; long = l }

  same_short : (ps s : List ℕ) → scratch_short s ≡ true → (r : StringRequest) → Same false ps s r
  unfolding join_scratch_answer leave_scratch_answer begin_scratch_answer end_scratch_answer join_scratch_string leave_scratch_string begin_scratch_string fetch_scratch_string end_scratch_string entries_read verdict_answer
  same_short ps s e (join_slot slot block film) = rw (e, short_answer (said D) ps s (joins slot block film) e) none
  same_short ps s e (leave_slot slot) = rw (e, short_answer (said D) ps s (leaves slot) e) none
  same_short ps s e (begin_sweep F) = rw (e, short_answer (said D) ps s (begins (room_in F)) e) none
  same_short ps s e (end_sweep draws) = rw (e, short_answer (said D) ps s (ends draws) e) none

  same_made : (listed : Bool) (ps ls : List ℕ) (r : StringRequest) → Same listed ps ls r
  same_made true ps ls r = same_listed ps ls r
  same_made false ps ls r = go (scratch_short ls) refl
    where
      go : (t : Bool) → scratch_short ls ≡ t → Same false ps ls r
      go true e = same_short ps ls e r
      go false e = same_long ps ls e r

  same_call : (x : StringCall) → SameCall (string_on D x) (answer_on D x) (entries_on D x) (called (said D) (lent_of x))
  same_call x = same_made x.listed x.positions x.leads x.request

module _ (B : ℕ) where
  turn_in_step : (v : Strings) (u : World) (x : StringCall) → InStep v u → InStep (string_turn B v x) (turn B u (lent_of x))
  unfolding string_turn turn
  turn_in_step v u x s =
      let c = same_call v.desk s.bytes s.long x in
      let number = c.number ∙ ap (λ (d : Desk). (called d (lent_of x)).number) s.desk in
      let entries = c.entries ∙ ap (λ (d : Desk). (called d (lent_of x)).entries) s.desk in
      let move = move_same x.request in
      let book = s.book in
      record {
        desk = c.desk ∙ ap (λ (d : Desk). (called d (lent_of x)).desk) s.desk;
        book = λ t. recorded B (book t) (move t) (is_accepted (number t)) (entries t);
        bytes = c.bytes;
        long = c.long;
      }

  list_in_step : (xs : List StringCall) (v : Strings) (u : World) → InStep v u → InStep (strings_from B v xs) (after B u (map lent_of xs))
  unfolding strings_from after
  list_in_step [] v u s = s
  list_in_step (x ∷ xs) v u s = list_in_step xs (string_turn B v x) (turn B u (lent_of x)) (turn_in_step v u x s)

-- FROM AN ACCEPTED OPENING every list of calls on the desk string is safe, and the string keeps its length
module _ (P ps ls D : List ℕ) (y : Bytes D) (n : (open_answer P ps ls D).number ≡ 0) where
  abbrev plan : Plan
  plan = plan_in_specs P ps ls D y n

  abbrev first : List ℕ
  first = first_in_specs P ps ls D y n

  opens_in_step : InStep (record { desk = first; book = opened_ledger }) (opened (fresh_desk plan))
  opens_in_step =
      let (l, t) = opened_right P ps ls D n in
      let right = open_right P ps ls D l in
      let d = (opened_from P ps ls).desk in
      record {
        desk = open_back P ps ls D n;
        book = refl;
        bytes = rw right (with_words_bytes D 0 (desk_words d) y);
        long = ap length right ∙ with_words_length D 0 (desk_words d) ∙ l;
      }

  in_step : (xs : List StringCall) → InStep (strings_after P first xs) (world_after plan (map lent_of xs))
  in_step xs = list_in_step plan.figures.bytes xs _ _ opens_in_step

  seen_same : on_string P first ≡ seen_as lent_of (on_record plan)
  seen_same = λ t. record {
    desk = λ xs. (in_step xs).desk t;
    book = λ xs. (in_step xs).book t;
    number = λ xs x. number xs x t;
    bound = λ xs x. bound xs x t;
    move = λ x. move_same x.request t;
    fair = λ x. fair_to plan x.listed x.positions x.leads;
    room = λ x. room_same x.request t;
  }
    where
      number : (xs : List StringCall) (x : StringCall) → (on_string P first).number xs x ≡ (on_record plan).number (map lent_of xs) (lent_of x)
      number xs x = (same_call _ (in_step xs).bytes (in_step xs).long x).number
          ∙ ap (λ (d : Desk). (called d (lent_of x)).number) (in_step xs).desk

      bound : (xs : List StringCall) (x : StringCall) → (on_string P first).bound xs x ≡ (on_record plan).bound (map lent_of xs) (lent_of x)
      bound xs x = (same_call _ (in_step xs).bytes (in_step xs).long x).bound ∙ ap (λ (d : Desk). (called d (lent_of x)).bound) (in_step xs).desk

  -- the plan is checked, and its record whole
  passed : Wide plan.figures × (is_plan plan ps ls ≡ true)
  passed = let t = opened_plan P ps ls (opened_right P ps ls D n).1 in (opened_wide P t.0, t.1)

  pub strings_safe : (xs : List StringCall) → (length (strings_after P first xs).desk ≡ desk_size) × Safe plan (on_string P first) xs
  strings_safe xs =
      let lawful = checked_lawful plan ps ls passed.0 passed.1 in (
        (in_step xs).long,
        subst (λ (v : Seen StringCall). Safe plan v xs) (sym seen_same)
            (safe_as lent_of (on_record plan) plan xs (list_safe plan lawful (map lent_of xs))),
      )

  -- its requests are in the order of asking and granted in time (document 02, ticket 5)
  pub strings_ordered : InAskingOrder (on_string P first)
  strings_ordered = subst InAskingOrder (sym seen_same) (ordered_as lent_of (on_record plan) (checked_ordered plan ps ls passed.0 passed.1))

  pub strings_in_time : (G : ℕ) → IsLeast plan G → InTime (on_string P first) G
  strings_in_time G h =
      subst (λ (v : Seen StringCall). InTime v G) (sym seen_same) (in_time_as lent_of (on_record plan) G (checked_in_time plan ps ls passed.0 passed.1 G h))
