-- What the plan call of either showing leaves in each string, in document 01's words.
-- Assumes nothing.
use Prim.Native.Nat.{ℕ, zero, suc}
use Rattle.std.proofs.Math.Path.{◌≡◌, refl, ap}
use Rattle.std.proofs.Common.{◌∙◌, arith}
use Rattle.std.specs.Prelude.{Bool, ◌&&◌, eqb}
use Rattle.std.proofs.Math.Bool.{true, false, cond}
use mathlib.Core.List.{List}
use Rattle.std.proofs.Math.Logic.{by_cases}
use Rattle.std.proofs.Math.Decide.{ℕ_discrete}
use Rattle.std.proofs.Math.ListN.{length}
use borrow.Author.Tests.{eq-eqb, ne_eqb}
use Rattle.numbers.specs.Refusals.{too_short, wrong_window}
use Rattle.words.specs.Words.{Bytes, words_of, with_words}
use Rattle.words.specs.Laws.{words_length, with_words_length}
use Rattle.card.specs.declared.CardRead.{CardRead}
use Rattle.card.specs.Read.{read_card}
use Rattle.placement.specs.Showing.{Showing, visits_of}
use Rattle.plan.specs.declared.Plan.{Plan}
use Rattle.plan.specs.Plan.{showing_in, longest_of, plan_of, blank_plan, positions_of, leads_of}
use Rattle.plan.specs.Answer.{refusal, answer, filled}
use Rattle.round_trip.specs.RoundTrip.{card_legal}
use Rattle.plan_layout.specs.Layout.{plan_words, plan_in, zero_bytes, plan_size}
use Rattle.desk_layout.specs.Layout.{desk_size}
use Rattle.plan_layout.specs.RoundTrip.{plan_written, plan_zero}
use Rattle.plan_layout.specs.Legal.{legal_sized, legal_words}
use Rattle.layout.specs.Answers.{verdict_answer, window_answer_of}
use Rattle.trace.specs.PlannedLaws.{accepted_told, fault_none, plan_opens}
use Rattle.window.specs.Window.{is_outside, window_fault, answer_by, window_answer}
use Rattle.window.specs.Window as window
use Rattle.window_claims.specs.WorstLaws.{planned_windows}
use Rattle.window_strings.specs.Calls.{window_from, window_call}
use Rattle.desk.specs.Desk.{fresh_desk}
use Rattle.desk_calls.specs.Calls.{opened_from, open_answer, open_string, said}
use Rattle.string_claims.specs.Kept.{open_number}
use Rattle.string_claims.specs.Back.{open_back}
use Rattle.plan_strings.specs.Calls.{plan_fault_of, planned_of, plan_filled, plan_answer, plan_string, positions_string, leads_string}

-- ---- the planner's answer, by its two numbers

module _ (x : Showing) (r : CardRead) (s vs : List ℕ) where
  -- a refusal leaves a list and has a blank plan
  refused_kept : (j k : ℕ) → ((answer x j k r).verdict.number ≡ 0 → ⊥) → (filled j k s vs ≡ s) × ((answer x j k r).plan ≡ blank_plan)
  unfolding refusal
  refused_kept zero zero h = absurd (h refl)
  refused_kept zero (suc k) h = (refl, refl)
  refused_kept (suc j) k h = (refl, refl)

-- ---- a window of a plan string that has its length

window_number : (P ps : List ℕ) (k : ℕ) → length P ≡ plan_size → (window_call P ps k).number ≡ window_fault (plan_in (words_of P)) ps k
unfolding window_call window_answer_of window_from window_answer window.refusal
window_number P ps k l = rw (eq-eqb (length P) plan_size l) (go (window_fault (plan_in (words_of P)) ps k))
  where
    go : (n : ℕ) → (answer_by n (showing_in (plan_in (words_of P))) (plan_in (words_of P)).figures k).verdict.number ≡ n
    go zero = refl
    go (suc n) = refl

-- ---- the strings after the call

-- the number that the call answers
abbrev pub number_of : Showing → List ℕ → List ℕ → List ℕ → List ℕ → ℕ
number_of x s p ps ls = (plan_answer x s p ps ls).number

module _ (x : Showing) (s p ps ls : List ℕ) where
  -- a refused call leaves both lists
  pub lists_kept : (number_of x s p ps ls ≡ 0 → ⊥) → (positions_string x s p ps ls ≡ ps) × (leads_string x s p ps ls ≡ ls)
  unfolding plan_answer verdict_answer planned_of positions_string leads_string
  lists_kept h =
      let r = read_card (visits_of x) s in
      let j = r.verdict.number in
      let k = plan_fault_of x r p ps ls in
      ((refused_kept x r ps (positions_of x r.figures) j k h).0, (refused_kept x r ls (leads_of x r.figures) j k h).0)

  -- after 13, and where it has another length, the plan string is as it was
  pub plan_kept : number_of x s p ps ls ≡ too_short → plan_string x s p ps ls ≡ p
  unfolding plan_answer verdict_answer plan_string plan_filled
  plan_kept h = rw (eq-eqb (planned_of x (read_card (visits_of x) s) p ps ls).verdict.number too_short h) (go (eqb (length p) plan_size))
    where
      go : (t : Bool) → cond (t && false) (with_words p 0 (plan_words (planned_of x (read_card (visits_of x) s) p ps ls).plan)) p ≡ p
      go true = refl
      go false = refl

  pub other_kept : (length p ≡ plan_size → ⊥) → plan_string x s p ps ls ≡ p
  unfolding plan_string plan_filled
  other_kept n = rw (ne_eqb (length p) plan_size n)

  module _ (l : length p ≡ plan_size) (n : number_of x s p ps ls ≡ too_short → ⊥) where
    written : plan_string x s p ps ls ≡ with_words p 0 (plan_words (planned_of x (read_card (visits_of x) s) p ps ls).plan)
    unfolding plan_answer verdict_answer plan_string plan_filled
    written = rw (eq-eqb (length p) plan_size l, ne_eqb (planned_of x (read_card (visits_of x) s) p ps ls).verdict.number too_short n)

    -- after 1 to 12, 25 and 26 it is all zero
    pub plan_cleared : (number_of x s p ps ls ≡ 0 → ⊥) → plan_string x s p ps ls ≡ zero_bytes plan_size
    unfolding plan_answer verdict_answer planned_of
    plan_cleared h =
        written ∙ ap (λ (q : Plan). with_words p 0 (plan_words q))
        (refused_kept x (read_card (visits_of x) s) ps ps (read_card (visits_of x) s).verdict.number (plan_fault_of x (read_card (visits_of x) s) p ps ls) h).1 ∙ plan_zero p l

  right_length : plan_fault_of x (read_card (visits_of x) s) p ps ls ≡ 0 → length p ≡ plan_size
  unfolding plan_fault_of
  right_length e = by_cases (ℕ_discrete (length p) plan_size) (λ l. l) (λ n. wrong (rw (ne_eqb (length p) plan_size n) at e))
    where
      wrong : ◌≡◌ {A = ℕ} too_short 0 → length p ≡ plan_size
      wrong e = absurd (omega arith)

  -- an accepted call leaves the plan of the card's figures
  pub plan_told : Bytes s → number_of x s p ps ls ≡ 0 → plan_in (words_of (plan_string x s p ps ls)) ≡ plan_of x (read_card (visits_of x) s).figures
  unfolding plan_answer verdict_answer planned_of
  plan_told y h =
      let r = read_card (visits_of x) s in
      let told = accepted_told x r r.verdict.number (plan_fault_of x r p ps ls) h in
      let l = right_length told.1 in
      let ok = card_legal (visits_of x) s y r refl told.0 in
      ap (λ (t : List ℕ). plan_in (words_of t)) (written l (λ e. omega arith) ∙ ap (λ (q : Plan). with_words p 0 (plan_words q)) told.2)
      ∙ plan_written p (plan_of x r.figures) (legal_sized x r.figures ok) (legal_words x r.figures ok) (omega (arith, words_length p))

  -- AND CAN BE OPENED: the strings that an accepted call leaves, with any desk string of the right length
  module _ (y : Bytes s) (h : number_of x s p ps ls ≡ 0) where
    planned_opened : (opened_from (plan_string x s p ps ls) (positions_string x s p ps ls) (leads_string x s p ps ls)).verdict.number ≡ 0
    unfolding plan_answer verdict_answer planned_of positions_string leads_string plan_fault_of opened_from
    planned_opened =
        let r = read_card (visits_of x) s in
        let (j, k, q) = accepted_told x r r.verdict.number (plan_fault_of x r p ps ls) h in
        let l = right_length k in
        let long : length (plan_string x s p ps ls) ≡ plan_size = ap length (written l (λ e. omega arith)) ∙ with_words_length p 0 _ ∙ l in
        let o = plan_opens x r.figures (card_legal (visits_of x) s y r refl j) ps ls (rw (eq-eqb (length p) plan_size l) at k) in
        rw (eq-eqb (length (plan_string x s p ps ls)) plan_size long, plan_told y h, j, k) o.0

    pub strings_open : (D : List ℕ) → length D ≡ desk_size
        → (let P = plan_string x s p ps ls in let qs = positions_string x s p ps ls in let ms = leads_string x s p ps ls in
        ((open_answer P qs ms D).number ≡ 0) × (said (open_string P qs ms D) ≡ fresh_desk (plan_of x (read_card (visits_of x) s).figures)))
    strings_open D l =
        let P = plan_string x s p ps ls in
        let qs = positions_string x s p ps ls in
        let ms = leads_string x s p ps ls in
        let n = open_number P qs ms D l ∙ planned_opened in
        (n, open_back P qs ms D n ∙ ap fresh_desk (plan_told y h))

    -- AND HAS WINDOWS: 27 alone may come
    pub strings_windows : (k : ℕ) → (window_call (plan_string x s p ps ls) (positions_string x s p ps ls) k).number ≡ cond
        (is_outside k (longest_of (read_card (visits_of x) s).figures)) wrong_window 0
    unfolding plan_answer verdict_answer planned_of positions_string plan_fault_of
    strings_windows k =
        let r = read_card (visits_of x) s in
        let (j, z, q) = accepted_told x r r.verdict.number (plan_fault_of x r p ps ls) h in
        let l = right_length z in
        let long : length (plan_string x s p ps ls) ≡ plan_size = ap length (written l (λ e. omega arith)) ∙ with_words_length p 0 _ ∙ l in
        let (lp, ll, fed) = fault_none x r.figures (length (words_of ps)) (length (words_of ls)) (rw (eq-eqb (length p) plan_size l) at z) in
        window_number (plan_string x s p ps ls) (positions_string x s p ps ls) k long
        ∙ rw (plan_told y h, j, z) (planned_windows x r.figures (card_legal (visits_of x) s y r refl j) fed ps lp k)
