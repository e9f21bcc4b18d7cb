-- Each way that a plan call can take.
-- Assumes nothing.
use Prim.Native.Nat.{ℕ, zero, suc}
use mathlib.Core.Path.{◌≡◌, refl, sym, ap, ◌∙◌}
use mathlib.Core.Logic.{◌≢◌}
use mathlib.Core.Bool.{Bool, true, false, cond}
use mathlib.Core.List.{List}
use native.Mathlib.Omega.{arith}
use lib.ListN.{length}
use borrow.Author.Tests.{eq-eqb, ne_eqb}
use Rattle.numbers.specs.Refusals.{too_short}
use Rattle.words.specs.Words.{Bytes, with_words}
use Rattle.card.specs.declared.Figures.{Figures}
use Rattle.card.specs.declared.CardRead.{CardRead}
use Rattle.card.specs.Read.{blank_figures, refused_card, read_card}
use Rattle.card_reader.specs.Refusals.{read_other}
use Rattle.card_reader.specs.Told.{accepted_card}
use Rattle.round_trip.specs.RoundTrip.{card_legal}
use Rattle.placement.specs.Showing.{Showing, visits_of}
use Rattle.plan.specs.declared.Plan.{Plan}
use Rattle.plan.specs.declared.Planned.{Planned}
use Rattle.plan.specs.Plan.{plan_of, blank_plan, positions_of, leads_of}
use Rattle.plan.specs.Answer.{fault_after, refusal, answer, filled, planned, positions_after, leads_after}
use Rattle.plan.specs.Scratch.{leads_lent}
use Rattle.plan.specs.Ways as plan
use Rattle.plan.proofs.Ways as plan_laws
use Rattle.plan_layout.specs.Layout.{plan_words, plan_size}
use Rattle.layout.specs.declared.FilmdiskAnswer.{FilmdiskAnswer}
use Rattle.layout.specs.Answers.{verdict_answer}
use Rattle.plan_strings.specs.Calls.{plan_fault_of, planned_of, plan_filled, plan_answer, plan_string, positions_string, leads_string, PlanCall, ReadCall}

-- ---- a card without room for its plan

-- the answer to a card as it was read
abbrev pub without_room : Showing → CardRead → FilmdiskAnswer
without_room x r = verdict_answer (answer x r.verdict.number too_short r).verdict

module _ (k : ℕ) (x : Showing) (r : CardRead) (s : List ℕ) (e : r ≡ read_card k s) (a : FilmdiskAnswer) where
  pub card_refused : r.verdict.number ≢ 0 → a ≡ verdict_answer r.verdict → a ≡ without_room x (read_card k s)
  unfolding refusal verdict_answer
  card_refused n q = q ∙ go r.verdict.number n ∙ ap (without_room x) e
    where
      go : (n : ℕ) → n ≢ 0
          → ◌≡◌ {A = FilmdiskAnswer} (record { number = n; place = r.verdict.place; count = 0; bound = 0 }) (verdict_answer (answer x n too_short r).verdict)
      go zero n = absurd (n refl)
      go (suc k) n = refl

  pub card_accepted : r.verdict.number ≡ 0 → a ≡ verdict_answer (record { number = too_short; place = 0 }) → a ≡ without_room x (read_card k s)
  unfolding refusal
  card_accepted n q = q ∙ ap (λ (k : ℕ). verdict_answer (answer x k too_short r).verdict) (sym n) ∙ ap (without_room x) e

-- ---- the call: the answer, and the later contents of the three strings

-- 13 leaves a list, and a scratch
none_filled : (k : ℕ) (s vs : List ℕ) → s ≡ filled k too_short s vs
none_filled zero s vs = refl
none_filled (suc k) s vs = refl

none_lent : (listed : Bool) (k : ℕ) (s vs : List ℕ) → s ≡ cond listed (filled k too_short s vs) s
none_lent true k s vs = none_filled k s vs
none_lent false k s vs = refl

-- the plan string has its length: 13 leaves it, all else writes it
module _ (p : List ℕ) (l : length p ≡ plan_size) (a : Planned) where
  filled_short : a.verdict.number ≡ too_short → p ≡ plan_filled p a
  unfolding plan_filled
  filled_short k = rw (eq-eqb a.verdict.number too_short k, eq-eqb (length p) plan_size l)

  filled_plan : a.verdict.number ≢ too_short → (q : List ℕ) → q ≡ with_words p 0 (plan_words a.plan) → q ≡ plan_filled p a
  unfolding plan_filled
  filled_plan k q w = w ∙ rw (ne_eqb a.verdict.number too_short k, eq-eqb (length p) plan_size l)

module _ (listed : Bool) (x : Showing) (s p ps ls : List ℕ) where
  -- the plan string has another length
  pub other_length : (length p ≡ plan_size → ⊥) → (r : FilmdiskAnswer) → r ≡ without_room x (read_card (visits_of x) s)
      → PlanCall listed x s p ps ls r p ps ls
  unfolding plan_answer plan_string positions_string leads_string planned_of plan_fault_of plan_filled
  other_length n r e =
      let k = (read_card (visits_of x) s).verdict.number in
      rw (ne_eqb (length p) plan_size n)
      (e, refl, none_filled k ps (positions_of x (read_card (visits_of x) s).figures), none_lent listed k ls (leads_of x (read_card (visits_of x) s).figures))

  -- it has the right one
  module _ (l : length p ≡ plan_size) where
    -- an answer to the card as it was read
    outcome : (a : Planned) (qs ms : List ℕ) → plan.Outcome listed x (read_card (visits_of x) s) ps ls a qs ms
        → (r : FilmdiskAnswer) → r ≡ verdict_answer a.verdict → (q : List ℕ) → q ≡ plan_filled p a → PlanCall listed x s p ps ls r q qs ms
    unfolding plan_answer plan_string planned planned_of plan_fault_of positions_after positions_string leads_after leads_string
    outcome a qs ms e r v q w = rw (eq-eqb (length p) plan_size l)
        (v ∙ ap (λ (b : Planned). verdict_answer b.verdict) e.0, w ∙ ap (plan_filled p) e.0, e.1, e.2)

    -- the card is refused: the plan string is all zero
    pub refused_card_law : Bytes s → (k at : ℕ) → refused_card k at ≡ read_card (visits_of x) s
        → (r : FilmdiskAnswer) → r ≡ verdict_answer (record { number = k; place = at }) → (q : List ℕ) → q ≡ with_words p 0 (plan_words blank_plan) → PlanCall listed x s p ps ls r q ps ls
    unfolding refused_card blank_figures refusal
    refused_card_law y k at e r v q w =
        let refused : k ≢ 0 = λ z. let ok = card_legal (visits_of x) s y (refused_card k at) e z in omega (arith, ok.films) in
        let other : k ≢ too_short = λ z. read_other (visits_of x) s (sym (ap (λ (c : CardRead). c.verdict.number) e) ∙ z) in
        let o = plan.outcome_same listed ps ls _ ps ls refl e (plan.by_figures listed x (refused_card k at) ps ls refused) in
        outcome (refusal k at) ps ls o r v q (filled_plan p l (refusal k at) other q w)

    -- it is accepted and planned
    pub planned_card : (c : CardRead) → c ≡ read_card (visits_of x) s → (r : FilmdiskAnswer) (q qs ms : List ℕ) → ReadCall listed x c p ps ls r q qs ms
        → PlanCall listed x s p ps ls r q qs ms
    planned_card c e r q qs ms o =
        outcome (planned x c ps (leads_lent listed x c.figures ls)) qs ms (plan.outcome_same listed ps ls _ qs ms refl e (refl, o.2, o.3)) r o.0 q o.1

-- ---- legal figures: the planner's answer, and the later contents of the three strings

module _ (listed : Bool) (x : Showing) (f : Figures) (p ps ls : List ℕ) (l : length p ≡ plan_size) where
  abbrev card : CardRead
  card = accepted_card f

  abbrev lent : List ℕ
  lent = leads_lent listed x f ls

  module _ (n : ℕ) (made : n ≡ fault_after x card ps lent) (r : FilmdiskAnswer) (v : r ≡ verdict_answer (record { number = n; place = 0 }))
      (qs ms : List ℕ) (first : qs ≡ filled 0 (fault_after x card ps lent) ps (positions_of x f))
      (second : ms ≡ cond listed (filled 0 (fault_after x card ps lent) ls (leads_of x f)) ls) where
    planning : (a : Planned) → a ≡ planned x card ps lent → verdict_answer (record { number = n; place = 0 }) ≡ verdict_answer a.verdict
        → (q : List ℕ) → q ≡ plan_filled p a → ReadCall listed x card p ps ls r q qs ms
    planning a e d q w =
        let o = plan.by_lists listed x card ps ls refl qs ms first second in
        (v ∙ d ∙ ap (λ (b : Planned). verdict_answer b.verdict) e, w ∙ ap (plan_filled p) e, o.0, o.1)

    -- 13 leaves the plan string
    pub plan_kept : n ≡ too_short → ReadCall listed x card p ps ls r p qs ms
    unfolding refusal
    plan_kept k = planning (refusal n 0) (plan_laws.by_refusal x card ps lent n refl made (λ z. omega arith)) refl p (filled_short p l (refusal n 0) k)

    -- after 12 it is all zero
    pub plan_cleared : n ≢ too_short → n ≢ 0 → (q : List ℕ) → q ≡ with_words p 0 (plan_words blank_plan) → ReadCall listed x card p ps ls r q qs ms
    unfolding refusal
    plan_cleared k h q w = planning (refusal n 0) (plan_laws.by_refusal x card ps lent n refl made h) refl q (filled_plan p l (refusal n 0) k q w)

    pub plan_written : n ≡ 0 → (m : Plan) → m ≡ plan_of x f → (q : List ℕ) → q ≡ with_words p 0 (plan_words m) → ReadCall listed x card p ps ls r q qs ms
    plan_written z m e q w =
        let a : Planned = record { verdict = record { number = 0; place = 0 }; plan = plan_of x f } in
        planning a (plan.by_none x card ps lent refl (sym made ∙ z)) (ap (λ (k : ℕ). verdict_answer (record { number = k; place = 0 })) z) q
        (filled_plan p l a (λ h. omega arith) q (w ∙ ap (λ (m : Plan). with_words p 0 (plan_words m)) e))
