-- What the planner leaves can be opened: its plan and its lists pass the check.
-- Assumes nothing.
use Rattle.std.specs.Prelude.{ℕ, zero, suc, ◌≤◌, ◌<◌, ◌≡◌, refl, Bool, true, false, cond, ◌||◌, List, length, ltb, eqb}
use Rattle.std.proofs.Common.{arith, ltb-false}
use Rattle.std.proofs.lemmas.Bool.{eqb-false}
use Rattle.numbers.specs.Refusals.{no_stream, too_short}
use Rattle.words.specs.Words.{Bytes, words_of, with_words}
use Rattle.card.specs.declared.Figures.{Figures}
use Rattle.card.specs.declared.CardRead.{CardRead}
use Rattle.card.specs.Card.{Legal, blocks_of, judge_record}
use Rattle.card.specs.Read.{read_card}
use Rattle.legality.specs.Legality.{Wide, fault_legal}
use Rattle.placement.specs.Showing.{Showing, visits_of}
use Rattle.plan.specs.Plan.{entries_of, streams_of, plan_of, positions_of, leads_of}
use Rattle.plan.specs.Answer.{plan_fault, fault_after, refusal, answer, filled, planned, positions_after, leads_after, judged}
use Rattle.plan.proofs.Check.{plan_passes}
use Rattle.round_trip.specs.RoundTrip.{card_legal}
use Rattle.desk.specs.Desk.{open_desk}
use Rattle.trace.specs.Answers.{Opens}

-- the planner's answer, by its two numbers: accepted, it has the plan of the figures
pub accepted_told : (x : Showing) (r : CardRead) (j k : ℕ) → (answer x j k r).verdict.number ≡ 0 → (j ≡ 0) × (k ≡ 0)
    × ((answer x j k r).plan ≡ plan_of x r.figures)
unfolding refusal
accepted_told x r zero zero h = (refl, refl, refl)
accepted_told x r zero (suc k) h = absurd (omega arith)
accepted_told x r (suc j) k h = absurd (omega arith)

-- refused, it leaves a list
list_kept : (x : Showing) (r : CardRead) (s vs : List ℕ) (j k : ℕ) → ((answer x j k r).verdict.number ≡ 0 → ⊥) → filled j k s vs ≡ s
list_kept x r s vs zero zero h = absurd (h refl)
list_kept x r s vs zero (suc k) h = refl
list_kept x r s vs (suc j) k h = refl

pub lists_kept : (x : Showing) (r : CardRead) (ps ls : List ℕ) → ((planned x r ps ls).verdict.number ≡ 0 → ⊥) → (positions_after x r ps ls ≡ ps)
    × (leads_after x r ps ls ≡ ls)
unfolding planned positions_after leads_after
lists_kept x r ps ls h =
    let j = r.verdict.number in
    let k = fault_after x r ps ls in
    (list_kept x r ps (positions_of x r.figures) j k h, list_kept x r ls (leads_of x r.figures) j k h)

-- neither 13 nor 12
pub fault_none : (x : Showing) (f : Figures) (np nl : ℕ) → plan_fault x f np nl ≡ 0 → (entries_of x f ≤ np) × (blocks_of f ≤ nl) × (0 < streams_of x f)
unfolding plan_fault
fault_none x f np nl e = go (ltb np (entries_of x f)) refl (ltb nl (blocks_of f)) refl (eqb (streams_of x f) 0) refl e
  where
    go : (s : Bool) → ltb np (entries_of x f) ≡ s → (t : Bool) → ltb nl (blocks_of f) ≡ t → (u : Bool) → eqb (streams_of x f) 0 ≡ u
        → ◌≡◌ {A = ℕ} (cond (s || t) too_short (cond u no_stream 0)) 0 → (entries_of x f ≤ np) × (blocks_of f ≤ nl) × (0 < streams_of x f)
    go true a t b u c e = absurd (omega arith)
    go false a true b u c e = absurd (omega arith)
    go false a false b true c e = absurd (omega arith)
    go false a false b false c e =
        (ltb-false np (entries_of x f) a, ltb-false nl (blocks_of f) b, omega (arith, eqb-false (streams_of x f) 0 c))

-- the plan of legal figures, with the lists in which it was written
pub plan_opens : (x : Showing) (f : Figures) → Legal (visits_of x) f → (ps ls : List ℕ) → plan_fault x f (length (words_of ps)) (length (words_of ls)) ≡ 0
    → Opens (plan_of x f) (with_words ps 0 (positions_of x f)) (with_words ls 0 (leads_of x f))
unfolding open_desk
plan_opens x f ok ps ls e =
    let (lp, ll, fed) = fault_none x f (length (words_of ps)) (length (words_of ls)) e in
    rw (plan_passes x f ok fed ps ls lp ll) (refl, refl)

module _ (x : Showing) (r : CardRead) (ps ls : List ℕ) (e : (planned x r ps ls).verdict.number ≡ 0) where
  legal_opens : (r.verdict.number ≡ 0 → Legal (visits_of x) r.figures) → Opens (planned x r ps ls).plan (positions_after x r ps ls) (leads_after x r ps ls)
  unfolding planned positions_after leads_after
  legal_opens legal =
      let (j, k, p) = accepted_told x r r.verdict.number (fault_after x r ps ls) e in
      rw (p, j, k) (plan_opens x r.figures (legal j) ps ls k)

-- A CARD that was planned, and A RECORD
pub card_opens : (x : Showing) (s ps ls : List ℕ) → Bytes s → (let r = read_card (visits_of x) s in (planned x r ps ls).verdict.number ≡ 0
    → Opens (planned x r ps ls).plan (positions_after x r ps ls) (leads_after x r ps ls))
card_opens x s ps ls y e = let k = visits_of x in legal_opens x (read_card k s) ps ls e (card_legal k s y (read_card k s) refl)

pub record_opens : (x : Showing) (f : Figures) (ps ls : List ℕ) → Wide f → (let r = judged (visits_of x) f in (planned x r ps ls).verdict.number ≡ 0
    → Opens (planned x r ps ls).plan (positions_after x r ps ls) (leads_after x r ps ls))
unfolding judged judge_record
record_opens x f ps ls w e = legal_opens x (judged (visits_of x) f) ps ls e (fault_legal (visits_of x) f w)
