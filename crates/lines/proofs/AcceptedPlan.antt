-- An accepted card's answer is the plan of legal figures, with its lists.
-- Assumes nothing.
use Prim.Native.Nat.{ℕ, zero, suc, ◌≤◌, ◌<◌}
use mathlib.Core.Path.{◌≡◌, refl}
use mathlib.Core.Bool.{true}
use mathlib.Core.List.{List}
use mathlib.Core.Logic.{by_cases}
use native.Mathlib.Omega.{arith}
use native.Mathlib.Decide.{dec_lt}
use lib.ListN.{length}
use Rattle.card.specs.declared.Figures.{Figures}
use Rattle.card.specs.declared.CardRead.{CardRead}
use Rattle.card.specs.Card.{Legal, blocks_of}
use Rattle.card.specs.Read.{read_card}
use Rattle.words.specs.Words.{Bytes, words_of}
use Rattle.plan.specs.declared.Planned.{Planned}
use Rattle.placement.specs.Showing.{Showing, visits_of}
use Rattle.plan.specs.Plan.{showing_in, entries_of, streams_of, plan_of}
use Rattle.plan.specs.Answer.{plan_fault, fault_after, refusal, answer, planned, positions_after, leads_after, is_plan}
use Rattle.plan.specs.Check.{showing_back}
use Rattle.plan.proofs.Check.{plan_passes}
use Rattle.round_trip.specs.RoundTrip.{card_legal}
use Rattle.plan.specs.Ways.{Outcome, short_positions, short_leads, no_stream_law}

-- neither 13 nor 12: both lists are long enough, and a stream is fed
no_fault : (x : Showing) (f : Figures) (np nl : ℕ) → plan_fault x f np nl ≡ 0 → (entries_of x f ≤ np) × (blocks_of f ≤ nl) × (0 < streams_of x f)
no_fault x f np nl e = by_cases (dec_lt np (entries_of x f))
    (λ h. absurd (omega (arith, short_positions x f np nl h)))
    (λ h. by_cases (dec_lt nl (blocks_of f))
    (λ k. absurd (omega (arith, short_leads x f np nl (omega arith) k)))
    (λ k. by_cases (dec_lt 0 (streams_of x f))
    (λ s. (omega arith, omega arith, s))
    (λ s. absurd (omega (arith, no_stream_law x f np nl (omega arith) (omega arith) (omega arith))))))

answer_none : (x : Showing) (j k : ℕ) (r : CardRead) → (answer x j k r).verdict.number ≡ 0 → (j ≡ 0) × (k ≡ 0)
unfolding refusal
answer_none x zero zero r e = (refl, refl)
answer_none x zero (suc k) r e = absurd (omega (arith, e))
answer_none x (suc j) k r e = absurd (omega (arith, e))

module _ (x : Showing) (s : List ℕ) (y : Bytes s) (ps ls : List ℕ) where
  abbrev read : CardRead
  read = read_card (visits_of x) s

  -- the answer to an accepted card is the plan of legal figures, with the lists as they are left
  answer_plan : (planned x read ps ls).verdict.number ≡ 0
      → (is_plan (planned x read ps ls).plan (positions_after x read ps ls) (leads_after x read ps ls) ≡ true)
      × Legal (visits_of (showing_in (planned x read ps ls).plan)) (planned x read ps ls).plan.figures
  unfolding planned positions_after leads_after plan_of
  answer_plan e =
      let n = answer_none x read.verdict.number (fault_after x read ps ls) read e in
      let g = no_fault x read.figures (length (words_of ps)) (length (words_of ls)) n.1 in
      let ok = card_legal (visits_of x) s y read refl n.0 in
      rw (n.0, n.1) (plan_passes x read.figures ok g.2 ps ls g.0 g.1, rw (showing_back x) ok)

  pub accepted_plan : (a : Planned) (qs ms : List ℕ) → Outcome true x read ps ls a qs ms
      → (a.verdict.number ≡ 0 → is_plan a.plan qs ms ≡ true) × (a.verdict.number ≡ 0 → Legal (visits_of (showing_in a.plan)) a.plan.figures)
  accepted_plan a qs ms e = rw (e.0, e.1, e.2) ((λ n. (answer_plan n).0), (λ n. (answer_plan n).1))
