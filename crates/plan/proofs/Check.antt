-- Laws of what specs/Check defines.
use Rattle.std.specs.Prelude.{ℕ, ◌≤◌, ◌<◌, ◌≡◌, refl, true, List, length, ltb, eqb}
use Rattle.std.proofs.Common.{arith, ltb-true, eqb-true, lt-ltb, eq-eqb}
use Rattle.laws.specs.Bools.{and_left, and_right, and_both}
use Rattle.card.specs.Card.{Legal, blocks_of, record_fault}
use Rattle.legality.specs.Legality.{Wide, fault_legal, legal_fault}
use Rattle.words.specs.Words.{words_of, with_words}
use Rattle.card.specs.declared.Figures.{Figures}
use Rattle.placement.specs.Showing.{Showing, visits_of}
use Rattle.plan.specs.declared.Plan.{Plan}
use Rattle.plan.specs.Plan.{showing_in, entries_of, streams_of}
use Rattle.plan.specs.Plan.{plan_of, positions_of, leads_of}
use Rattle.plan.specs.Answer.{has_numbers, has_positions, has_leads, is_plan}
use Rattle.plan.specs.Rows.{begins_long}
use Rattle.plan.specs.Films.{positions_length, leads_length, positions_at, leads_at}
use Rattle.plan.proofs.Films.{positions_words, leads_words}
use Rattle.plan.specs.Check.{same_plan, Numbered, Checked, showing_back, same_numbers_self, written_begins}

-- what the test of the numbers says of a record
pub numbers_say : (p : Plan) → has_numbers p ≡ true
    → (record_fault (visits_of (showing_in p)) p.figures ≡ 0) × (0 < streams_of (showing_in p) p.figures) × (p ≡ plan_of (showing_in p) p.figures)
unfolding has_numbers
numbers_say p e =
    let x = showing_in p in
    let f = p.figures in
    let k = visits_of x in
    let e₁ = and_right (eqb (record_fault k f) 0) _ e in (
      eqb-true (record_fault k f) 0 (and_left (eqb (record_fault k f) 0) _ e),
      ltb-true 0 (streams_of x f) (and_left (ltb 0 (streams_of x f)) _ e₁),
      same_plan p x f refl (and_right (ltb 0 (streams_of x f)) _ e₁),
    )

pub numbered : (p : Plan) → Wide p.figures → has_numbers p ≡ true → Numbered p
numbered p w e = let n = numbers_say p e in record { legal = fault_legal (visits_of (showing_in p)) p.figures w n.0; fed = n.1; plan = n.2 }

pub checked : (p : Plan) (ps ls : List ℕ) → is_plan p ps ls ≡ true → Checked p ps ls
unfolding is_plan has_positions has_leads
checked p ps ls e =
    let x = showing_in p in
    let f = p.figures in
    let n = numbers_say p (and_left (has_numbers p) _ e) in
    let e₁ = and_right (has_numbers p) _ e in
    let b = and_left (has_positions p ps) _ e₁ in
    let d = and_right (has_positions p ps) _ e₁ in
    record {
      clear = n.0;
      fed = n.1;
      plan = n.2;
      long = (
        omega (arith, begins_long (positions_of x f) (words_of ps) b, positions_length x f),
        omega (arith, begins_long (leads_of x f) (words_of ls) d, leads_length x f),
      );
      position_at = positions_at x f (words_of ps) b;
      lead_at_law = leads_at x f (words_of ls) d;
    }

-- its figures are legal
pub checked_legal : (p : Plan) (ps ls : List ℕ) → Wide p.figures → is_plan p ps ls ≡ true → Legal (visits_of (showing_in p)) p.figures
checked_legal p ps ls w e = fault_legal (visits_of (showing_in p)) p.figures w (checked p ps ls e).clear

-- THE PLAN OF LEGAL FIGURES PASSES, with the lists that the planner leaves
pub plan_passes : (x : Showing) (f : Figures) → Legal (visits_of x) f → 0 < streams_of x f → (ps ls : List ℕ) → entries_of x f ≤ length (words_of ps)
    → blocks_of f ≤ length (words_of ls)
    → is_plan (plan_of x f) (with_words ps 0 (positions_of x f)) (with_words ls 0 (leads_of x f)) ≡ true
unfolding is_plan has_numbers has_positions has_leads plan_of
plan_passes x f ok fed ps ls lp ll =
    rw (showing_back x)
    (and_both
    (and_both (eq-eqb (record_fault (visits_of x) f) 0 (legal_fault (visits_of x) f ok))
    (and_both (lt-ltb 0 (streams_of x f) fed) (same_numbers_self (plan_of x f))))
    (and_both
    (written_begins (positions_of x f) ps (positions_words x f ok) (omega (arith, positions_length x f)))
    (written_begins (leads_of x f) ls (leads_words x f ok) (omega (arith, leads_length x f)))))
