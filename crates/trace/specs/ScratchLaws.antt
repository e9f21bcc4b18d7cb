-- A scratch and the full list of leads (document 02, ticket 10): the same answers, and 13 where it is too short.
-- Assumes nothing.
use Prim.Native.Nat.{ℕ, suc, ◌≤◌, ◌<◌}
use Rattle.std.specs.Prelude.{◌≡◌, refl, Bool, cond, ◌&&◌, ◌||◌, List, [], length, eqb}
use Rattle.std.proofs.Math.Path.{sym, ap}
use Rattle.std.proofs.Common.{◌∙◌, arith}
use Rattle.std.proofs.Math.Bool.{true, false}
use Rattle.std.proofs.Math.Dec.{ltb}
use borrow.Author.Tests.{lt-ltb, le-ltb}
use Rattle.numbers.specs.Limits.{scratch_length}
use Rattle.numbers.specs.Refusals.{too_short, no_stream}
use Rattle.words.specs.Words.{words_of, with_words}
use Rattle.laws.specs.Bools.{and_right}
use Rattle.card.specs.declared.Figures.{Figures}
use Rattle.card.specs.declared.CardRead.{CardRead}
use Rattle.card.specs.Card.{Legal, blocks_of}
use Rattle.legality.specs.Legality.{Wide}
use Rattle.placement.specs.Showing.{Showing, visits_of}
use Rattle.pacing.specs.Shelf.{name_of}
use Rattle.plan.specs.declared.Plan.{Plan}
use Rattle.plan.specs.declared.Planned.{Planned}
use Rattle.plan.specs.Plan.{entries_of, streams_of, plan_of, positions_of, leads_of}
use Rattle.plan.specs.Answer.{plan_fault, fault_after, refusal, answer, filled, planned, positions_after, has_numbers, has_positions, has_leads, is_plan}
use Rattle.plan.specs.Scratch.{scratch_short, scratch_leads, planned_scratch, positions_scratch}
use Rattle.plan.specs.ScratchLaws.{scratch_short_law, scratch_long, short_leads_none}
use Rattle.plan.proofs.ScratchLaws.{long_leads_all, own_leads_law}
use Rattle.plan.proofs.Ways.{by_plan}
use Rattle.plan.proofs.Check.{plan_passes}
use Rattle.rules.specs.Scheduler.{Call, join, leave, begin, end}
use Rattle.rules.specs.Calls as C
use Rattle.desk.specs.declared.Desk.{Desk}
use Rattle.desk.specs.declared.Answer.{Answer}
use Rattle.desk.specs.declared.Begun.{Begun}
use Rattle.desk.specs.Desk.{supply_of, order_of, rules_of, Queue, view_of, desk_of, fresh_desk, blank_desk, open_by, open_desk, answer_of, answered}
use Rattle.desk.specs.Desk.{join_desk, leave_desk, end_desk, begin_desk, fetches_of, entry_words, fetch_list_after}
use Rattle.desk.specs.Records.{answers, not_begun}
use Rattle.desk.specs.Scratch.{plan_leads, desk_leads, open_scratch, join_scratch, leave_scratch, end_scratch, begin_scratch, fetch_list_scratch}
use Rattle.trace.specs.PlannedLaws.{accepted_told, lists_kept, fault_none, plan_opens}
use Rattle.trace.specs.SafeLists.{fetches_kept}

-- ---- the check of a plan is the same

pub same_check : (p : Plan) (ps ls : List ℕ) → Wide p.figures → has_leads p ls ≡ true → is_plan p ps (plan_leads p) ≡ is_plan p ps ls
unfolding is_plan
same_check p ps ls w full = go (has_numbers p) refl
  where
    go : (t : Bool) → has_numbers p ≡ t → (t && (has_positions p ps && has_leads p (plan_leads p))) ≡ (t && (has_positions p ps && has_leads p ls))
    go false e = refl
    go true e = ap (λ (b : Bool). has_positions p ps && b) (own_leads_law p w e ∙ sym full)

-- ---- the planner

module _ (x : Showing) (r : CardRead) (ps s : List ℕ) where
  module _ (ls : List ℕ) (long : scratch_length ≤ length (words_of s)) (full : blocks_of r.figures ≤ length (words_of ls)) where
    pub same_fault : fault_after x r ps (scratch_leads x r.figures s) ≡ fault_after x r ps ls
    unfolding plan_fault
    same_fault =
        let n = blocks_of r.figures in
        let own = long_leads_all x r.figures s (scratch_long s long) in
        let a : ltb (length (words_of (scratch_leads x r.figures s))) n ≡ false = le-ltb _ n (omega (arith, own)) in
        let b : ltb (length (words_of ls)) n ≡ false = le-ltb _ n full in
        rw (a, b)

    pub same_planned : (planned_scratch x r ps s ≡ planned x r ps ls) × (positions_scratch x r ps s ≡ positions_after x r ps ls)
    unfolding planned_scratch positions_scratch planned positions_after
    same_planned = (
      ap (λ (k : ℕ). answer x r.verdict.number k r) same_fault,
      ap (λ (k : ℕ). filled r.verdict.number k ps (positions_of x r.figures)) same_fault,
    )

  -- 13, where the figures are accepted
  module _ (h : length (words_of s) < scratch_length) (some : 0 < blocks_of r.figures) where
    pub short_fault : fault_after x r ps (scratch_leads x r.figures s) ≡ too_short
    unfolding plan_fault
    short_fault = go (ltb (length (words_of ps)) (entries_of x r.figures))
      where
        none : ltb (length (words_of (scratch_leads x r.figures s))) (blocks_of r.figures) ≡ true
        none = lt-ltb _ (blocks_of r.figures) (omega (arith, short_leads_none x r.figures s (scratch_short_law s h)))

        go : (t : Bool) → cond (t || ltb (length (words_of (scratch_leads x r.figures s))) (blocks_of r.figures)) too_short
            (cond (eqb (streams_of x r.figures) 0) no_stream 0) ≡ too_short
        go true = refl
        go false = rw none

    pub short_planned : r.verdict.number ≡ 0 → (planned_scratch x r ps s ≡ refusal too_short 0) × (positions_scratch x r ps s ≡ ps)
    unfolding planned_scratch positions_scratch
    short_planned e =
        let o = by_plan x r ps (scratch_leads x r.figures s) 12 e short_fault in
        (sym o.0, sym o.1)

-- ---- the desk

pub same_opened : (p : Plan) (ps ls s : List ℕ) → Wide p.figures → scratch_length ≤ length (words_of s) → has_leads p ls ≡ true
    → open_scratch p ps s ≡ open_desk p ps ls
unfolding open_scratch open_desk
same_opened p ps ls s w long full = rw (scratch_long s long) (ap (λ (t : Bool). open_by t p) (same_check p ps ls w full))

module _ (d : Desk) (ps ls : List ℕ) (w : Wide d.plan.figures) (full : has_leads d.plan ls ≡ true) where
  same_answer : (room : ℕ) (call : Call ℕ) → answer_of d ps (desk_leads d) room call ≡ answer_of d ps ls room call
  unfolding answer_of
  same_answer room call =
      ap (λ (t : Bool). C.answer (supply_of d.plan) (order_of d.plan) (rules_of d.plan) (view_of d) (record { call = call; fair = t; room = room }))
      (same_check d.plan ps ls w full)

  pub same_join : (slot block film : ℕ) → join_desk d ps (desk_leads d) slot block film ≡ join_desk d ps ls slot block film
  unfolding join_desk
  same_join slot block film = ap (answered d) (same_answer 0 (join slot (name_of film block)))

  pub same_leave : (slot : ℕ) → leave_desk d ps (desk_leads d) slot ≡ leave_desk d ps ls slot
  unfolding leave_desk
  same_leave slot = ap (answered d) (same_answer 0 (leave slot))

  pub same_end : (draws : List ℕ) → end_desk d ps (desk_leads d) draws ≡ end_desk d ps ls draws
  unfolding end_desk
  same_end draws = ap (answered d) (same_answer 0 (end (words_of draws)))

  pub same_begin : (room : ℕ) → begin_desk d ps (desk_leads d) room ≡ begin_desk d ps ls room
  unfolding begin_desk
  same_begin room = let e = same_answer room begin in
      λ t. record {
        verdict = record { number = (e t).number; place = (e t).place };
        desk = desk_of d.plan (e t).scheduler;
        bound = (e t).bound;
        fetches = fetches_of (e t).entries;
      }

  pub same_fetches : (room : ℕ) (F : List ℕ) → fetch_list_after d ps (desk_leads d) room F ≡ fetch_list_after d ps ls room F
  unfolding fetch_list_after
  same_fetches room F = ap (λ (a : C.Answer ℕ Queue). with_words F 0 (entry_words a.entries)) (same_answer room begin)

-- every call of the desk is that with a list
pub record EqualTo (d : Desk) (ps ls s : List ℕ) : Type 0 where
  pub joins : (slot block film : ℕ) → join_scratch d ps s slot block film ≡ join_desk d ps ls slot block film
  pub leaves : (slot : ℕ) → leave_scratch d ps s slot ≡ leave_desk d ps ls slot
  pub begins : (room : ℕ) → begin_scratch d ps s room ≡ begin_desk d ps ls room
  pub fetches : (room : ℕ) (F : List ℕ) → fetch_list_scratch d ps s room F ≡ fetch_list_after d ps ls room F
  pub ends : (draws : List ℕ) → end_scratch d ps s draws ≡ end_desk d ps ls draws

pub same_desk : (d : Desk) (ps ls s : List ℕ) → Wide d.plan.figures → scratch_length ≤ length (words_of s) → has_leads d.plan ls ≡ true
    → EqualTo d ps ls s
unfolding join_scratch leave_scratch end_scratch begin_scratch fetch_list_scratch
same_desk d ps ls s w long full =
    let e = scratch_long s long in
    record {
      joins = λ slot block film. rw e (same_join d ps ls w full slot block film);
      leaves = λ slot. rw e (same_leave d ps ls w full slot);
      begins = λ room. rw e (same_begin d ps ls w full room);
      fetches = λ room F. rw e (same_fetches d ps ls w full room F);
      ends = λ draws. rw e (same_end d ps ls w full draws);
    }

-- or is 13, ahead of all else, and leaves all
pub record RefusedFor (d : Desk) (ps s : List ℕ) : Type 0 where
  pub opens : (p : Plan) → open_scratch p ps s ≡ answers blank_desk too_short 0
  pub joins : (slot block film : ℕ) → join_scratch d ps s slot block film ≡ answers d too_short 0
  pub leaves : (slot : ℕ) → leave_scratch d ps s slot ≡ answers d too_short 0
  pub begins : (room : ℕ) → begin_scratch d ps s room ≡ not_begun d too_short
  pub fetches : (room : ℕ) (F : List ℕ) → fetch_list_scratch d ps s room F ≡ F
  pub ends : (draws : List ℕ) → end_scratch d ps s draws ≡ answers d too_short 0

pub short_desk : (d : Desk) (ps s : List ℕ) → length (words_of s) < scratch_length → RefusedFor d ps s
unfolding open_scratch join_scratch leave_scratch end_scratch begin_scratch fetch_list_scratch
short_desk d ps s h =
    let e = scratch_short_law s h in
    record {
      opens = λ p. rw e;
      joins = λ slot block film. rw e;
      leaves = λ slot. rw e;
      begins = λ room. rw e;
      fetches = λ room F. rw e;
      ends = λ draws. rw e;
    }

-- ---- what a refused call leaves

pub scratch_kept : (x : Showing) (r : CardRead) (ps s : List ℕ) → ((planned_scratch x r ps s).verdict.number ≡ 0 → ⊥) → positions_scratch x r ps s ≡ ps
unfolding planned_scratch positions_scratch
scratch_kept x r ps s n = (lists_kept x r ps (scratch_leads x r.figures s) n).0

pub scratch_fetches_kept : (d : Desk) (ps s : List ℕ) (room : ℕ) (F : List ℕ) → ((begin_scratch d ps s room).verdict.number ≡ 0 → ⊥)
    → fetch_list_scratch d ps s room F ≡ F
unfolding begin_scratch fetch_list_scratch
scratch_fetches_kept d ps s room F n = go (scratch_short s) n
  where
    go : (t : Bool) → ((cond t (not_begun d too_short) (begin_desk d ps (desk_leads d) room)).verdict.number ≡ 0 → ⊥)
        → cond t F (fetch_list_after d ps (desk_leads d) room F) ≡ F
    go true n = refl
    go false n = fetches_kept d ps (desk_leads d) room F n

-- ---- what the planner leaves is opened with a scratch t

plan_opens_scratch : (x : Showing) (f : Figures) → Legal (visits_of x) f → (ps ls t : List ℕ) → plan_fault x f (length (words_of ps)) (length (words_of ls)) ≡ 0
    → scratch_length ≤ length (words_of t) → (let a = open_scratch (plan_of x f) (with_words ps 0 (positions_of x f)) t in
    (a.verdict.number ≡ 0) × (a.desk ≡ fresh_desk (plan_of x f)))
unfolding is_plan plan_of
plan_opens_scratch x f ok ps ls t e long =
    let (lp, ll, fed) = fault_none x f (length (words_of ps)) (length (words_of ls)) e in
    let qs = with_words ps 0 (positions_of x f) in
    let ms = with_words ls 0 (leads_of x f) in
    let full = and_right (has_positions (plan_of x f) qs) _ (and_right (has_numbers (plan_of x f)) _ (plan_passes x f ok fed ps ls lp ll)) in
    rw (same_opened (plan_of x f) qs ms t ok.wide long full) (plan_opens x f ok ps ls e)

pub scratch_opens : (x : Showing) (r : CardRead) (ps s t : List ℕ) → (r.verdict.number ≡ 0 → Legal (visits_of x) r.figures)
    → (planned_scratch x r ps s).verdict.number ≡ 0 → scratch_length ≤ length (words_of t)
    → (let p = (planned_scratch x r ps s).plan in let a = open_scratch p (positions_scratch x r ps s) t in (a.verdict.number ≡ 0) × (a.desk ≡ fresh_desk p))
unfolding planned_scratch positions_scratch planned positions_after
scratch_opens x r ps s t legal e long =
    let ls = scratch_leads x r.figures s in
    let (j, k, p) = accepted_told x r r.verdict.number (fault_after x r ps ls) e in
    rw (p, j, k) (plan_opens_scratch x r.figures (legal j) ps ls t k long)
