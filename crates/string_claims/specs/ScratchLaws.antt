-- Calls on byte strings with a scratch and with the full list of leads (document 02, ticket 10): the same answers and strings, and 13 where the
-- scratch is too short.
-- Assumes nothing.
use Rattle.std.specs.Prelude.{ℕ, ◌≤◌, ◌<◌, ◌≡◌, Bool, ◌&&◌, List, length, eqb}
use Rattle.std.proofs.Math.Path.{refl, ap}
use Rattle.std.proofs.Common.{sym, ◌∙◌, eq-eqb, ne_eqb}
use Rattle.std.proofs.Math.Bool.{true, false, cond, not}
use Rattle.std.proofs.Math.Logic.{by_cases}
use Rattle.std.proofs.Math.Decide.{ℕ_discrete}
use Rattle.numbers.specs.Limits.{scratch_length}
use Rattle.numbers.specs.Refusals.{too_short}
use Rattle.words.specs.Words.{words_of, with_words}
use Rattle.card.specs.Card.{blocks_of}
use Rattle.card.specs.Read.{read_card}
use Rattle.legality.specs.Legality.{Wide}
use Rattle.placement.specs.Showing.{Showing, visits_of}
use Rattle.plan.specs.Plan.{positions_of}
use Rattle.plan.specs.Answer.{refusal, answer, filled, has_leads}
use Rattle.plan.specs.Scratch.{scratch_short, scratch_leads}
use Rattle.plan.specs.ScratchLaws.{scratch_short_law, scratch_long}
use Rattle.plan_layout.specs.Layout.{plan_in, plan_words, plan_size}
use Rattle.plan_strings.specs.Calls.{plan_fault_of, planned_of, plan_filled, plan_answer, plan_string, positions_string}
use Rattle.plan_strings.specs.Calls.{plan_scratch_answer, plan_scratch_string, positions_scratch_string}
use Rattle.desk.specs.declared.Desk.{Desk}
use Rattle.desk.specs.declared.Answer.{Answer}
use Rattle.desk.specs.declared.Begun.{Begun}
use Rattle.desk.specs.Desk.{verdict, open_desk}
use Rattle.desk.specs.Scratch.{open_scratch, plan_leads}
use Rattle.desk_layout.specs.Layout.{desk_words, desk_size}
use Rattle.layout.specs.declared.FilmdiskAnswer.{FilmdiskAnswer}
use Rattle.layout.specs.Answers.{verdict_answer}
use Rattle.desk_calls.specs.Calls.{refused_by, opened_from, open_verdict, open_answer, open_string, said, answer_by, string_by, join_answer, join_string}
use Rattle.desk_calls.specs.Calls.{leave_answer, leave_string, end_answer, end_string, room_in, begun_answer, begin_answer, begin_string, fetch_string}
use Rattle.desk_calls.specs.Calls.{leads_of_plan, leads_of_desk, open_scratch_answer, open_scratch_string, join_scratch_answer, join_scratch_string}
use Rattle.desk_calls.specs.Calls.{leave_scratch_answer, leave_scratch_string, begin_scratch_answer, begin_scratch_string, fetch_scratch_string}
use Rattle.desk_calls.specs.Calls.{end_scratch_answer, end_scratch_string}
use Rattle.desk_calls.specs.ByLength.{said_sized, other_answer, other_string}
use Rattle.trace.specs.ScratchLaws.{same_check, same_fault, short_fault, same_opened, same_join, same_leave, same_end, same_begin, same_fetches}
use Rattle.string_claims.specs.Back.{opened_wide}

-- ---- the planner: a card s, the plan string p, and a scratch t

module _ (x : Showing) (s p ps t : List ℕ) where
  abbrev own : List ℕ
  own = scratch_leads x (read_card (visits_of x) s).figures t

  abbrev pub PlansAs : List ℕ → Type 0
  PlansAs ls = (plan_scratch_answer x s p ps t ≡ plan_answer x s p ps ls) × (plan_scratch_string x s p ps t ≡ plan_string x s p ps ls)
      × (positions_scratch_string x s p ps t ≡ positions_string x s p ps ls)

  pub same_plans : (ls : List ℕ) → scratch_length ≤ length (words_of t) → blocks_of (read_card (visits_of x) s).figures ≤ length (words_of ls) → PlansAs ls
  unfolding plan_scratch_answer plan_scratch_string positions_scratch_string plan_answer plan_string positions_string planned_of plan_fault_of
  same_plans ls long full =
      let r = read_card (visits_of x) s in
      let e = ap (λ (k : ℕ). cond (eqb (length p) plan_size) k too_short) (same_fault x r ps t ls long full) in (
        ap (λ (k : ℕ). verdict_answer (answer x r.verdict.number k r).verdict) e,
        ap (λ (k : ℕ). plan_filled p (answer x r.verdict.number k r)) e,
        ap (λ (k : ℕ). filled r.verdict.number k ps (positions_of x r.figures)) e,
      )

  -- 13, where the card is accepted
  module _ (h : length (words_of t) < scratch_length) (some : 0 < blocks_of (read_card (visits_of x) s).figures) (n : (read_card (visits_of x) s).verdict.number ≡ 0) where
    short_planned : plan_fault_of x (read_card (visits_of x) s) p ps own ≡ too_short
    unfolding plan_fault_of
    short_planned = ap (λ (k : ℕ). cond (eqb (length p) plan_size) k too_short) (short_fault x (read_card (visits_of x) s) ps t h some) ∙ go (eqb (length p) plan_size)
      where
        go : (b : Bool) → cond b too_short too_short ≡ too_short
        go true = refl
        go false = refl

    pub short_plans : (plan_scratch_answer x s p ps t ≡ refused_by too_short) × (plan_scratch_string x s p ps t ≡ p) × (positions_scratch_string x s p ps t ≡ ps)
    unfolding plan_scratch_answer plan_scratch_string positions_scratch_string plan_answer plan_string positions_string planned_of plan_filled refusal verdict_answer
    short_plans = rw (short_planned, n) (refl, go (eqb (length p) plan_size), refl)
      where
        go : (b : Bool) → cond (b && not (eqb too_short too_short)) (with_words p 0 (plan_words (refusal too_short 0).plan)) p ≡ p
        go true = refl
        go false = refl

-- ---- the desk: D is the desk string

module _ (D : List ℕ) where
  -- by the length of the string
  same_answer : (a b : FilmdiskAnswer) → (length D ≡ desk_size → a ≡ b) → answer_by D a ≡ answer_by D b
  same_answer a b e =
      by_cases (ℕ_discrete (length D) desk_size) (λ l. ap (answer_by D) (e l)) (λ n. other_answer D n a ∙ sym (other_answer D n b))

  same_string : (d e : Desk) → (length D ≡ desk_size → d ≡ e) → string_by D d ≡ string_by D e
  same_string d e q =
      by_cases (ℕ_discrete (length D) desk_size) (λ l. ap (string_by D) (q l)) (λ n. other_string D n d ∙ sym (other_string D n e))

  slim : length D ≡ desk_size → Wide (said D).plan.figures
  slim l = let z = (said_sized D l).plan in (z.positions, z.times, z.blocks, z.table)

  -- each call with a scratch s is that with the list ls
  pub record EqualStrings (ps ls s : List ℕ) : Type 0 where
    pub joins : (slot block film : ℕ)
        → (join_scratch_answer D ps s slot block film ≡ join_answer D ps ls slot block film) × (join_scratch_string D ps s slot block film ≡ join_string D ps ls slot block film)
    pub leaves : (slot : ℕ) → (leave_scratch_answer D ps s slot ≡ leave_answer D ps ls slot) × (leave_scratch_string D ps s slot ≡ leave_string D ps ls slot)
    pub begins : (F : List ℕ) → (begin_scratch_answer D ps s F ≡ begin_answer D ps ls F) × (begin_scratch_string D ps s F ≡ begin_string D ps ls F)
        × (fetch_scratch_string D ps s F ≡ fetch_string D ps ls F)
    pub ends : (draws : List ℕ) → (end_scratch_answer D ps s draws ≡ end_answer D ps ls draws) × (end_scratch_string D ps s draws ≡ end_string D ps ls draws)

  module _ (ps ls : List ℕ) (full : has_leads (said D).plan ls ≡ true) where
    moves_same : (f g : Answer) → (length D ≡ desk_size → f ≡ g)
        → (answer_by D (verdict_answer f.verdict) ≡ answer_by D (verdict_answer g.verdict)) × (string_by D f.desk ≡ string_by D g.desk)
    moves_same f g e = (
      same_answer _ _ (λ l. ap (λ (a : Answer). verdict_answer a.verdict) (e l)),
      same_string _ _ (λ l. ap (λ (a : Answer). a.desk) (e l)),
    )

    fetches_same : (F : List ℕ) → fetch_string D ps (leads_of_desk D) F ≡ fetch_string D ps ls F
    unfolding fetch_string
    fetches_same F =
        by_cases (ℕ_discrete (length D) desk_size) (λ l. rw (eq-eqb (length D) desk_size l) (same_fetches (said D) ps ls (slim l) full (room_in F) F))
        (λ n. rw (ne_eqb (length D) desk_size n))

    pub same_strings : (s : List ℕ) → scratch_length ≤ length (words_of s) → EqualStrings ps ls s
    unfolding join_scratch_answer join_scratch_string leave_scratch_answer leave_scratch_string begin_scratch_answer begin_scratch_string fetch_scratch_string end_scratch_answer end_scratch_string join_answer join_string leave_answer leave_string begin_answer begin_string end_answer end_string
    same_strings s long =
        let e = scratch_long s long in
        record {
          joins = λ slot block film. rw e (moves_same _ _ (λ l. same_join (said D) ps ls (slim l) full slot block film));
          leaves = λ slot. rw e (moves_same _ _ (λ l. same_leave (said D) ps ls (slim l) full slot));
          begins = λ F. rw e (
            same_answer _ _ (λ l. ap begun_answer (same_begin (said D) ps ls (slim l) full (room_in F))),
            same_string _ _ (λ l. ap (λ (b : Begun). b.desk) (same_begin (said D) ps ls (slim l) full (room_in F))),
            fetches_same F,
          );
          ends = λ draws. rw e (moves_same _ _ (λ l. same_end (said D) ps ls (slim l) full draws));
        }

  -- or is 13, ahead of all else, and leaves every string
  pub record RefusedStrings (ps s : List ℕ) : Type 0 where
    pub opens : (P : List ℕ) → (open_scratch_answer P ps s D ≡ refused_by too_short) × (open_scratch_string P ps s D ≡ D)
    pub joins : (slot block film : ℕ) → (join_scratch_answer D ps s slot block film ≡ refused_by too_short) × (join_scratch_string D ps s slot block film ≡ D)
    pub leaves : (slot : ℕ) → (leave_scratch_answer D ps s slot ≡ refused_by too_short) × (leave_scratch_string D ps s slot ≡ D)
    pub begins : (F : List ℕ) → (begin_scratch_answer D ps s F ≡ refused_by too_short) × (begin_scratch_string D ps s F ≡ D) × (fetch_scratch_string D ps s F ≡ F)
    pub ends : (draws : List ℕ) → (end_scratch_answer D ps s draws ≡ refused_by too_short) × (end_scratch_string D ps s draws ≡ D)

  pub short_strings : (ps s : List ℕ) → length (words_of s) < scratch_length → RefusedStrings ps s
  unfolding open_scratch_answer open_scratch_string join_scratch_answer join_scratch_string leave_scratch_answer leave_scratch_string begin_scratch_answer begin_scratch_string fetch_scratch_string end_scratch_answer end_scratch_string
  short_strings ps s h =
      let e = scratch_short_law s h in
      record {
        opens = λ P. rw e (refl, refl);
        joins = λ slot block film. rw e (refl, refl);
        leaves = λ slot. rw e (refl, refl);
        begins = λ F. rw e (refl, refl, refl);
        ends = λ draws. rw e (refl, refl);
      }

-- ---- an opening with the plan string P

opened_same : (P ps ls : List ℕ) → has_leads (plan_in (words_of P)) ls ≡ true → opened_from P ps (leads_of_plan P) ≡ opened_from P ps ls
unfolding opened_from open_desk
opened_same P ps ls full =
    by_cases (ℕ_discrete (length P) plan_size)
    (λ l. rw (eq-eqb (length P) plan_size l, same_check (plan_in (words_of P)) ps ls (opened_wide P l) full))
    (λ n. rw (ne_eqb (length P) plan_size n))

pub same_opens : (P ps ls s D : List ℕ) → has_leads (plan_in (words_of P)) ls ≡ true → scratch_length ≤ length (words_of s)
    → (open_scratch_answer P ps s D ≡ open_answer P ps ls D) × (open_scratch_string P ps s D ≡ open_string P ps ls D)
unfolding open_scratch_answer open_scratch_string open_answer open_string
same_opens P ps ls s D full long =
    let q = opened_same P ps ls full in
    rw (scratch_long s long) (
      ap (λ (a : Answer). verdict_answer (cond (eqb (length D) desk_size) a.verdict (open_verdict a))) q,
      ap (λ (a : Answer). cond (eqb (length D) desk_size) (with_words D 0 (desk_words a.desk)) D) q,
    )
