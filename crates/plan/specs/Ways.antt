-- Each way that the planner can answer.
-- Assumes nothing.
use Prim.Native.Nat.{ℕ, zero, suc, ◌≤◌, ◌<◌}
use Rattle.std.specs.Prelude.{◌≡◌, Bool, ◌&&◌, List}
use Rattle.std.proofs.Math.Path.{refl, sym, ap}
use Rattle.std.proofs.Common.{◌∙◌, subst, arith}
use Rattle.std.proofs.Math.Bool.{true, false, cond}
use Rattle.std.proofs.Math.Dec.{ltb}
use borrow.Author.Tests.{lt-ltb, le-ltb, eq-eqb, ne_eqb}
use Rattle.numbers.specs.Refusals.{too_short, no_stream}
use Rattle.card.specs.declared.Figures.{Figures}
use Rattle.card.specs.declared.CardRead.{CardRead}
use Rattle.card.specs.declared.Verdict.{Verdict}
use Rattle.card.specs.Card.{Legal, total_positions, blocks_of, record_fault, judge_record}
use Rattle.legality.specs.Legality.{Wide, fault_legal}
use Rattle.placement.specs.Showing.{Showing, visits_of}
use Rattle.plan.specs.declared.Plan.{Plan}
use Rattle.plan.specs.declared.Planned.{Planned}
use Rattle.plan.specs.Plan.{showing_in, entries_of, worst2_of, streams_of}
use Rattle.plan.specs.Plan.{plan_of, positions_of, leads_of}
use Rattle.plan.specs.Disk.{Shelved, OnShelf, shelf_positions}
use Rattle.plan.specs.Legal.{total_is, legal_disk}
use Rattle.plan.specs.Answer.{plan_fault, fault_after, refusal, answer, filled, planned, positions_after, leads_after, judged, same_numbers, has_numbers}
use Rattle.plan.specs.Scratch.{leads_lent, lent_after}

module _ (x : Showing) (r : CardRead) (ps ls : List ℕ) where
  -- or a plan
  pub by_none : r.verdict.number ≡ 0 → fault_after x r ps ls ≡ 0
      → ◌≡◌ {A = Planned} (record { verdict = record { number = 0; place = 0 }; plan = plan_of x r.figures }) (planned x r ps ls)
  unfolding planned
  by_none e d = rw (e, d)

-- with a lead list ls, or with a scratch
module _ (listed : Bool) (x : Showing) (r : CardRead) (ps ls : List ℕ) where
  abbrev lent : List ℕ
  lent = leads_lent listed x r.figures ls

  -- the later contents of the positions list and of what is lent beside it
  abbrev pub Lists : List ℕ → List ℕ → Type 0
  Lists qs ms = (qs ≡ positions_after x r ps lent) × (ms ≡ lent_after listed x r ps ls)

  -- the answer, and these
  abbrev pub Outcome : Planned → List ℕ → List ℕ → Type 0
  Outcome a qs ms = (a ≡ planned x r ps lent) × (qs ≡ positions_after x r ps lent) × (ms ≡ lent_after listed x r ps ls)

  -- the figures are refused
  pub by_figures : (r.verdict.number ≡ 0 → ⊥) → Outcome (refusal r.verdict.number r.verdict.place) ps ls
  unfolding planned positions_after leads_after
  by_figures n = go r.verdict.number listed n
    where
      go : (k : ℕ) (b : Bool) → (k ≡ 0 → ⊥)
          → (refusal k r.verdict.place ≡ answer x k (fault_after x r ps lent) r)
          × (ps ≡ filled k (fault_after x r ps lent) ps (positions_of x r.figures))
          × (ls ≡ cond b (filled k (fault_after x r ps ls) ls (leads_of x r.figures)) ls)
      go zero b n = absurd (n refl)
      go (suc k) true n = (refl, refl, refl)
      go (suc k) false n = (refl, refl, refl)

  -- they are accepted: the lists by 13, 12 or 0
  pub by_lists : r.verdict.number ≡ 0 → (qs ms : List ℕ) → qs ≡ filled 0 (fault_after x r ps lent) ps (positions_of x r.figures)
      → ms ≡ cond listed (filled 0 (fault_after x r ps lent) ls (leads_of x r.figures)) ls → Lists qs ms
  unfolding positions_after leads_after
  by_lists e qs ms p l = (rw e p, l ∙ go listed)
    where
      go : (b : Bool) → cond b (filled 0 (fault_after x r ps (leads_lent b x r.figures ls)) ls (leads_of x r.figures)) ls ≡ lent_after b x r ps ls
      go true = rw e
      go false = refl

-- the same outcome of equal figures in an equal showing
pub outcome_same : {x y : Showing} {r s : CardRead} (listed : Bool) (ps ls : List ℕ) (a : Planned) (qs ms : List ℕ) → x ≡ y → r ≡ s
    → Outcome listed x r ps ls a qs ms → Outcome listed y s ps ls a qs ms
outcome_same {x} {y} {r} {s} listed ps ls a qs ms e d o =
    subst (λ (t : CardRead). Outcome listed y t ps ls a qs ms) d (subst (λ (z : Showing). Outcome listed z r ps ls a qs ms) e o)

module _ (x : Showing) (f : Figures) (np nl : ℕ) where
  pub short_positions : np < entries_of x f → plan_fault x f np nl ≡ too_short
  unfolding plan_fault
  short_positions h = rw (lt-ltb np (entries_of x f) h)

  pub short_leads : entries_of x f ≤ np → nl < blocks_of f → plan_fault x f np nl ≡ too_short
  unfolding plan_fault
  short_leads l h = rw (le-ltb np (entries_of x f) l, lt-ltb nl (blocks_of f) h)

  pub no_stream_law : entries_of x f ≤ np → blocks_of f ≤ nl → streams_of x f ≡ 0 → plan_fault x f np nl ≡ no_stream
  unfolding plan_fault
  no_stream_law l m e = rw (le-ltb np (entries_of x f) l, le-ltb nl (blocks_of f) m, eq-eqb (streams_of x f) 0 e)

  pub some_stream : entries_of x f ≤ np → blocks_of f ≤ nl → (streams_of x f ≡ 0 → ⊥) → plan_fault x f np nl ≡ 0
  unfolding plan_fault
  some_stream l m e = rw (le-ltb np (entries_of x f) l, le-ltb nl (blocks_of f) m, ne_eqb (streams_of x f) 0 e)

-- ---- the lists, as the code makes them

pub plan_streams : (x : Showing) (f : Figures) (p : Plan) → p ≡ plan_of x f → p.streams ≡ streams_of x f
unfolding plan_of
plan_streams x f p e = ap (λ (q : Plan). q.streams) e

pub plan_worst2 : (x : Showing) (f : Figures) (p : Plan) → p ≡ plan_of x f → p.worst2 ≡ worst2_of x f
unfolding plan_of
plan_worst2 x f p e = ap (λ (q : Plan). q.worst2) e

-- t being P, the films of legal figures as the code walks them
module _ (x : Showing) (f : Figures) (ok : Legal (visits_of x) f) (t : ℕ) (e : t ≡ total_positions f) where
  pub shelved : Shelved x t f.blocks f.films
  shelved = record {
    wide = ok.wide.2;
    few = ok.films.1;
    each = λ i u. omega (arith, ok.blocks i u);
    all = ok.all;
    room = omega (arith, ok.room);
    small = omega (arith, ok.total);
  }

  pub on_shelf : OnShelf f.positions f.times x t f.blocks f.films
  on_shelf = record { disk = legal_disk f ok; whole = omega (arith, e, total_is f ok); films = shelved }

  -- the positions are written film by film
  pub positions_are : shelf_positions x t f.blocks f.films ≡ positions_of x f
  unfolding positions_of
  positions_are = ap (λ (n : ℕ). shelf_positions x n f.blocks f.films) e

-- ---- figures that are judged, for blocks of k positions each

module _ (k : ℕ) (f : Figures) (v : Verdict) (e : v ≡ judge_record k f) where
  pub record_fault_law : v.number ≡ record_fault k f
  unfolding judge_record
  record_fault_law = ap (λ (x : Verdict). x.number) e

  pub judged_is : ◌≡◌ {A = CardRead} (record { verdict = v; figures = f }) (judged k f)
  unfolding judged
  judged_is = λ i. record { verdict = e i; figures = f }

-- an accepted record has legal figures
pub judged_legal : (k : ℕ) (f : Figures) → Wide f → (r : CardRead) → r ≡ judged k f → r.verdict.number ≡ 0 → Legal k r.figures
unfolding judged
judged_legal k f w r e n =
    let c = sym (record_fault_law k f r.verdict (ap (λ (t : CardRead). t.verdict) e)) ∙ n in
    subst (λ (t : CardRead). Legal k t.figures) (sym e) (fault_legal k f w c)

-- ---- has a plan the numbers of its figures

module _ (p : Plan) where
  abbrev fault : ℕ
  fault = record_fault (visits_of (showing_in p)) p.figures

  pub not_legal : (fault ≡ 0 → ⊥) → false ≡ has_numbers p
  unfolding has_numbers
  not_legal n = rw (ne_eqb fault 0 n)

  -- the plan of legal figures decides
  pub numbers_decide : fault ≡ 0
      → (ltb 0 (streams_of (showing_in p) p.figures) && same_numbers p (plan_of (showing_in p) p.figures)) ≡ has_numbers p
  unfolding has_numbers
  numbers_decide e = rw (eq-eqb fault 0 e)
