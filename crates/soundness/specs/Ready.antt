-- What a caller learns where the test of a record passes.
-- Assumes nothing.
use Rattle.std.specs.Prelude.{ℕ, zero, suc, ◌+◌, ◌*◌, ◌-◌, ◌≤◌, ◌<◌, ◌≡◌, refl, Bool, true, false, List, get_or}
use Rattle.std.proofs.Common.{sym, ap, ◌∙◌, arith, mul-le-mul_right}
use Rattle.std.proofs.Math.Logic.{by_cases}
use Rattle.std.proofs.Math.Decide.{dec_lt}
use Rattle.laws.specs.Bools.{clash, and_left, and_right}
use Rattle.laws.specs.Starts.{start_of}
use Rattle.numbers.specs.Limits.{max_time, max_streams}
use Rattle.legality.specs.Legality as legality
use Rattle.words.specs.Words.{words_of}
use Rattle.plan.specs.declared.Plan.{Plan}
use Rattle.card.specs.declared.Figures.{Figures}
use Rattle.card.specs.Card.{Legal, total_positions, length_in, blocks_of}
use Rattle.placement.specs.Showing.{Showing, one, loop, pairs, visits_of, visits_few}
use Rattle.pacing.specs.Shelf.{film_in, block_in}
use Rattle.pacing.specs.Streams.{cap_visits}
use Rattle.plan.specs.Plan.{showing_in, start_in, listed_at, time_on, position_in, entries_of, worst2_of, lead_of, streams_of, plan_of}
use Rattle.plan.specs.Names.{Named, listed_below, lead_named}
use Rattle.plan.proofs.Names.{lead_listed, named_small}
use Rattle.plan.specs.Answer.{is_plan}
use Rattle.plan.proofs.Check.{checked, checked_legal}
use Rattle.plan.specs.Legal.{total_is, legal_zoned, time_small, streams_few}
use Rattle.plan.proofs.Legal.{position_below, position_high, lead_first, half_small, halves_lead}
use Rattle.plan.specs.Scratch.{own_leads, leads_by}
use Rattle.plan.specs.Ways.{plan_worst2}
use Rattle.turns.specs.Facts.{sound_says}
use Rattle.desk.specs.declared.Desk.{Desk}
use Rattle.desk.specs.Desk.{supply_of, order_of, view_of}
use Rattle.desk.specs.Promise.{supply_named}
use Rattle.desk.specs.Ready.{Ready}
use Rattle.soundness.specs.Facts.{sound_desk, LeadSource}

-- ---- the entries of the positions list

-- each is a visit of some film
visit_of_law : (k : ℕ) (N : ℕ → ℕ) (F v : ℕ) → v < k * start_of N F → (i : ℕ) × (u : ℕ) × (i < F) × (u < k * N i) × (v ≡ k * start_of N i + u)
unfolding start_of
visit_of_law k N zero v h = absurd (omega arith)
visit_of_law k N (suc F) v h =
    by_cases (dec_lt v (k * start_of N F))
    (λ l. let (i, u, a, b, e) = visit_of_law k N F v l in (i, u, omega arith, b, e))
    (λ l. (F, v - k * start_of N F, omega arith, omega arith, omega arith))

-- all blocks have one at least
block_entry : (x : Showing) (f : Figures) (b : ℕ) → b < blocks_of f → b < entries_of x f
block_entry x f b u = omega (arith, mul-le-mul_right (blocks_of f) (visits_few x).0)

-- the list ps of a plan that passes
module _ (x : Showing) (f : Figures) (ok : Legal (visits_of x) f) (ps : List ℕ)
    (at : (i v : ℕ) → i < f.films → v < visits_of x * length_in f i → get_or (words_of ps) (visits_of x * start_in f i + v) 0 ≡ position_in x f i v) where
  -- entry v: it is on the disk, no lower than the lowest in use, and its time in its range
  pub record InUse (v : ℕ) : Type 0 where
    pub below : get_or (words_of ps) v 0 < total_positions f
    pub high : total_positions f - entries_of x f ≤ get_or (words_of ps) v 0
    pub quick : time_on f (get_or (words_of ps) v 0) ≤ max_time

  pub in_use : (v : ℕ) → v < entries_of x f → InUse v
  in_use v h =
      let (i, u, l, b, e) = visit_of_law (visits_of x) (length_in f) f.films v h in
      let q : get_or (words_of ps) v 0 ≡ position_in x f i u = ap (λ (w : ℕ). get_or (words_of ps) w 0) e ∙ at i u l b in
      let p = position_below x f ok i u l b in
      record {
        below = omega (arith, q, p);
        high = omega (arith, q, position_high x f ok i u l b);
        quick = omega (arith, ap (time_on f) q, time_small f ok (position_in x f i u) p);
      }

-- the lead of a block that takes one visit, from the time at its entry
entry_single : (x : Showing) (f : Figures) → Legal (visits_of x) f → (ps : List ℕ)
    → ((i v : ℕ) → i < f.films → v < visits_of x * length_in f i → get_or (words_of ps) (visits_of x * start_in f i + v) 0 ≡ position_in x f i v)
    → (a : ℕ) → Named f a → visits_of x ≡ 1 → lead_of x f a ≡ 2 * time_on f (get_or (words_of ps) (listed_at f a) 0) - worst2_of x f
entry_single x f ok ps at a n e =
    let i = film_in a in
    let b = block_in a in
    let v : visits_of x * b < visits_of x * length_in f i = rw e (omega (arith, n.1)) in
    let l : visits_of x * start_in f i + visits_of x * b ≡ listed_at f a = rw e (omega arith) in
    omega (
      arith,
      lead_named x f a,
      lead_first x f ok i b n.0 n.1,
      ap (time_on f) (sym (at i (visits_of x * b) n.0 v) ∙ ap (λ (w : ℕ). get_or (words_of ps) w 0) l),
    )

-- the lead of a block from the time at its entry: of half blocks it is 0, a half taking no more than half of worst2
entry_lead : (x : Showing) (f : Figures) → Legal (visits_of x) f → (ps : List ℕ)
    → ((i v : ℕ) → i < f.films → v < visits_of x * length_in f i → get_or (words_of ps) (visits_of x * start_in f i + v) 0 ≡ position_in x f i v)
    → (a : ℕ) → Named f a → lead_of x f a ≡ 2 * time_on f (get_or (words_of ps) (listed_at f a) 0) - worst2_of x f
entry_lead one f ok ps at a n = entry_single one f ok ps at a n refl
entry_lead loop f ok ps at a n = entry_single loop f ok ps at a n refl
entry_lead pairs f ok ps at a n =
    let u = in_use pairs f ok ps at (listed_at f a) (block_entry pairs f (listed_at f a) (listed_below f a n)) in
    omega (
      arith,
      lead_named pairs f a,
      halves_lead f ok (film_in a) (block_in a) n.0 n.1,
      half_small f ok (get_or (words_of ps) (listed_at f a) 0) u.high u.below,
    )

-- the source of leads of a plan: a list that passes the check, or the zones and the list of positions
pub plan_source : (listed : Bool) (p : Plan) (ps ls : List ℕ) → legality.Wide p.figures → is_plan p ps (leads_by listed p ls) ≡ true
    → LeadSource listed p ps ls
plan_source true p ps ls w e =
    let h = checked p ps ls e in
    let ok = checked_legal p ps ls w e in
    record {
      here = λ a n. record { list = λ _. omega (arith, h.long.1, listed_below p.figures a n); place = λ z. clash refl z };
      says = lead_listed p ps ls h;
      small = named_small (showing_in p) p.figures ok;
    }
plan_source false p ps ls w e =
    let own = own_leads (showing_in p) p.figures in
    let h = checked p ps own e in
    let ok = checked_legal p ps own w e in
    let x = showing_in p in
    let f = p.figures in
    let few : (a : ℕ) → Named f a → listed_at f a < entries_of x f = λ a n. block_entry x f (listed_at f a) (listed_below f a n) in
    let used : (a : ℕ) (n : Named f a) → InUse x f ok ps h.position_at (listed_at f a) = λ a n. in_use x f ok ps h.position_at (listed_at f a) (few a n) in
    record {
      here = λ a n. record {
        list = λ z. clash z refl;
        place = λ _. record {
          zoned = legal_zoned f ok;
          here = omega (arith, h.long.0, few a n);
          within = omega (arith, (used a n).below, total_is f ok);
          quick = (used a n).quick;
        };
      };
      says = λ a n. omega (arith, entry_lead x f ok ps h.position_at a n, plan_worst2 x f p h.plan);
      small = named_small x f ok;
    }

-- its streams are at most the slots
pub plan_streams : (p : Plan) (ps ls : List ℕ) → legality.Wide p.figures → is_plan p ps ls ≡ true → p.streams ≤ max_streams
unfolding plan_of
plan_streams p ps ls w e =
    let s : p.streams ≡ streams_of (showing_in p) p.figures = ap (λ (q : Plan). q.streams) (checked p ps ls e).plan in
    omega (arith, cap_visits (showing_in p) (streams_of (showing_in p) p.figures) (streams_few (showing_in p) p.figures (checked_legal p ps ls w e)))

-- a record that passes is the plan of its figures, with its lent lists
pub sound_plan : (d : Desk) (ps ls : List ℕ) → sound_desk d ps ls ≡ true → is_plan d.plan ps ls ≡ true
sound_plan d ps ls e = and_left (is_plan d.plan ps ls) _ e

-- A RECORD THAT PASSES IS READY
pub sound_ready : (d : Desk) (ps ls : List ℕ) → legality.Wide d.plan.figures → sound_desk d ps ls ≡ true → Ready d
sound_ready d ps ls w e =
    let p = d.plan in
    let i = sound_plan d ps ls e in
    let h = checked p ps ls i in
    record {
      legal = checked_legal p ps ls w i;
      some = h.fed;
      planned = h.plan;
      sound = sound_says (supply_of p) (supply_named p) (order_of p) (view_of d) (and_right (is_plan p ps ls) _ e);
    }
