use Prim.Native.Nat.{ℕ, suc, ◌*◌, ◌≤◌, ◌<◌}
use mathlib.Core.Path.{◌≡◌, refl, sym, ap, ap₂, ◌∙◌}
use mathlib.Core.Bool.{Bool, true, false, cond}
use mathlib.Core.List.{List}
use native.Mathlib.Omega.{arith}
use lib.ListN.{length}
use borrow.Author.Tests.{not-true, not-false}
use Rattle.card.specs.declared.Figures.{Figures}
use Rattle.card.specs.Card.{Legal, total_positions, blocks_of}
use Rattle.card.specs.Read.{figures_from}
use Rattle.words.specs.Words.{words_of, with_words}
use Rattle.placement.specs.Showing.{Showing, visits_of}
use Rattle.plan.specs.Disk.{shelf_positions}
use Rattle.plan.specs.Legal.{legal_zoned, total_zones, some_film, film_two, start_ends, entries_few}
use Rattle.plan.specs.Plan.{showing_of, entries_of, plan_of, plan_from, positions_of, leads_of}
use Rattle.plan.specs.Answer.{plan_fault, filled}
use Rattle.plan.specs.Scratch.{leads_lent, entries_asked, lists_short}
use Rattle.plan.specs.Ways.{no_stream_law, some_stream, plan_streams, plan_worst2, shelved, on_shelf, positions_are}
use Rattle.plan.proofs.Ways.{lent_short, lent_long, leads_are}
use Rattle.plan_legal.specs.declared.Made.{Made}
use borrow.Author.Rules.{rules}
use Rattle.plan_legal.proofs.plan_legal.Statement.{statement}
use Rattle.plan_legal.proofs.plan_legal.Tie as tie

-- nothing is written, with a list or without
kept : (listed : Bool) (s : List ℕ) → s ≡ cond listed s s
kept true s = refl
kept false s = refl

-- a lead list is asked N entries and written, a scratch is left
all_asked : (listed : Bool) → listed ≡ true → (n m : ℕ) → entries_asked listed n ≤ m → n ≤ m
all_asked listed e n m h = rw e at h

list_written : (listed : Bool) → listed ≡ true → (s t u : List ℕ) → u ≡ t → u ≡ cond listed t s
list_written listed e s t u q = rw e q

scratch-left : (listed : Bool) → listed ≡ false → (s t : List ℕ) → s ≡ cond listed t s
scratch-left listed e s t = rw e

module _ (listed : Bool) (x : Showing) (f : Figures) (ps ls : List ℕ) where
  abbrev fault : ℕ
  fault = plan_fault x f (length (words_of ps)) (length (words_of (leads_lent listed x f ls)))

  -- what is made, and both lists after it
  abbrev Outcome : Made → List ℕ → List ℕ → Type 0
  Outcome m qs ms = (m.number ≡ fault) × (m.number ≡ 0 → plan_from f m.plan ≡ plan_of x f) × (qs ≡ filled 0 fault ps (positions_of x f))
      × (ms ≡ cond listed (filled 0 fault ls (leads_of x f)) ls)

  -- 13 or 12
  made_none : (k : ℕ) → fault ≡ suc k → (m : Made) → m.number ≡ suc k → Outcome m ps ls
  made_none k e m h = (h ∙ sym e, λ z. absurd (omega arith), rw e, rw e (kept listed ls))

  -- a plan
  made-plan : fault ≡ 0 → (m : Made) → m.number ≡ 0 → plan_from f m.plan ≡ plan_of x f
      → (qs ms : List ℕ) → qs ≡ with_words ps 0 (positions_of x f) → ms ≡ cond listed (with_words ls 0 (leads_of x f)) ls → Outcome m qs ms
  made-plan e m h p qs ms q l = (h ∙ sym e, λ _. p, rw e q, rw e l)

abbrev figures : (c : tie.Start) → Figures
figures c = let a = c.args in figures_from a.figures a.sizes.now a.times.now a.table.now

abbrev showing : (c : tie.Start) → Showing
showing c = showing_of c.args.showing

-- where the visits of a block are told
abbrev begun : (o : tie.After-visits_of) → tie.Start
begun o = o.before.before.before.before.before.before

-- past the test of both lengths
abbrev told : (c : tie.Else-lists_short) → tie.After-visits_of
told c = c.before.before

abbrev start : (c : tie.Else-lists_short) → tie.Start
start c = begun (told c)

legal : (c : tie.Else-lists_short) → Legal (visits_of (showing (start c))) (figures (start c))
legal c = (start c).requires

abbrev Long : tie.Start → Type 0
Long s = let a = s.args in
    (entries_of (showing s) (figures s) ≤ length (words_of a.positions.now))
    × (blocks_of (figures s) ≤ length (words_of (leads_lent a.listed (showing s) (figures s) a.leads.now)))
    × (entries_asked a.listed (blocks_of (figures s)) ≤ length (words_of a.leads.now))

-- the test, for the blocks of all films and as many positions a block as the showing has
shortness : (o : tie.After-visits_of) (t : Bool) → (let a = (begun o).args in
    t ≡ lists_short a.listed o.visits_of.result o.blocks_before-all.result a.positions.now a.leads.now
    → t ≡ lists_short a.listed (visits_of (showing_of a.showing)) (blocks_of (figures (begun o))) a.positions.now a.leads.now)
shortness o t e = let a = (begun o).args in
    e
    ∙ ap₂ (λ (v n : ℕ). lists_short a.listed v n a.positions.now a.leads.now) o.visits_of.ensures o.blocks_before-all.ensures

long : (c : tie.Else-lists_short) → Long (start c)
long c = let s = start c in
    let a = s.args in
    lent_long a.listed (showing s) (figures s) a.positions.now a.leads.now
    (sym (shortness (told c) c.lists_short.result c.lists_short.ensures) ∙ c.if-lists_short.false)

-- a legal shelf has blocks
some-blocks : (s : tie.Start) → 0 < blocks_of (figures s)
some-blocks s = let f = figures s in
    omega (arith, film_two f s.requires 0 (some_film f s.requires), start_ends f s.requires 0 (some_film f s.requires))

returns : tie.Need-returns-then-lists_short
returns c =
    let t = c in
    let o = c in
    let s = begun c.before.before.before in
    let a = s.args in
    let short = sym (shortness c.before.before.before t.lists_short.result t.lists_short.ensures) ∙ t.if-lists_short.true in
    made_none a.listed (showing s) (figures s) a.positions.now a.leads.now 12
    (lent_short a.listed (showing s) (figures s) a.positions.now a.leads.now (some-blocks s) short) _ c.not_made.ensures

blocks-before-requires : tie.Need-blocks_before-all-requires
blocks-before-requires c κs = let s = c in (s.requires.films.1, omega (arith, s.requires.all))

lists-short-requires : tie.Need-lists_short-requires
lists-short-requires c κs =
    let o = c in
    let s = begun c in
    omega (arith, ap₂ ◌*◌ o.visits_of.ensures o.blocks_before-all.ensures, entries_few (showing s) (figures s) s.requires)

plan-numbers-requires : tie.Need-plan_numbers-own-requires
plan-numbers-requires c κs = legal c

returns-2 : tie.Need-returns-then-number-ne-ACCEPTED
returns-2 c =
    let n = c in
    let p = c in
    let e = c in
    let s = start c.before.before.before.before in
    let a = s.args in
    let k = n.stream_fault-number.ensures.0 c.if-number-ne-ACCEPTED.true in
    let none = no_stream_law (showing s) (figures s) _ _ (long c.before.before.before.before).0 (long c.before.before.before.before).1 (sym (plan_streams (showing s) (figures s) _ p.plan_numbers-own.ensures) ∙ k.0) in
    made_none a.listed (showing s) (figures s) a.positions.now a.leads.now 11 none _ (c.not_made-then-number-ne-ACCEPTED.ensures ∙ k.1)

-- where the plan is made and the positions summed
abbrev made : (c : tie.After-sum_positions-total) → tie.After-plan_numbers-own
made c = c.before.before.before

abbrev past : (c : tie.After-sum_positions-total) → tie.Else-lists_short
past c = (made c).before

total : (c : tie.After-sum_positions-total) → c.sum_positions-total.result ≡ total_positions (figures (start (past c)))
total c = c.sum_positions-total.ensures ∙ total_zones _ (legal (past c))

sum-positions-requires : tie.Need-sum_positions-total-requires
sum-positions-requires c κs = let ok = legal c.before.before.before in (legal_zoned _ ok, ok.zones.1)

write-shelf-positions-requires : tie.Need-write_shelf_positions-requires
write-shelf-positions-requires c κs =
    let t = c in
    let e = past c.before.before in
    (shelved (showing (start e)) (figures (start e)) (legal e) _ (total c.before.before), (long e).0)

-- a plan is made: with the positions as they are written, and what is lent beside them
planned : (t : tie.After-sum_positions-total) → (let s = start (past t) in let a = s.args in
    (qs ms : List ℕ) → qs ≡ with_words a.positions.now 0 (shelf_positions (showing s) t.sum_positions-total.result a.figures.blocks a.figures.films)
    → ms ≡ cond a.listed (with_words a.leads.now 0 (leads_of (showing s) (figures s))) a.leads.now
    → Outcome a.listed (showing s) (figures s) a.positions.now a.leads.now
    (record { number = t.stream_fault-number.result; plan = (made t).plan_numbers-own.result }) qs ms)
planned t qs ms q l =
    let p = (made t).plan_numbers-own in
    let e = past t in
    let s = start e in
    let a = s.args in
    let f = figures s in
    let n = t.stream_fault-number in
    let z = t.if-number-ne-ACCEPTED.false in
    let some = some_stream (showing s) f _ _ (long e).0 (long e).1 (λ y. omega (arith, n.ensures.1 z, plan_streams (showing s) f _ p.ensures)) in
    made-plan a.listed (showing s) f a.positions.now a.leads.now some _ z p.ensures qs ms
    (q ∙ ap (with_words a.positions.now 0) (positions_are (showing s) f (legal e) _ (total t))) l

-- where the positions are written
abbrev laid : (c : tie.After-slice_known-3-1) → tie.After-write_shelf_positions
laid c = c.before.before

abbrev summed : (c : tie.After-slice_known-3-1) → tie.After-sum_positions-total
summed c = (laid c).before.before.before

returns-3 : tie.Need-returns-then-not-listed
returns-3 c =
    let b = c in
    let listed = (start (past (summed c.before))).args.listed in
    planned (summed c.before) _ _ (laid c.before).write_shelf_positions.ensures (scratch-left listed (not-true listed c.if-not-listed.true-raw) _ _)

write-shelf-leads-requires : tie.Need-write_shelf_leads-requires
write-shelf-leads-requires c κs =
    let z = c in
    let t = summed c.before.before.before in
    let e = past t in
    let listed = (start e).args.listed in
    (on_shelf (showing (start e)) (figures (start e)) (legal e) _ (total t), all_asked listed (not-false listed z.if-not-listed.false-raw) _ _ (long e).2)

returns-4 : tie.Need-returns
returns-4 c =
    let w = c in
    let z = c in
    let b = c in
    let e = past (summed c.before.before.before.before.before.before) in
    let s = start e in
    let a = s.args in
    let f = figures s in
    planned (summed c.before.before.before.before.before.before) _ _ (laid c.before.before.before.before.before.before).write_shelf_positions.ensures (list_written a.listed (not-false a.listed z.if-not-listed.false-raw) _ _ _
    (w.write_shelf_leads.ensures
    ∙ ap (with_words a.leads.now 0)
    (leads_are (showing s) f (legal e) _ (total (summed c.before.before.before.before.before.before)) _ (plan_worst2 (showing s) f _ (made (summed c.before.before.before.before.before.before)).plan_numbers-own.ensures))))

pub plan_legal_spec : {M : Type 1} → statement M
plan_legal_spec =
    tie.close
    (tie.spec
    blocks-before-requires
    (λ c κs. search rules)
    lists-short-requires
    (λ c κs. search rules)
    (λ c. search rules)
    (λ c. search rules)
    returns
    plan-numbers-requires
    (λ c κs. search rules)
    (λ c κs. search rules)
    (λ c. search rules)
    (λ c. search rules)
    returns-2
    sum-positions-requires
    write-shelf-positions-requires
    (λ c. search rules)
    (λ c. search rules)
    returns-3
    write-shelf-leads-requires
    (λ c. search rules)
    (λ c. search rules)
    returns-4)
