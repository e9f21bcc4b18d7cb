use native.Mathlib.Omega.{arith}
use mathlib.Core.Path.{◌≡◌, ◌∙◌}
use Prim.Native.Nat.{ℕ, ◌<◌}
use lib.ListN.{get_or}
use borrow.Author.Rules.{rules}
use Rattle.words.specs.Words.{words_of}
use Rattle.desk.specs.declared.Desk.{Desk}
use Rattle.desk_layout.specs.Layout.{desk_in}
use Rattle.grants.specs.Grants.{leads_by_slot}
use Rattle.grants.proofs.Granting.{eldest_none, eldest_first}
use Rattle.grants.proofs.Tried.{tried_sourced, tried_lead}
use Rattle.grants.proofs.eldest_lead.Statement.{statement}
use Rattle.grants.proofs.eldest_lead.Tie as tie

-- ---- the places, each from a later one

abbrev zoned : tie.After-film_starts-starts → tie.After-zone_times-times
zoned c = c.before

abbrev asks : tie.After-film_starts-starts → tie.Else-count-eq0
asks c = c.before.before.before

abbrev start : tie.Else-count-eq0 → tie.Start
start c = c.before.before.before.before

abbrev lent : tie.After-starts-1 → tie.After-slot_at-slot
lent c = c.before.before.before

abbrev given : tie.Start → Desk
given s = desk_in (words_of s.args.desk.now)

-- the leads of the slots
abbrev lead : tie.Start → ℕ → ℕ
lead s = let a = s.args in leads_by_slot a.listed (given s) a.positions.now a.leads.now

some : (c : tie.Else-count-eq0) → 0 < (start c).args.count
some c = omega (arith, c.if-count-eq0.false)

-- ---- the needs

returns : tie.Need-returns-then-count-eq0
returns c = (λ p n ks xs hs qs w a o. eldest_none p _ n ks xs hs qs _ _ w a o c.if-count-eq0.true, omega arith)

film-starts-requires : tie.Need-film_starts-starts-requires
film-starts-requires c κs = let s = start c.before.before in (s.requires.0, s.requires.2.shelved)

next-lead-requires : tie.Need-next_lead-requires
next-lead-requires c κs =
    let t = lent c in
    let f = t.before in
    let z = zoned f in
    let s = start (asks f) in
    let e = t.slot_at-slot.ensures in (
      e.1,
      s.requires.0,
      f.film_starts-starts.ensures,
      tried_sourced z.zone_sizes-sizes.ensures z.zone_times-times.ensures e.0 (s.requires.2.here 1 (omega arith) (omega (arith, some (asks f)))),
    )

returns-2 : tie.Need-returns
returns-2 c =
    let t = lent c.before in
    let f = t.before in
    let z = zoned f in
    let s = start (asks f) in
    let e = t.slot_at-slot.ensures in
    let a = s.args in
    let own : c.next_lead.result ≡ lead s (get_or a.line.now 1 0) =
    c.next_lead.ensures
    ∙ tried_lead a.listed (given s) a.positions.now a.leads.now z.zone_sizes-sizes.ensures z.zone_times-times.ensures e.0
    in (
      λ p n ks xs hs qs w k o. own ∙ eldest_first p _ n ks xs hs qs _ _ w k o (some (asks f)) (omega (arith, e.0, e.1)),
      omega (arith, own, s.requires.2.small 1 (omega arith) (omega (arith, some (asks f)))),
    )

pub eldest_lead_spec : {M : Type 1} → statement M
eldest_lead_spec =
    tie.close
    (tie.spec
    returns
    (λ c κs. search rules)
    (λ c κs. search rules)
    film-starts-requires
    (λ c κs. search rules)
    next-lead-requires
    returns-2)
