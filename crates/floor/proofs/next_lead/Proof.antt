use mathlib.Core.Path.{◌≡◌, sym, ap, subst, ◌∙◌}
use mathlib.Core.Bool.{Bool}
use mathlib.Core.List.{List}
use lib.ListN.{get_or}
use Prim.Native.Nat.{ℕ}
use borrow.Author.Rules.{rules}
use Rattle.words.specs.Words.{words_of}
use Rattle.plan.specs.Plan.{listed_at}
use Rattle.desk.specs.declared.Desk.{Desk}
use Rattle.desk_layout.specs.Layout.{desk_in}
use Rattle.desk_columns.specs.Films.{HasStart, entry_of, entry_listed, has_start}
use Rattle.floor.specs.Sources.{Sourced, lead_from}
use Rattle.floor.proofs.next_lead.Statement.{statement}
use Rattle.floor.proofs.next_lead.Tie as tie

abbrev start : tie.After-next_in → tie.Start
start c = c.before.before.before.before.before

abbrev given : tie.Start → Desk
given s = desk_in (words_of s.args.desk.now)

-- the number through the lists
entry-is : (c : tie.After-entry_of-number) → (let s = start c.before in
    c.entry_of-number.result ≡ listed_at (given s).plan.figures (get_or (given s).next s.args.slot 0))
entry-is c =
    let n = c in
    let s = start c.before in
    c.entry_of-number.ensures ∙ ap (entry_of s.args.starts.now) n.next_in.ensures ∙ entry_listed _ _ s.requires.2 _ s.requires.3.film

entry-of-requires : tie.Need-entry_of-number-requires
entry-of-requires c κs = let s = start c in
    subst (HasStart s.args.starts.now) (sym c.next_in.ensures) (has_start _ _ s.requires.3.shelved s.requires.2 _ s.requires.3.film)

lead-from-requires : tie.Need-lead_from-requires
lead-from-requires c κs = let s = start c.before in
    let a = s.args in
    subst (Sourced a.listed a.sizes.now a.times.now a.positions.now a.leads.now) (sym (entry-is c)) s.requires.3.here

-- the lead of a block, of numbers that are equal
lead-same : (listed : Bool) (sizes times ps ls : List ℕ) {v w x y : ℕ} → v ≡ w → x ≡ y
    → lead_from listed sizes times v ps ls x ≡ lead_from listed sizes times w ps ls y
lead-same listed sizes times ps ls e q = rw (e, q)

returns : tie.Need-returns
returns c =
    let e = c in
    let n = c in
    let a = (start c.before.before).args in
    c.lead_from.ensures
    ∙ lead-same a.listed a.sizes.now a.times.now a.positions.now a.leads.now n.worst2_in-worst2.ensures (entry-is c.before)

pub next_lead_spec : {M : Type 1} → statement M
next_lead_spec = tie.close (tie.spec (λ c κs. search rules) (λ c κs. search rules) entry-of-requires lead-from-requires returns)
