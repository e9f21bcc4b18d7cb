use Prim.Native.Nat.{ℕ}
use mathlib.Core.Path.{◌≡◌, refl, ap, ◌∙◌}
use Rattle.words.specs.Words.{Bytes}
use Rattle.words.specs.Laws.{bytes_fit}
use Rattle.card.specs.declared.CardRead.{CardRead}
use Rattle.card.specs.Read.{blank_zones, blank_films, blank_table, read_card}
use Rattle.card_reader.specs.Told.{told_refused, told_figures_law}
use Rattle.round_trip.specs.RoundTrip.{card_legal}
use Rattle.placement.specs.Showing.{visits_of}
use Rattle.plan.specs.Plan.{showing_of}
use Rattle.plan_strings.proofs.Ways.{without_room, other_length, refused_card_law, planned_card}
use borrow.Author.Rules.{rules}
use Rattle.plan_strings.proofs.plan_showing.Statement.{statement}
use Rattle.plan_strings.proofs.plan_showing.Tie as tie

-- where the plan string has its length
abbrev start : tie.Else-plan-ne-PLAN_BYTES → tie.Start
start c = c.before.before.before.before.before.before

bytes : (c : tie.Else-plan-ne-PLAN_BYTES) → Bytes (start c).args.card.now
bytes c = bytes_fit (start c).args.card.now c.shared_slice_known-1.given

-- a card as it was read is read for the positions that a block of the showing takes
read_as : (c : tie.Else-plan-ne-PLAN_BYTES) (r : CardRead) → (let a = (start c).args in
    r ≡ read_card c.visits_of-visits.result a.card.now → r ≡ read_card (visits_of (showing_of a.showing)) a.card.now)
read_as c r e = e ∙ ap (λ (k : ℕ). read_card k (start c).args.card.now) c.visits_of-visits.ensures

-- where the card was read
abbrev sized : tie.After-read_into-told → tie.Else-plan-ne-PLAN_BYTES
sized c = c.before.before.before.before.before

returns : tie.Need-returns-then-plan-ne-PLAN_BYTES
returns c = let o = c in
    let a = o.args in
    let x = showing_of a.showing in
    other_length a.listed x a.card.now _ _ _ c.if-plan-ne-PLAN_BYTES.true _
    (c.unwritten.ensures x ∙ ap (λ (k : ℕ). without_room x (read_card k a.card.now)) o.visits_of-visits.ensures)

read-into-requires : tie.Need-read_into-told-requires
unfolding blank_zones blank_films blank_table
read-into-requires c κs = (refl, refl, refl, refl)

plan-into-requires : tie.Need-plan_into-requires
plan-into-requires c κs =
    let t = c in
    let r = c in
    let z = sized c.before.before.before.before.before.before.before in
    (z.if-plan-ne-PLAN_BYTES.false, card_legal _ _ (bytes z) _ (read_as z _ (told_figures_law _ _ _ _ t.in-Figures.is ∙ r.read_into-told.ensures)) refl)

returns-2 : tie.Need-returns-in-Refused
returns-2 c =
    let w = c in
    let t = c in
    let r = c in
    let z = sized c.before.before.before.before.before in
    refused_card_law (start z).args.listed _ _ _ _ _ z.if-plan-ne-PLAN_BYTES.false (bytes z) _ _ (read_as z _ (told_refused _ _ _ _ t.in-Refused.is ∙ r.read_into-told.ensures)) _
    w.refused.ensures.0 _ w.refused.ensures.1

returns-3 : tie.Need-returns-in-Figures
returns-3 c =
    let p = c in
    let lent = c in
    let t = c in
    let r = c in
    let z = sized c.before.before.before.before.before.before.before.before.before.before.before.before.before.before in
    let a = (start z).args in
    planned_card a.listed _ _ _ _ a.leads.now z.if-plan-ne-PLAN_BYTES.false _ (read_as z _ (told_figures_law _ _ _ _ t.in-Figures.is ∙ r.read_into-told.ensures)) _ _ _ _
    p.plan_into.ensures

pub plan_showing_spec : {M : Type 1} → statement M
plan_showing_spec =
    tie.close
    (tie.spec
    (λ c κs. search rules)
    (λ c κs. search rules)
    returns
    read-into-requires
    (λ c. search rules)
    (λ c κs. search rules)
    (λ c. search rules)
    plan-into-requires
    (λ c. search rules)
    returns-2
    (λ c. search rules)
    (λ c. search rules)
    (λ c. search rules)
    returns-3)
