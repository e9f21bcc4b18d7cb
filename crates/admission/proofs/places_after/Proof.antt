use Prim.Native.Nat.{ℕ}
use mathlib.Core.Path.{◌≡◌, sym, ap, ap₂, ◌∙◌}
use mathlib.Core.List.{List, map}
use native.Mathlib.Omega.{arith}
use lib.ListN.{get_or, set}
use borrow.Author.Rules.{rules}
use Rattle.words.specs.Words.{words_of}
use Rattle.rules.specs.Order.{dropped}
use Rattle.desk.specs.declared.Desk.{Desk}
use Rattle.desk_layout.specs.Layout.{desk_in}
use Rattle.desk_layout.specs.Sized.{wide_in}
use Rattle.admission.specs.Places.{place_after, with_unplaced, with_placed, still_placeless}
use Rattle.admission.proofs.places_after.Statement.{statement}
use Rattle.admission.proofs.places_after.Tie as tie

-- ---- the places, each from a later one

abbrev start : tie.After-place_after → tie.Start
start c = c.before.before.before.before

abbrev given : tie.After-place_after → Desk
given c = desk_in (words_of (start c).args.desk.now)

-- ---- what is known there

-- the places that were read, with the slot's new one
told : (c : tie.After-place_after) → (let i = (start c).args.step.slot in
    set c.all_places-places.result i c.place_after.result ≡ set (given c).places i (place_after (given c) (start c).args.step))
told c = ap₂ (λ (q : List ℕ) (x : ℕ). set q (start c).args.step.slot x) c.all_places-places.ensures c.place_after.ensures

-- the one that it had
had : (c : tie.After-place_after) → (let i = (start c).args.step.slot in get_or c.all_places-places.result i 0 ≡ get_or (given c).places i 0)
had c = ap (λ (q : List ℕ). get_or q (start c).args.step.slot 0) c.all_places-places.ensures

-- ---- the needs

returns : tie.Need-returns-then-gone-eq0
returns c = let p = c in
    told c.before ∙ sym (with_unplaced _ _ _ (sym (had c.before) ∙ c.if-gone-eq0.true))

lower-places-requires : tie.Need-lower_places-requires
lower-places-requires c κs =
    let e = c in
    let p = c in
    let s = start c.before.before.before in
    let m = s.requires.1 in
    let q = still_placeless (given c.before.before.before) s.args.step _ _ m (wide_in s.args.desk.now s.requires.0).places c.streams_in.ensures (told c.before.before.before) in
    (q.0, omega (arith, c.streams_in.ensures, m.few), omega (arith, e.if-gone-eq0.false), q.1)

returns-2 : tie.Need-returns
returns-2 c =
    let e = c in
    let p = c in
    c.lower_places.ensures
    ∙ ap₂ (λ (m : ℕ) (q : List ℕ). map (dropped m) q) (had c.before.before.before.before) (told c.before.before.before.before)
    ∙ sym (with_placed _ _ _ (λ z. e.if-gone-eq0.false (had c.before.before.before.before ∙ z)))

pub places_after_spec : {M : Type 1} → statement M
places_after_spec =
    tie.close
    (tie.spec
    (λ c. search rules)
    (λ c κs. search rules)
    (λ c. search rules)
    (λ c. let m = c.requires.1 in omega (arith, m.few, m.inside))
    (λ c κs. let p = c.requires in (p.0, p.1.few))
    (λ c. search rules)
    (λ c. let m = (start c).requires.1 in omega (arith, m.few, m.inside))
    returns
    (λ c κs. search rules)
    (λ c. search rules)
    lower-places-requires
    returns-2)
