use Prim.Native.Nat.{ℕ, ◌<◌}
use mathlib.Core.Path.{◌≡◌, sym, ap, ap₂, ◌∙◌}
use mathlib.Core.List.{List, map}
use native.Mathlib.Omega.{arith}
use lib.ListN.{set}
use borrow.Author.Rules.{rules}
use Rattle.words.specs.Words.{words_of, with_words}
use Rattle.rules.specs.Order.{dropped}
use Rattle.desk.specs.declared.Desk.{Desk}
use Rattle.desk.specs.Records.{with_slot}
use Rattle.desk_layout.specs.Layout.{desk_words, desk_in}
use Rattle.desk_layout.specs.Sized.{wide_in}
use Rattle.admission.specs.Moves.{kind_after, next_after}
use Rattle.admission.specs.Places.{places_after, with_unplaced, with_placed, still_placeless}
use Rattle.move_strings.proofs.Written.{slot_long, slot_read, slot_then_lowered}
use Rattle.move_strings.proofs.write_move.Statement.{statement}
use Rattle.move_strings.proofs.write_move.Tie as tie

-- ---- the places, each from a later one

abbrev placed : tie.After-put_slot → tie.After-place_after-place
placed c = c.before.before

abbrev had : tie.After-put_slot → tie.After-place_in-gone
had c = (placed c).before

abbrev counted : tie.After-put_slot → tie.After-streams_in-streams
counted c = (had c).before

abbrev named : tie.After-put_slot → tie.After-next_after-next
named c = (counted c).before

abbrev known : tie.After-put_slot → tie.After-slice_known-1
known c = (named c).before.before.before

abbrev start : tie.After-put_slot → tie.Start
start c = (known c).before

abbrev given : tie.After-put_slot → Desk
given c = desk_in (words_of (start c).args.desk.now)

-- ---- what is known there

-- the slot with its kind, its next block and these places
told : (c : tie.After-put_slot) {qs : List ℕ} → (let s = (start c).args.step in let d = given c in
    qs ≡ places_after d s → desk_words (with_slot d s.slot (named c).kind_after-kind.result (named c).next_after-next.result qs)
    ≡ desk_words (with_slot d s.slot (kind_after s) (next_after s) (places_after d s)))
told c e =
    let n = named c in
    λ t. desk_words (with_slot (given c) (start c).args.step.slot (n.kind_after-kind.ensures t) (n.next_after-next.ensures t) (e t))

small : (c : tie.After-put_slot) → (placed c).place_after-place.result < 4294967296
small c = search rules

-- ---- the needs

returns : tie.Need-returns-then-gone-eq0
returns c =
    let p = c in
    let d = given c.before.before.before in
    p.put_slot.ensures
    ∙ ap (with_words (start c.before.before.before).args.desk.now 0) (told c.before.before.before
    (ap (set d.places _) (placed c.before.before.before).place_after-place.ensures ∙ sym (with_unplaced d.places _ _ (sym (had c.before.before.before).place_in-gone.ensures ∙ c.if-gone-eq0.true))))

lower-places-requires : tie.Need-lower_places-requires
lower-places-requires c κs =
    let p = c in
    let s = start c.before.before.before.before in
    let D = s.args.desk.now in
    let m = s.requires.1 in
    let read = slot_read D _ (known c.before.before.before.before).slice_known-1.given s.requires.0 _ _ _ _ p.put_slot.ensures (small c.before.before.before.before) in
    let q = still_placeless (given c.before.before.before.before) s.args.step _ _ m (wide_in D s.requires.0).places (counted c.before.before.before.before).streams_in-streams.ensures
    (read ∙ ap (set (given c.before.before.before.before).places _) (placed c.before.before.before.before).place_after-place.ensures) in (
      omega (arith, slot_long D _ (known c.before.before.before.before).slice_known-1.given s.requires.0 _ _ _ _ p.put_slot.ensures),
      omega (arith, (counted c.before.before.before.before).streams_in-streams.ensures, m.few),
      omega (arith, c.if-gone-eq0.false),
      q.1,
    )

returns-2 : tie.Need-returns
returns-2 c =
    let l = c in
    let e = c in
    let p = c in
    let s = start c.before.before.before.before.before.before.before in
    let D = s.args.desk.now in
    let d = given c.before.before.before.before.before.before.before in
    slot_then_lowered D _ (known c.before.before.before.before.before.before.before).slice_known-1.given s.requires.0 _ _ _ _ p.put_slot.ensures _ _ (small c.before.before.before.before.before.before.before) l.lower_places.ensures
    ∙ ap (with_words D 0) (told c.before.before.before.before.before.before.before
    (ap₂ (λ (m x : ℕ). map (dropped m) (set d.places s.args.step.slot x)) (had c.before.before.before.before.before.before.before).place_in-gone.ensures (placed c.before.before.before.before.before.before.before).place_after-place.ensures
    ∙ sym (with_placed d.places _ _ (λ z. e.if-gone-eq0.false ((had c.before.before.before.before.before.before.before).place_in-gone.ensures ∙ z)))))

pub write_move_spec : {M : Type 1} → statement M
write_move_spec =
    tie.close
    (tie.spec
    (λ c. search rules)
    (λ c κs. search rules)
    (λ c κs. search rules)
    (λ c κs. search rules)
    (λ c. search rules)
    (λ c κs. search rules)
    (λ c κs. search rules)
    (λ c κs. search rules)
    (λ c. search rules)
    returns
    lower-places-requires
    (λ c. search rules)
    returns-2)
