use Rattle.std.proofs.Common.{◌<◌, ◌≡◌, ◌∙◌, get_or, take, length, arith, rules, length-append, length-take}
use Rattle.std.proofs.lemmas.List.{get_or-take}
use Rattle.std.proofs.lemmas.Slice.Zip.{zip_turn, zip_end}
use Rattle.rules.specs.Arrays.{slots_of}
use Rattle.turns.specs.Turns.{least_none}
use Rattle.floor.specs.Floor.{ample}
use Rattle.floor.proofs.Levels.{least_turn, least_end}
use Rattle.floor.proofs.least_level.Goals as goal

pub loop-kind-init : goal.loop-kind-init
loop-kind-init c p xs w = omega (arith, least_none p ample (slots_of p c.args.kinds.now xs c.args.held.now))

pub loop-kind-preserved : goal.loop-kind-preserved
loop-kind-preserved c p xs w =
    let n = c.args.streams in
    let ks = c.args.kinds.now in
    let hs = c.args.held.now in
    let l = c.loop-kind in
    let i = length l.yielded in
    let t =
    zip_turn (take n ks) (take n hs) l.yielded c.into_iter-kind-iterator.result l.kind-iterator c.next.new.self c.next.result (search rules) (search rules)
    l.yielded_by _ c.in-Some.is c.next.ensures.steps
    in
    let b : i < n = omega (arith, t.0, length-take n ks) in
    let k : c.in-Some.field-0-0.now ≡ get_or ks i 0 = t.2 0 ∙ get_or-take n ks i 0 b in
    let h : c.in-Some.field-0-1.now ≡ get_or hs i 0 = t.3 0 ∙ get_or-take n hs i 0 b in
    rw length-append (least_turn p _ ks xs hs w ample i l.level c.lower-level.result (omega (arith, c.requires)) (l.invariant p xs w)
    (rw (k, h) at c.lower-level.ensures.plays) (rw k at c.lower-level.ensures.other))

pub returns : goal.returns
returns c p xs w =
    let n = c.args.streams in
    let ks = c.args.kinds.now in
    let hs = c.args.held.now in
    let l = c.loop-kind in
    let e =
    zip_end (take n ks) (take n hs) l.yielded c.into_iter-kind-iterator.result l.kind-iterator c.next.new.self c.next.result (search rules) (search rules)
    l.yielded_by c.in-None.is c.next.ensures.steps
    in
    least_end p _ ks xs hs w ample (length l.yielded) l.level (omega (arith, e, length-take n ks, length-take n hs, w.long)) (l.invariant p xs w)
