-- The lead of a request that is tried, by the zones and the slot as they were read.
-- Assumes nothing.
use Prim.Native.Nat.{ℕ}
use mathlib.Core.Path.{◌≡◌}
use mathlib.Core.Bool.{Bool}
use mathlib.Core.List.{List}
use Rattle.desk.specs.declared.Desk.{Desk}
use Rattle.floor.specs.Sources.{NextSourced, leads_next}
use Rattle.grants.specs.Grants.{leads_by_slot}

pub tried_sourced : {listed : Bool} {d : Desk} {sizes times ps ls : List ℕ} {i j : ℕ} → sizes ≡ d.plan.figures.positions
    → times ≡ d.plan.figures.times → i ≡ j → NextSourced listed d d.plan.figures.positions d.plan.figures.times ps ls j
    → NextSourced listed d sizes times ps ls i
tried_sourced a b e h = rw (a, b, e) h

pub tried_lead : (listed : Bool) (d : Desk) (ps ls : List ℕ) {sizes times : List ℕ} {i j : ℕ} → sizes ≡ d.plan.figures.positions
    → times ≡ d.plan.figures.times → i ≡ j → leads_next listed d sizes times ps ls i ≡ leads_by_slot listed d ps ls j
tried_lead listed d ps ls a b e = rw (a, b, e)
