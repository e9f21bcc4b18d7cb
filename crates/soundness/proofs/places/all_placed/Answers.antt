use Prim.Native.Nat.{ℕ}
use mathlib.Core.Path.{sym, subst, ◌∙◌}
use native.Mathlib.Omega.{arith}
use Rattle.words.specs.Words.{words_of}
use Rattle.desk_layout.specs.Layout.{desk_in}
use Rattle.desk_layout.specs.Sized.{wide_in}
use Rattle.soundness.specs.Facts.{Placed}
use Rattle.soundness.proofs.Seeing.{none_placed}
use Rattle.soundness.proofs.Tells.{tells_yes}
use Rattle.soundness.proofs.places.all_placed.Goals as goal

pub returns-then-asked-eq0 : goal.returns-then-asked-eq0
returns-then-asked-eq0 c =
    let p = c.requires in
    let d = desk_in (words_of c.args.desk.now) in
    tells_yes (subst (λ (n : ℕ). Placed n c.args.streams d.kinds d.places) (sym p.2)
    (none_placed _ _ _ (omega (arith, p.0, (wide_in c.args.desk.now p.1).kinds)) (sym p.2 ∙ c.if-asked-eq0.true) p.4))

pub each_once-requires : goal.each_once-requires
each_once-requires c = let p = c.requires in (p.0, p.1, p.3, p.4)

pub returns : goal.returns
returns c = c.each_once.ensures
