use mathlib.Core.Path.{sym, ◌∙◌}
use native.Mathlib.Nat.{le_refl}
use borrow.Author.Rules.{rules}
use Rattle.placement.specs.Showing.{laying}
use Rattle.plan.specs.Plan.{walk_of}
use Rattle.worst_row.proofs.RowLaws.{comes_on}
use Rattle.worst_row.proofs.step_on.Statement.{statement}
use Rattle.worst_row.proofs.step_on.Tie as tie

returns : tie.Need-returns
returns c = let s = c in
    let a = s.args in
    let w = c.walk_to-walk.ensures in (
      comes_on a.sizes.now a.times.now (laying (walk_of a.showing) a.total a.blocks) a.blocks _ a.at.next a.at.next _ w
          (le_refl a.at.next) s.requires.2 c.following.ensures,
      (c.side.ensures ∙ sym (w.times a.at.next (le_refl a.at.next) w.within), c.following.ensures),
    )

pub step_on_spec : {M : Type 1} → statement M
step_on_spec = tie.close (tie.spec (λ c κs. search rules) (λ c κs. search rules) (λ c κs. search rules) returns)
