use native.Mathlib.Omega.{arith}
use borrow.Author.Rules.{rules}
use Rattle.desk.specs.View.{Wide}
use Rattle.sweep.specs.Ended.{ends_said, ended_said}
use Rattle.sweep.proofs.end_sweep.Statement.{statement}
use Rattle.sweep.proofs.end_sweep.Tie as tie

-- the arrays have 256 entries
wide : (c : tie.Start) → Wide c.args.desk
wide c = record { kinds = search rules; next = search rules; held = search rules; places = search rules }

abbrev start : tie.After-string_of-string → tie.Start
start c = c.before.before

end-slots-requires : tie.Need-end_slots-requires
end-slots-requires c κs =
    let w = c in
    let s = start c.before.before.before.before.before.before.before in
    (omega (arith, w.string_of-string.ensures.1), ends_said s.args.desk _ w.string_of-string.ensures.0 _ (wide s) s.requires.0 s.requires.1)

returns : tie.Need-returns
returns c =
    let w = c in
    ended_said (start c.before.before.before.before.before.before.before.before).args.desk _ w.string_of-string.ensures.0 _ _ _ _ c.end_slots.ensures

pub end_sweep_spec : {M : Type 1} → statement M
end_sweep_spec = tie.close (tie.spec (λ c κs. search rules) (λ c. search rules) end-slots-requires returns)
