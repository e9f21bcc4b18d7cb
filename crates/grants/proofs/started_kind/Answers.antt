use native.Mathlib.Omega.{arith}
use mathlib.Core.Path.{◌≡◌, sym, ap, ◌∙◌}
use Rattle.turns.specs.Turns.{starts_playing, starts_not}
use Rattle.rules.specs.Arrays.{slot_of}
use Rattle.grants.proofs.started_kind.Goals as goal

pub returns-then-mark-product : goal.returns-then-mark-product
returns-then-mark-product c = λ p b. sym (starts_playing p _ (slot_of p c.args.kind b c.args.held) (omega arith)
    (omega arith))

pub returns-else-mark-product : goal.returns-else-mark-product
returns-else-mark-product c = λ p b. let a = c.args in
    let k : a.kind ≡ 2 = omega arith in
    ap (λ n. slot_of p n b a.held) (sym k) ∙ sym (starts_not p _ (slot_of p a.kind b a.held) (λ _. omega arith))

pub returns-in_default : goal.returns-in_default
returns-in_default c = λ p b. sym (starts_not p _ (slot_of p c.args.kind b c.args.held) (λ z. absurd (omega arith)))
