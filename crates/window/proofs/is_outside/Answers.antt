use borrow.Author.Tests.{lt-ltb, le-ltb, eq-eqb, ne_eqb}
use Rattle.window.specs.Window.{is_outside}
use Rattle.window.proofs.is_outside.Goals as goal

pub returns-then-count-eq0 : goal.returns-then-count-eq0
unfolding is_outside
returns-then-count-eq0 c = simp (eq-eqb _ _ c.if-count-eq0.true)

pub returns-then-count-gt-MAX_WINDOW : goal.returns-then-count-gt-MAX_WINDOW
unfolding is_outside
returns-then-count-gt-MAX_WINDOW c = simp (ne_eqb _ _ c.if-count-eq0.false, lt-ltb _ _ c.if-count-gt-MAX_WINDOW.true)

pub returns : goal.returns
unfolding is_outside
returns c = simp (ne_eqb _ _ c.if-count-eq0.false, le-ltb _ _ c.if-count-gt-MAX_WINDOW.false)
