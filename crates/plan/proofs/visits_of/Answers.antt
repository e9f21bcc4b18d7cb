use mathlib.Core.Path.{sym, ap}
use Rattle.placement.specs.Showing.{visits_of}
use Rattle.plan.specs.Check.{shows_pairs, word_visits}
use Rattle.plan.proofs.visits_of.Goals as goal

pub returns-then-showing-eq-PAIRS : goal.returns-then-showing-eq-PAIRS
returns-then-showing-eq-PAIRS c = sym (ap visits_of (shows_pairs _ c.if-showing-eq-PAIRS.true))

pub returns : goal.returns
returns c = sym (word_visits _ c.if-showing-eq-PAIRS.false)
