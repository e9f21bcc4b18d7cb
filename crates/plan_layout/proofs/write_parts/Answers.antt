use Rattle.plan_layout.specs.RoundTrip.{plan_stored}
use Rattle.plan_layout.proofs.write_parts.Goals as goal

pub returns : goal.returns
returns c = let figures = c.write_figures.ensures in plan_stored _ _ _ figures.1 (rw (c.write_words.ensures, figures.0))
