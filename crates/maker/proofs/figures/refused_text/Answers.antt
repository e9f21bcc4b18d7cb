use Rattle.maker.specs.Maker.{refused_text}
use Rattle.maker.proofs.figures.refused_text.Goals as goal

pub returns : goal.returns
unfolding refused_text
returns c = let a = c.args in λ t. record { verdict = record { number = a.number; place = a.line }; figures = c.no_figures.ensures t }
