use Rattle.words.specs.Words.{words_of}
use Rattle.plan_layout.specs.Layout.{plan_in}
use Rattle.card.specs.Read.{figures_from}
use Rattle.plan_layout.proofs.scalars_at.Goals as goal

pub returns : goal.returns
unfolding plan_in
returns c =
    let ws = words_of c.args.list.now in
    let p = plan_in ws in
    λ t. figures_from (record {
      kind = c.word_at.ensures t;
      zones = c.word_at-2.ensures t;
      films = c.word_at-3.ensures t;
      blocks = c.read_array.ensures t;
      bytes = c.word_at-4.ensures t;
      rate = c.word_at-5.ensures t;
    })
    p.figures.positions p.figures.times p.figures.table
