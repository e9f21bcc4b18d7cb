use Rattle.words.specs.Words.{words_of}
use Rattle.plan_layout.specs.Layout.{plan_in}
use Rattle.plan.specs.Plan.{plan_from}
use Rattle.plan_layout.proofs.numbers_at.Goals as goal

pub returns : goal.returns
unfolding plan_in
returns c =
    let ws = words_of c.args.list.now in
    let p = plan_in ws in
    λ t. plan_from p.figures (record {
      streams = c.word_at.ensures t;
      buffer = c.word_at-2.ensures t;
      worst2 = c.word_at-3.ensures t;
      margin = c.word_at-4.ensures t;
      showing = c.word_at-5.ensures t;
      worstat = c.word_at-6.ensures t;
    })
