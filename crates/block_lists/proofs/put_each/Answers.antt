use Rattle.std.proofs.Common.{arith, refl, ap, ◌∙◌, ℕ, List, length}
use Rattle.words.specs.Words.{words_of}
use Rattle.words.specs.Laws.{with_word_entries}
use Rattle.block_lists.proofs.Runs.{writes_start, writes_one, writes_end}
use Rattle.block_lists.proofs.put_each.Goals as goal

pub loop-b-init : goal.loop-b-init
loop-b-init g c = (refl, λ h gives. writes_start _ h _ _ c.requires.within.order)

pub loop-b-preserved : goal.loop-b-preserved
loop-b-preserved g c = (
  ap (λ (s : List ℕ). length (words_of s)) c.put_word.ensures ∙ with_word_entries c.loop-b.list c.loop-b.b c.entry.result ∙ c.loop-b.invariant.0,
  λ h gives. writes_one (c.loop-b.invariant.1 h gives) (omega arith) c.put_word.ensures (gives c.loop-b.b c.entry.result (omega arith) (omega arith) c.entry.ensures),
)

pub returns : goal.returns
returns g c = λ h gives. writes_end (c.loop-b.invariant.1 h gives) (omega arith)
