use mathlib.Core.Path.{ap, ◌∙◌}
use Rattle.window.specs.declared.Window.{Window}
use Rattle.layout.specs.Answers.{window_answer_of}
use Rattle.window_strings.specs.Calls.{window_call}
use Rattle.window_strings.proofs.worst_window.Goals as goal

pub returns : goal.returns
unfolding window_call
returns c = c.window_answer.ensures ∙ ap (λ (w : Window). window_answer_of w.verdict w.time w.first w.bytes) c.window_of-window.ensures
