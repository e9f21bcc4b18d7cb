-- What the window call answers on byte strings. It writes none.
use Rattle.std.specs.Prelude.{ℕ, List, cond, length, eqb}
use Rattle.numbers.specs.Refusals.{not_sound}
use Rattle.words.specs.Words.{words_of}
use Rattle.window.specs.declared.Window.{Window}
use Rattle.window.specs.Window.{refusal, window_answer}
use Rattle.layout.specs.declared.FilmdiskWindowAnswer.{FilmdiskWindowAnswer}
use Rattle.layout.specs.Answers.{window_answer_of}
use Rattle.plan_layout.specs.Layout.{plan_in, plan_size}

-- the window of the plan that the string P says; `of another length is 14 where it is read`
unfoldable pub window_from : List ℕ → List ℕ → ℕ → Window
window_from P ps k = cond (eqb (length P) plan_size) (window_answer (plan_in (words_of P)) ps k) (refusal not_sound)

-- THE ANSWER of the window call with a plan string P, a positions list ps and k (T9.2 to T9.8)
unfoldable pub window_call : List ℕ → List ℕ → ℕ → FilmdiskWindowAnswer
window_call P ps k = let w = window_from P ps k in window_answer_of w.verdict w.time w.first w.bytes
