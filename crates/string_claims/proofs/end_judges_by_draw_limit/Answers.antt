use mathlib.Core.Path.{refl}
use Rattle.desk_calls.specs.Calls.{begin_string}
use Rattle.string_claims.specs.LimitLaws.{judged_by, begun_sweep}
use Rattle.string_claims.proofs.end_judges_by_draw_limit.Goals as goal

pub returns : goal.returns
returns c = record {
  sweeps = λ D ps ls draws k. judged_by D _ refl ps ls draws k;
  begun = λ D ps ls F z qs ms draws k. judged_by (begin_string D ps ls F) _ (begun_sweep D ps ls F z) qs ms draws k;
}
