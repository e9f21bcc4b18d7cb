use Rattle.string_claims.specs.Plans.{strings_windows}
use Rattle.string_claims.proofs.planned_strings_have_windows.Goals as goal

pub returns : goal.returns
returns c = λ x s p ps ls y h k. strings_windows x s p ps ls y h k
