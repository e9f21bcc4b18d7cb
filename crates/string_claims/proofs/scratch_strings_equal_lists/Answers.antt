use Rattle.string_claims.specs.ScratchLaws.{same_plans, same_opens, same_strings}
use Rattle.string_claims.proofs.scratch_strings_equal_lists.Goals as goal

pub returns : goal.returns
returns c = record { plans = same_plans; opens = same_opens; desk = same_strings }
