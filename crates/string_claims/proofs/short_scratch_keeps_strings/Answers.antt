use Rattle.string_claims.specs.ScratchLaws.{short_plans, short_strings}
use Rattle.string_claims.proofs.short_scratch_keeps_strings.Goals as goal

pub returns : goal.returns
returns c = record { plans = short_plans; desk = short_strings }
