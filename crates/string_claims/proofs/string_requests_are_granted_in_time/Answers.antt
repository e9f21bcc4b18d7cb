use Rattle.string_claims.proofs.ListLaws.{strings_ordered, strings_in_time}
use Rattle.string_claims.proofs.string_requests_are_granted_in_time.Goals as goal

pub returns : goal.returns
returns c = record { order = strings_ordered; time = strings_in_time }
