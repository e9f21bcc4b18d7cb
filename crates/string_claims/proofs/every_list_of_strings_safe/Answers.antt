use Rattle.string_claims.proofs.ListLaws.{strings_safe}
use Rattle.string_claims.proofs.every_list_of_strings_safe.Goals as goal

pub returns : goal.returns
returns c = strings_safe
