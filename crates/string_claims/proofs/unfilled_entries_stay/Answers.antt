use Rattle.string_claims.specs.UnfilledLaws.{lists_past, strings_past, fetches_past, card_past}
use Rattle.string_claims.proofs.unfilled_entries_stay.Goals as goal

pub returns : goal.returns
returns c = record { planner = lists_past; plans = strings_past; begins = fetches_past; writer = card_past }
