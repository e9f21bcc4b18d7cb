use Rattle.string_claims.specs.Back.{open_back, join_back, leave_back, begin_back, end_back}
use Rattle.string_claims.proofs.accepted_desk_reads_back.Goals as goal

pub returns : goal.returns
returns c = record { opens = open_back; joins = join_back; leaves = leave_back; begins = begin_back; ends = end_back }
