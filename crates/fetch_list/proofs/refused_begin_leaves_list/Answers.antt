use Rattle.fetch_list.specs.Begin.{list_kept}
use Rattle.fetch_list.proofs.refused_begin_leaves_list.Goals as goal

pub returns : goal.returns
returns c = list_kept
