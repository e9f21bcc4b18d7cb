-- What has been read before the first byte.
use Rattle.std.proofs.Common.{refl}
use Rattle.mkcard.specs.Scan.{begun}
use Rattle.mkcard.proofs.scan.start.Goals as goal

pub returns : goal.returns
unfolding begun
returns c = refl
