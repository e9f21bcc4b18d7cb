use Rattle.zones.proofs.Cursors.{time_held}
use Rattle.zones.proofs.time_at.Goals as goal

pub returns : goal.returns
returns c = let z = c.zone_above-zone in
    let a = c.args in
    time_held a.sizes.now a.times.now z.result a.q z.ensures
