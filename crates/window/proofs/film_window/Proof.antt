use native.Mathlib.Omega.{arith}
use borrow.Author.Tests.{lt-ltb, le-ltb}
use Rattle.placement.specs.Zones.{time_at}
use Rattle.placement.specs.Showing.{laying}
use Rattle.plan.specs.Plan.{showing_of}
use Rattle.window.specs.WindowLaws.{window_at_few}
use Rattle.window.proofs.film_window.Statement.{statement}
use Rattle.window.proofs.film_window.Tie as tie

returns : tie.Need-returns-then-blocks-count
returns c = let a = c.args in rw (lt-ltb a.blocks a.count c.if-blocks-count.true) (omega arith)

worst-blocks-requires : tie.Need-worst_blocks-requires
worst-blocks-requires c κs = let p = c.requires in (p.0, p.1, p.2, p.3, c.if-blocks-count.false)

returns-2 : tie.Need-returns
returns-2 c =
    let s = c in
    let a = s.args in
    let τ = time_at a.sizes.now a.times.now in
    let w = c.worst_blocks.ensures in
    rw (le-ltb a.blocks a.count c.if-blocks-count.false) (
      w.0,
      (
        w.1,
        omega (
          arith,
          w.1,
          window_at_few (showing_of a.showing) τ (laying (showing_of a.showing) a.total a.blocks) a.blocks a.count s.requires.2,
        ),
      ),
    )

pub film_window_spec : {M : Type 1} → statement M
film_window_spec = tie.close (tie.spec returns worst-blocks-requires returns-2)
