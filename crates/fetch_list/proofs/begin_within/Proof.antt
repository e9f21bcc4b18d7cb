use mathlib.Core.Path.{ap}
use native.Mathlib.Omega.{arith}
use borrow.Author.Rules.{rules}
use Rattle.legality.specs.Legality as legality
use Rattle.desk.specs.declared.Begun.{Begun}
use Rattle.desk.specs.View.{Wide}
use Rattle.scheduler.specs.Count.{begin_few}
use Rattle.fetch_list.proofs.begin_within.Statement.{statement}
use Rattle.fetch_list.proofs.begin_within.Tie as tie

wide : (c : tie.Start) → Wide c.args.desk
wide c = record { kinds = search rules; next = search rules; held = search rules; places = search rules }

slim : (c : tie.Start) → legality.Wide c.args.desk.plan.figures
slim c = (search rules, search rules, search rules, search rules)

begin-requires : tie.Need-begin-requires
begin-requires c κs = search rules

returns : tie.Need-returns
returns c =
    let s = c in
    let b = c.begin.ensures in
    let f = begin_few s.args.desk (wide c.before.before.before) (slim c.before.before.before) s.args.positions.now s.args.leads.now s.args.room in
    let k = ap (λ (x : Begun). x.fetches.count) b in
    (b, omega arith, omega arith)

pub begin_within_spec : {M : Type 1} → statement M
begin_within_spec = tie.close (tie.spec begin-requires returns)
