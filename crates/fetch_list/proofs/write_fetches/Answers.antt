use Rattle.std.proofs.Common.{ℕ, List, ap, sym, ◌∙◌}
use native.Mathlib.Numerals.{add-one}
use lib.ListN.{set}
use Rattle.desk.specs.declared.Fetch.{Fetch}
use Rattle.fetch_list.specs.Fetches.{written}
use Rattle.fetch_list.proofs.Written.{written_none, written_more}
use Rattle.fetch_list.proofs.write_fetches.Goals as goal

pub loop-i-init : goal.loop-i-init
loop-i-init c = written_none _ _

-- one entry more
pub loop-i-preserved : goal.loop-i-preserved
loop-i-preserved c =
    let i = c.loop-i.i in
    ap (λ (l : List Fetch). set l i c.entry.result) c.loop-i.invariant
    ∙ written_more _ i _ _ c.entry.ensures
    ∙ ap (λ (n : ℕ). written c.args.fetches n c.args.out.now) (sym (add-one i))
