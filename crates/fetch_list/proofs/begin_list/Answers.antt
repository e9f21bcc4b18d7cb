-- The list that is written has the fetches of the answer.
use Rattle.std.proofs.Common.{ap, ◌∙◌}
use Rattle.desk.specs.declared.Fetches.{Fetches}
use Rattle.fetch_list.specs.Fetches.{written}
use Rattle.fetch_list.specs.Begin.{list_after_law}
use Rattle.fetch_list.proofs.begin_list.Goals as goal

pub returns : goal.returns
returns c =
    let begun = c.begin_within-begun.ensures.0 in
    let a = c.args in (
      begun,
      c.write_fetches.ensures
          ∙ ap (λ (f : Fetches). written f f.count a.fetches.now) c.fetches_of.ensures
          ∙ list_after_law a.desk a.positions.now a.leads.now a.fetches.now c.begin_within-begun.result begun,
    )
