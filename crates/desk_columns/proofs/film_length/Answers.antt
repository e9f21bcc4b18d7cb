use mathlib.Core.Path.{sym}
use Rattle.std.proofs.Common.{arith}
use lib.ListN.{get_or-eq_default}
use Rattle.words.specs.Words.{words_of}
use Rattle.pacing.specs.Shelf.{film_in}
use Rattle.desk_layout.specs.Layout.{desk_in}
use Rattle.desk_layout.specs.Sized.{sized_in}
use Rattle.desk_columns.proofs.film_length.Goals as goal

pub returns-then-film : goal.returns-then-film
returns-then-film c = c.length_in.ensures

-- past the last of 16
pub returns : goal.returns
returns c =
    let D = c.args.desk.now in
    sym (get_or-eq_default (desk_in (words_of D)).plan.figures.blocks 0 {n = film_in c.args.name}
    (omega (arith, (sized_in D c.requires).plan.blocks)))
