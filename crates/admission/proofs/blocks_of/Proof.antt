use mathlib.Core.Path.{sym}
use native.Mathlib.Omega.{arith}
use lib.ListN.{get_or-eq_default}
use Rattle.words.specs.Words.{words_of}
use Rattle.desk_layout.specs.Layout.{desk_in}
use Rattle.desk_layout.specs.Sized.{sized_in}
use Rattle.admission.proofs.blocks_of.Statement.{statement}
use Rattle.admission.proofs.blocks_of.Tie as tie

returns : tie.Need-returns-then-film-lt-MAX_FILMS
returns c = c.length_in.ensures

-- past the last of 16
returns-2 : tie.Need-returns
returns-2 c =
    let s = c in
    let D = s.args.desk.now in
    sym (get_or-eq_default (desk_in (words_of D)).plan.figures.blocks 0 {n = s.args.film}
    (omega (arith, (sized_in D s.requires).plan.blocks, c.if-film-lt-MAX_FILMS.false)))

pub blocks_of_spec : {M : Type 1} → statement M
blocks_of_spec = tie.close (tie.spec (λ c κs. omega arith) returns returns-2)
