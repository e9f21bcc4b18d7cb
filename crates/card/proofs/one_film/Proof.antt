use mathlib.Core.Path.{refl}
use Rattle.card.specs.Card.{one_film}
use borrow.Author.Rules.{rules}
use Rattle.card.proofs.one_film.Statement.{statement}
use Rattle.card.proofs.one_film.Tie as tie

returns : tie.Need-returns
unfolding one_film
returns c = refl

pub one_film_spec : {M : Type 1} → statement M
one_film_spec = tie.close (tie.spec (λ c. search rules) returns)
