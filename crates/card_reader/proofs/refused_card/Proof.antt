use mathlib.Core.Path.{refl}
use Rattle.card.specs.Read.{refused_card, blank_figures, blank_zones, blank_films, blank_table}
use Rattle.card_reader.proofs.refused_card.Statement.{statement}
use Rattle.card_reader.proofs.refused_card.Tie as tie

returns : tie.Need-returns
unfolding refused_card blank_figures blank_zones blank_films blank_table
returns c = refl

pub refused_card_spec : {M : Type 1} → statement M
refused_card_spec = tie.close (tie.spec returns)
