use mathlib.Core.Path.{refl, ◌∙◌}
use Rattle.card.specs.Read.{blank_zones, blank_films, blank_table}
use Rattle.card_reader.specs.Told.{told_refused, told_figures_law}
use borrow.Author.Rules.{rules}
use Rattle.card_reader.proofs.read_card_of.Statement.{statement}
use Rattle.card_reader.proofs.read_card_of.Tie as tie

read-into-requires : tie.Need-read_into-told-requires
unfolding blank_zones blank_films blank_table
read-into-requires c κs = (refl, refl, refl, refl)

enum-known-told : tie.Need-enum_known-told
enum-known-told c = search rules

refused-card-requires : tie.Need-refused_card-requires
refused-card-requires c κs = search rules

enum-known-told-2 : tie.Need-enum_known-told-in-Figures-1
enum-known-told-2 c = search rules

returns : tie.Need-returns-in-Refused
returns c = c.refused_card.ensures ∙ told_refused _ _ _ _ c.in-Refused.is ∙ c.read_into-told.ensures

returns-2 : tie.Need-returns-in-Figures
returns-2 c = told_figures_law _ _ _ _ c.in-Figures.is ∙ c.read_into-told.ensures

pub read_card_of_spec : {M : Type 1} → statement M
read_card_of_spec = tie.close (tie.spec read-into-requires enum-known-told refused-card-requires enum-known-told-2 returns returns-2)
