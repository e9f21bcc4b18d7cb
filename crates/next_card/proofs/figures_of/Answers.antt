use Rattle.small_cards.specs.Cards.{small_figures}
use Rattle.small_cards.specs.Next.{figures_of}
use Rattle.numbers.specs.Limits.{straight_kind}
use Rattle.next_card.proofs.figures_of.Goals as goal

pub returns : goal.returns
unfolding figures_of small_figures
returns c = λ i. record {
  kind = straight_kind;
  zones = c.args.card.zones;
  positions = c.enter.ensures i;
  times = c.enter-2.ensures i;
  films = 1;
  blocks = c.one_film.ensures i;
  bytes = 1000;
  rate = 1000;
  table = c.overheads.ensures i;
}
