-- The text of numbers is read back as these numbers.
use Rattle.mkcard.proofs.Texts.{text_card}
use Rattle.mkcard.proofs.make.text_makes_its_card.Goals as goal

pub returns : goal.returns
returns c = text_card
