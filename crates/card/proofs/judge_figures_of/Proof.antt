use Rattle.card.specs.Card.{judge_record}
use borrow.Author.Rules.{rules}
use Rattle.card.proofs.judge_figures_of.Statement.{statement}
use Rattle.card.proofs.judge_figures_of.Tie as tie

fault-of-record-requires : tie.Need-fault_of_record-requires
fault-of-record-requires c κs = search rules

returns : tie.Need-returns
unfolding judge_record
returns c = λ t. record { number = c.fault_of_record.ensures t; place = 0 }

pub judge_figures_of_spec : {M : Type 1} → statement M
judge_figures_of_spec = tie.close (tie.spec fault-of-record-requires returns)
