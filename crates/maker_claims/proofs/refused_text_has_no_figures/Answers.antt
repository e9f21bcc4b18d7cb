use Rattle.maker_claims.proofs.Accepted.{refused_blank}
use Rattle.maker_claims.proofs.refused_text_has_no_figures.Goals as goal

pub returns : goal.returns
returns c = refused_blank
