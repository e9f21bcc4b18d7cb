use native.Mathlib.Omega.{arith}
use borrow.Author.Rules.{rules}
use Rattle.floor.proofs.added_lead.Statement.{statement}
use Rattle.floor.proofs.added_lead.Tie as tie

lead-from-requires : tie.Need-lead_from-requires
lead-from-requires c κs = c.requires (omega arith) (omega arith)

lead-from-requires-2 : tie.Need-lead_from-requires-in-3
lead-from-requires-2 c κs = c.requires (omega arith) (omega arith)

returns : tie.Need-returns-in-2
returns c = (λ a b. c.lead_from.ensures, λ n. absurd (n (omega arith) (omega arith)))

returns-2 : tie.Need-returns-in-3
returns-2 c = (λ a b. c.lead_from-in-3.ensures, λ n. absurd (n (omega arith) (omega arith)))

returns-3 : tie.Need-returns-in_default
returns-3 c = search rules

pub added_lead_spec : {M : Type 1} → statement M
added_lead_spec =
    tie.close (tie.spec lead-from-requires lead-from-requires-2 returns returns-2 returns-3)
