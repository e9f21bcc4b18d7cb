-- Laws of what specs/Written defines.
use Rattle.std.specs.Prelude.{ℕ, ◌≤◌, ◌≡◌, true, List, length}
use Rattle.std.proofs.Common.{◌∙◌, arith}
use Rattle.laws.specs.Bools.{and_left, and_right, and_both}
use Rattle.words.specs.Words.{words_of, with_words}
use Rattle.card.specs.Card.{Legal, total_positions, blocks_of}
use Rattle.legality.specs.Legality.{Wide}
use Rattle.placement.specs.Showing.{visits_of}
use Rattle.plan.specs.declared.Plan.{Plan}
use Rattle.plan.specs.Plan.{showing_of, showing_in, plan_of, leads_of}
use Rattle.plan.specs.Answer.{has_numbers, has_positions, has_leads, is_plan}
use Rattle.plan.specs.Check.{written_begins}
use Rattle.plan.proofs.Check.{numbered}
use Rattle.plan.specs.Disk.{shelf_leads}
use Rattle.plan.specs.Films.{leads_length}
use Rattle.plan.proofs.Films.{leads_words}
use Rattle.plan.specs.Ways.{plan_worst2}
use Rattle.plan.proofs.Ways.{leads_are}
use Rattle.plan.specs.Scratch.{own_leads}

module _ (p : Plan) (w : Wide p.figures) where
  -- a list in which its leads are written passes as its own do
  pub written_leads : (ps ls : List ℕ) → blocks_of p.figures ≤ length (words_of ls) → is_plan p ps (own_leads (showing_in p) p.figures) ≡ true
      → is_plan p ps (with_words ls 0 (leads_of (showing_in p) p.figures)) ≡ true
  unfolding is_plan has_leads
  written_leads ps ls l e =
      let x = showing_in p in
      let f = p.figures in
      let n = and_left (has_numbers p) _ e in
      let ok = (numbered p w n).legal in
      and_both n
      (and_both (and_left (has_positions p ps) _ (and_right (has_numbers p) _ e))
      (written_begins (leads_of x f) ls (leads_words x f ok) (omega (arith, leads_length x f))))

  -- its leads as the code writes them, of figures that were read
  pub written_rows : Legal (visits_of (showing_in p)) p.figures → p ≡ plan_of (showing_in p) p.figures → {sizes times blocks : List ℕ} {v t n m : ℕ}
      → sizes ≡ p.figures.positions → times ≡ p.figures.times → blocks ≡ p.figures.blocks → v ≡ p.showing → t ≡ total_positions p.figures
      → n ≡ p.figures.films → m ≡ p.worst2
      → shelf_leads sizes times (showing_of v) t blocks m n ≡ leads_of (showing_in p) p.figures
  written_rows ok e a b k c d n q =
      rw (a, b, k, c, n) (leads_are (showing_in p) p.figures ok _ d _ (q ∙ plan_worst2 (showing_in p) p.figures p e))
