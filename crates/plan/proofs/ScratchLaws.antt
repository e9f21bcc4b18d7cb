-- Laws of what specs/ScratchLaws defines.
use Rattle.std.specs.Prelude.{ℕ, ◌≡◌, List, not, ◌&&◌, ◌||◌, length}
use Rattle.std.proofs.Math.Path.{refl}
use Rattle.std.proofs.Common.{sym, ap, ◌∙◌}
use Rattle.std.proofs.Math.Bool.{Bool, true, false}
use Rattle.words.specs.Words.{words_of}
use Rattle.words.specs.Laws.{words_bytes, bytes_entries}
use Rattle.card.specs.declared.Figures.{Figures}
use Rattle.card.specs.Card.{Legal, blocks_of}
use Rattle.legality.specs.Legality.{Wide}
use Rattle.placement.specs.Showing.{Showing, visits_of}
use Rattle.plan.specs.declared.Plan.{Plan}
use Rattle.plan.specs.Plan.{showing_in, leads_of}
use Rattle.plan.specs.Answer.{has_numbers, has_positions, has_leads, is_plan}
use Rattle.plan.proofs.Check.{numbered}
use Rattle.plan.specs.Rows.{begins_self}
use Rattle.plan.specs.Films.{leads_length}
use Rattle.plan.proofs.Films.{leads_words}
use Rattle.plan.specs.Scratch.{own_leads, scratch_short, scratch_leads, leads_by}

-- it has an entry for each block
pub own_entries : (x : Showing) (f : Figures) → length (words_of (own_leads x f)) ≡ blocks_of f
unfolding own_leads
own_entries x f = bytes_entries (leads_of x f) ∙ leads_length x f

-- and says the leads of legal figures
pub own_words : (x : Showing) (f : Figures) → Legal (visits_of x) f → words_of (own_leads x f) ≡ leads_of x f
unfolding own_leads
own_words x f ok = words_bytes (leads_of x f) (leads_words x f ok)

pub long_leads_all : (x : Showing) (f : Figures) (s : List ℕ) → scratch_short s ≡ false → length (words_of (scratch_leads x f s)) ≡ blocks_of f
unfolding scratch_leads
long_leads_all x f s e = rw e (own_entries x f)

module _ (p : Plan) (w : Wide p.figures) where
  -- a plan that has its numbers has its own leads
  pub own_leads_law : has_numbers p ≡ true → has_leads p (own_leads (showing_in p) p.figures) ≡ true
  unfolding has_leads
  own_leads_law e = rw (own_words (showing_in p) p.figures (numbered p w e).legal) (begins_self (leads_of (showing_in p) p.figures))

  -- THE CHECK with a lead list or without: a scratch is asked nothing
  pub checked_by : (listed : Bool) (ps ls : List ℕ)
      → (has_numbers p && (has_positions p ps && (not listed || has_leads p ls))) ≡ is_plan p ps (leads_by listed p ls)
  unfolding is_plan
  checked_by true ps ls = refl
  checked_by false ps ls = go (has_numbers p) refl
    where
      own : Bool
      own = has_leads p (own_leads (showing_in p) p.figures)

      go : (t : Bool) → has_numbers p ≡ t → (t && (has_positions p ps && true)) ≡ (t && (has_positions p ps && own))
      go false e = refl
      go true e = ap (λ (b : Bool). has_positions p ps && b) (sym (own_leads_law e))
