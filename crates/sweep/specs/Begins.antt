-- What the steps of a begin are told.
-- Assumes nothing.
use Rattle.std.specs.Prelude.{ℕ, ◌≡◌, Bool, true, List}
use Rattle.legality.specs.Legality as legality
use Rattle.plan.specs.Answer.{is_plan}
use Rattle.plan.specs.Scratch.{leads_by}
use Rattle.rules.specs.Arrays.{slots_of}
use Rattle.desk.specs.declared.Desk.{Desk}
use Rattle.desk.specs.Desk.{supply_of}
use Rattle.desk.specs.View.{Wide}
use Rattle.desk.specs.Ready.{Ready}
use Rattle.floor.specs.Floor.{LeadsSummed}
use Rattle.soundness.specs.Facts.{LeadSource}
use Rattle.sweep.specs.Steps.{served_in}

-- a record that is ready, a source of its leads, and what those of filling and playing slots add up to; hs are its held bytes as they were read
pub record Serves (d : Desk) (listed : Bool) (hs ps ls : List ℕ) (sum : ℕ) : Type 0 where
  pub held : hs ≡ d.held
  pub wide : Wide d
  pub ready : Ready d
  pub source : LeadSource listed d.plan ps ls
  pub leads : LeadsSummed d sum

-- the kinds and places that a begin leaves
pub record Served (d : Desk) (ks qs : List ℕ) : Type 0 where
  pub slots : slots_of (supply_of d.plan) ks d.next d.held ≡ (served_in d).slots
  pub places : qs ≡ (served_in d).queue

-- a record that is ready with its lists, or with a scratch, and the sum of its leads
pub record Begins (d : Desk) (listed : Bool) (ps ls : List ℕ) (sum : ℕ) : Type 0 where
  pub wide : Wide d
  pub slim : legality.Wide d.plan.figures
  pub ready : Ready d
  pub plan : is_plan d.plan ps (leads_by listed d.plan ls) ≡ true
  pub leads : LeadsSummed d sum
