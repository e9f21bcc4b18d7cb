-- The first fault of a record is the one that its judge names, and back.
-- Assumes nothing.
use Prim.Native.Nat.{ℕ, ◌+◌}
use Rattle.std.specs.Prelude.{◌≡◌, List, [], ◌∷◌, ◌++◌}
use Rattle.laws.specs.Each.{Each}
use Rattle.card_field.specs.Ranges.{first}
use Rattle.card.specs.declared.Figures.{Figures}
use Rattle.fault_claims.specs.Rules.{Figure}
use Rattle.fault_claims.specs.Rules.{Rule, Holds, Breaks, Values, rules}
use Rattle.fault_claims.specs.Says.{Says}
use Rattle.fault_claims.specs.RecordFault.{values_in, record_rules}
use Rattle.card_field.specs.declared.Rule.TheVariants as rule

-- ---- the rules of figures in a row

module _ (r : Figure → List Rule) where
  abbrev pub rules_of : List Figure → List Rule
  rules_of [] = []
  rules_of (g ∷ gs) = r g ++ rules_of gs

  -- the figure that breaks them first
  pub record FirstOf (gs : List Figure) (k : ℕ) : Type 0 where
    pub before : List Figure
    pub here : Figure
    pub after : List Figure
    pub order : gs ≡ before ++ (here ∷ after)
    pub good : Each (λ g. Holds (r g)) before
    pub fault : Breaks (r here) k

-- ---- the judge of a record says what its rules say

module _ (visits : ℕ) (f : Figures) where
  abbrev pub v : Values
  v = values_in f

  abbrev pub Judges : List Figure → ℕ → Type 0
  Judges gs j = Says (rules_of (record_rules visits f) gs) j
