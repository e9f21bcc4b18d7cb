-- The reader of a card goes through the figures in their order.
-- Assumes nothing.
use Prim.Native.Nat.{ℕ, ◌≤◌, ◌<◌}
use Rattle.std.specs.Prelude.{◌≡◌, ◌⊎◌, length, set}
use mathlib.Core.List.{List, [], ◌∷◌}
use Rattle.numbers.specs.Refusals.{card_ends, number_form, card_goes_on}
use Rattle.leb128.specs.declared.Number.{Number}
use Rattle.leb128.specs.Number.{number_at}
use Rattle.card.specs.declared.Verdict.{Verdict}
use Rattle.card.specs.Read.{accepted, card_end}
use Rattle.fault_claims.specs.Rules.{Figure}
use Rattle.fault_claims.specs.Rules.{Rule, Holds, Breaks, Values, rules}
use Rattle.leb128.specs.declared.Number.TheVariants as number
use Rattle.card_field.specs.declared.Rule.TheVariants as rule

-- the answer x after a figure of the rules rs and the value n was read at an offset: it breaks a rule, or the answer is that of what follows
abbrev pub OnFigure : List Rule → ℕ → ℕ → Verdict → (ℕ → Type 0) → Number → Type 0
OnFigure rs n at x later (number.Value w next) = w ≡ n → (Breaks rs x.number × (x.place ≡ at)) ⊎ (Holds rs × later next)
OnFigure rs n at x later (number.CutOff size) = x ≡ record { number = card_ends; place = size }
OnFigure rs n at x later (number.Malformed start) = x ≡ record { number = number_form; place = start }

-- the answer x from an offset on, where figures gs of the values v are to come and each block takes so many positions
unfoldable pub Answers : ℕ → Values → List ℕ → ℕ → List Figure → Verdict → Type 0
Answers visits v s at [] x = ((at < length s) × (x ≡ record { number = card_goes_on; place = at })) ⊎ ((length s ≤ at) × (x ≡ accepted))
Answers visits v s at (g ∷ gs) x = OnFigure (rules visits v g) (v g) at x (λ next. Answers visits v s next gs x) (number_at s at)
