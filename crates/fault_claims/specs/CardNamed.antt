-- A refused card has the fault that is named; so the first fault of a card is the one that is named.
-- Assumes nothing.
use Rattle.std.specs.Prelude.{ℕ, ◌≤◌, ◌≡◌, drop}
use Rattle.std.proofs.Math.Path.{ap}
use Rattle.std.proofs.Common.{sym, ◌∙◌}
use mathlib.Core.List.{List, [], ◌∷◌, ◌++◌, map, append-nil, append_assoc}
use Rattle.std.proofs.Math.ListN.{length}
use Rattle.laws.specs.Each.{Each}
use Rattle.leb128.specs.declared.Number.TheVariants.{Value}
use Rattle.leb128.specs.Number.{Bytes, groups}
use Rattle.card.specs.declared.Verdict.{Verdict}
use Rattle.card.specs.Card.{bytes_of}
use Rattle.fault_claims.specs.Rules.{Figure, Kind, Zones, Films, figures_in_order, Holds, Values, rules}
use Rattle.fault_claims.specs.Reading.{offset_of, read_values, Counted}
use Rattle.fault_claims.specs.CardRun.{Answers}
use Rattle.fault_claims.specs.CardRefused.{Named}

-- numbers in front of one more
pub bytes_more : (ns : List ℕ) (n : ℕ) (left : List ℕ) → bytes_of (ns ++ (n ∷ [])) ++ left ≡ bytes_of ns ++ (groups n ++ left)
unfolding bytes_of
bytes_more [] n left = ap (λ (bs : List ℕ). bs ++ left) (append-nil (groups n))
bytes_more (m ∷ ns) n left =
    append_assoc (groups m) (bytes_of (ns ++ (n ∷ []))) left ∙ ap (λ (bs : List ℕ). groups m ++ bs) (bytes_more ns n left)
    ∙ sym (append_assoc (groups m) (bytes_of ns) (groups n ++ left))

-- one answer has one number and one place
pub same_fault : {x : Verdict} {j k at place : ℕ} → x ≡ Named j at → x ≡ Named k place → (j ≡ k) × (at ≡ place)
same_fault e f = (ap (λ (z : Verdict). z.number) (sym e ∙ f), ap (λ (z : Verdict). z.place) (sym e ∙ f))

module _ (visits : ℕ) (s : List ℕ) (y : Bytes s) where
  abbrev pub v : Values
  v = read_values s

  -- the figures before are good, and the answer is that of those after
  pub record Read (before after : List Figure) (at n : ℕ) (x : Verdict) : Type 0 where
    pub order : figures_in_order (v Kind) (v Zones) (v Films) ≡ before ++ after
    pub inside : at ≤ length s
    pub bytes : s ≡ bytes_of (map v before) ++ drop at s
    pub good : Each (λ g. Holds (rules visits v g)) before
    pub offset : at ≡ offset_of s n
    pub counted : Counted (v Zones) (v Films) n after
    pub answer : Answers visits v s at after x
