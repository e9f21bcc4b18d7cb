use Rattle.std.proofs.Common.{arith, rules, ℕ, ◌≡◌, refl, ap, ◌∙◌, List, [], ◌∷◌, ◌++◌, length, take, replicate}
use Rattle.card.specs.Read.{blank_zones}
use Rattle.small_cards.specs.Cards.{entered}
use Rattle.next_card.proofs.enter.Goals as goal

-- three entries before zeros
three : (xs : List ℕ) → length xs ≡ 3 → xs ++ replicate 61 0 ≡ take 64 (xs ++ replicate 64 0)
three [] l = absurd (omega arith)
three (x ∷ []) l = absurd (omega arith)
three (x ∷ y ∷ []) l = absurd (omega arith)
three (x ∷ y ∷ z ∷ []) l = refl
three (x ∷ y ∷ z ∷ w ∷ ws) l = absurd (omega arith)

pub returns : goal.returns
unfolding entered blank_zones
returns c =
    let e : c.copy_from_slice.new.self ≡ c.args.entries = search rules in ap (λ (xs : List ℕ). xs ++ replicate 61 0) e ∙ three c.args.entries (search rules)
