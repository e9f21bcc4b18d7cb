-- Laws of what specs/Says defines.
use Rattle.std.specs.Prelude.{ℕ, zero, suc, ◌≤◌, ◌<◌, List, [], ◌∷◌, ◌++◌, true, leb}
use Rattle.std.proofs.Common.{arith, leb-true, le-leb}
use Rattle.std.proofs.Math.Logic.{inl, inr}
use Rattle.card_field.specs.Ranges.{first, below, above, outside}
use Rattle.fault_claims.specs.Rules.{Rule, ◌unless◌, Breaks, Within}
use Rattle.fault_claims.specs.Says.{holds_both, breaks_front, breaks_behind, Says, none, names, says_same, says_test}

-- the first fault of two is that of the rules one after the other
pub says_then : {rs qs : List Rule} {j k : ℕ} → Says rs j → Says qs k → Says (rs ++ qs) (first j k)
unfolding first
says_then {rs} {qs} {j} {k} (none e h) (none d i) = none (rw (e, d)) (holds_both rs qs h i)
says_then {rs} {qs} {j} {k} (none e h) (names p b) = rw e (names p (breaks_behind rs qs k h b))
says_then {rs} {qs} {j} {k} (names p b) i = go j p b
  where
    go : (j : ℕ) → 0 < j → Breaks rs j → Says (rs ++ qs) (first j k)
    go zero p b = absurd (omega arith)
    go (suc j) p b = names p (breaks_front rs qs (suc j) b)

-- the fact of a rule in other words
pub says_fact : {j k : ℕ} {P Q : Type 0} → (P → Q) → (Q → P) → Says (k unless P ∷ []) j → Says (k unless Q ∷ []) j
says_fact {j} {k} {P} {Q} there back = says_same (λ h. (there h.0, tt)) broken
  where
    broken : Breaks (k unless P ∷ []) j → Breaks (k unless Q ∷ []) j
    broken (inl b) = inl (b.0, λ q. b.1 (back q))
    broken (inr b) = absurd b.1

-- the tests of a range
module _ (k : ℕ) (p : 0 < k) where
  pub says_below : (least x : ℕ) → Says (k unless (least ≤ x) ∷ []) (below least k x)
  unfolding below
  says_below least x = says_test (leb least x) k p (leb-true least x) (le-leb least x)

  pub says_above : (most x : ℕ) → Says (k unless (x ≤ most) ∷ []) (above most k x)
  unfolding above
  says_above most x = says_test (leb x most) k p (leb-true x most) (le-leb x most)

  pub says_outside : (least most x : ℕ) → Says (k unless Within least most x ∷ []) (outside least most k x)
  unfolding outside
  says_outside least most x = says_same (λ h. ((h.0, h.1.0), tt)) both (says_then (says_below least x) (says_above most x))
    where
      both : {j : ℕ} → Breaks (k unless (least ≤ x) ∷ k unless (x ≤ most) ∷ []) j → Breaks (k unless Within least most x ∷ []) j
      both (inl b) = inl (b.0, λ w. b.1 w.0)
      both (inr (h, inl b)) = inl (b.0, λ w. b.1 w.1)
      both (inr (h, inr b)) = absurd b.1
