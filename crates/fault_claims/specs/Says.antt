-- Rules in a row, and the number that they say: 0 where all hold, else the refusal of the first that does not.
-- Assumes nothing.
use Rattle.std.specs.Prelude.{ℕ, ◌<◌, ◌≡◌, refl, List, [], ◌∷◌, ◌++◌, Bool, true, false, cond}
use Rattle.std.proofs.Common.{sym, ◌∙◌, true≢false}
use Rattle.std.proofs.Math.Logic.{inl, inr}
use Rattle.card_field.specs.Ranges.{first}
use Rattle.fault_claims.specs.Rules.{Rule, ◌unless◌, Holds, Breaks}

-- ---- rules in a row

-- what holds is not broken
pub holds_unbroken : (rs : List Rule) (k : ℕ) → Holds rs → Breaks rs k → ⊥
holds_unbroken [] k h b = b
holds_unbroken (r ∷ rs) k h (inl b) = b.1 h.0
holds_unbroken (r ∷ rs) k h (inr b) = holds_unbroken rs k h.1 b.1

-- one rule is the first that is broken
pub breaks_one : (rs : List Rule) (j k : ℕ) → Breaks rs j → Breaks rs k → j ≡ k
breaks_one [] j k b c = absurd b
breaks_one (r ∷ rs) j k (inl b) (inl c) = b.0 ∙ sym c.0
breaks_one (r ∷ rs) j k (inl b) (inr c) = absurd (b.1 c.0)
breaks_one (r ∷ rs) j k (inr b) (inl c) = absurd (c.1 b.0)
breaks_one (r ∷ rs) j k (inr b) (inr c) = breaks_one rs j k b.1 c.1

-- rules in front of others
pub holds_both : (rs qs : List Rule) → Holds rs → Holds qs → Holds (rs ++ qs)
holds_both [] qs h k = k
holds_both (r ∷ rs) qs h k = (h.0, holds_both rs qs h.1 k)

pub breaks_front : (rs qs : List Rule) (k : ℕ) → Breaks rs k → Breaks (rs ++ qs) k
breaks_front [] qs k b = absurd b
breaks_front (r ∷ rs) qs k (inl b) = inl b
breaks_front (r ∷ rs) qs k (inr b) = inr (b.0, breaks_front rs qs k b.1)

pub breaks_behind : (rs qs : List Rule) (k : ℕ) → Holds rs → Breaks qs k → Breaks (rs ++ qs) k
breaks_behind [] qs k h b = b
breaks_behind (r ∷ rs) qs k h b = inr (h.0, breaks_behind rs qs k h.1 b)

-- ---- what rules say

-- the number j is 0 and the rules hold, or it is the refusal of the first that does not
pub data Says (rs : List Rule) (j : ℕ) : Type 0 where
  none : j ≡ 0 → Holds rs → Says rs j
  names : 0 < j → Breaks rs j → Says rs j

-- rules that say the same
pub says_same : {rs qs : List Rule} {j : ℕ} → (Holds rs → Holds qs) → (Breaks rs j → Breaks qs j) → Says rs j → Says qs j
says_same there back (none e h) = none e (there h)
says_same there back (names p b) = names p (back b)

-- a test of a fact
pub says_test : (t : Bool) (k : ℕ) {P : Type 0} → 0 < k → (t ≡ true → P) → (P → t ≡ true) → Says (k unless P ∷ []) (cond t 0 k)
says_test true k p so back = none refl (so refl, tt)
says_test false k p so back = names p (inl (refl, λ h. true≢false (sym (back h))))
