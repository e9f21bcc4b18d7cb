-- Rows of entries, and lists that begin with them.
-- Assumes nothing.
use Rattle.std.specs.Prelude.{ℕ, zero, suc, ◌+◌, ◌≤◌, ◌<◌, ◌≡◌, refl, true, false, ◌&&◌, List, [], ◌∷◌, ◌++◌, length, get_or, take, drop, eqb}
use Rattle.std.proofs.Common.{sym, ap, ◌∙◌, arith, eqb-true, eq-eqb}
use Rattle.std.proofs.Math.Bool.{and_assoc}
use Rattle.laws.specs.Bools.{clash, is_false, and_left, and_right, and_both}
use Rattle.plan.specs.Plan.{row}
use Rattle.plan.specs.Answer.{begins}

pub row_length : (g : ℕ → ℕ) (b n : ℕ) → length (row g b n) ≡ n
unfolding row
row_length g b zero = refl
row_length g b (suc n) = ap suc (row_length g (suc b) n)

-- one row after another
pub row_append : (g : ℕ → ℕ) (b m n : ℕ) → row g b (m + n) ≡ row g b m ++ row g (b + m) n
unfolding row
row_append g b zero n = let e : 0 + n ≡ n = omega arith in let d : b + 0 ≡ b = omega arith in rw (e, d)
row_append g b (suc m) n =
    let e : suc m + n ≡ suc (m + n) = omega arith in
    let d : suc b + m ≡ b + suc m = omega arith in
    rw (e, ← d) (ap (λ (t : List ℕ). g b ∷ t) (row_append g (suc b) m n))

pub row_same : (g h : ℕ → ℕ) (b n : ℕ) → ((k : ℕ) → b ≤ k → k < b + n → g k ≡ h k) → row g b n ≡ row h b n
unfolding row
row_same g h b zero e = refl
row_same g h b (suc n) e = rw (e b (omega arith) (omega arith), row_same g h (suc b) n (λ k l u. e k (omega arith) (omega arith)))

-- a list begins with two pieces where it begins with the one and the rest of it with the other
pub begins_append : (us vs ws : List ℕ) → begins (us ++ vs) ws ≡ (begins us ws && begins vs (drop (length us) ws))
unfolding begins
begins_append [] vs ws = refl
begins_append (u ∷ us) vs [] = refl
begins_append (u ∷ us) vs (w ∷ ws) = rw (begins_append us vs ws) (sym (and_assoc (eqb w u) (begins us ws) (begins vs (drop (length us) ws))))

-- one that begins with them has each
pub begins_at : (g : ℕ → ℕ) (b n : ℕ) (ws : List ℕ) → begins (row g b n) ws ≡ true → (k : ℕ) → k < n → get_or ws k 0 ≡ g (b + k)
unfolding begins row
begins_at g b zero ws e k u = absurd (omega arith)
begins_at g b (suc n) [] e k u = clash e refl
begins_at g b (suc n) (w ∷ ws) e zero u = let z : b ≡ b + 0 = omega arith in eqb-true w (g b) (and_left (eqb w (g b)) _ e) ∙ ap g z
begins_at g b (suc n) (w ∷ ws) e (suc k) u = let z : suc b + k ≡ b + suc k = omega arith in
    begins_at g (suc b) n ws (and_right (eqb w (g b)) _ e) k (omega arith) ∙ ap g z

-- and is as long
pub begins_long : (vs ws : List ℕ) → begins vs ws ≡ true → length vs ≤ length ws
unfolding begins
begins_long [] ws e = omega arith
begins_long (v ∷ vs) [] e = clash e refl
begins_long (v ∷ vs) (w ∷ ws) e = omega (arith, begins_long vs ws (and_right (eqb w v) _ e))

-- a list begins with itself
pub begins_self : (vs : List ℕ) → begins vs vs ≡ true
unfolding begins
begins_self [] = refl
begins_self (v ∷ vs) = and_both (eq-eqb v v refl) (begins_self vs)

-- a shorter list does not begin with them
pub begins_none : (vs ws : List ℕ) → length ws < length vs → false ≡ begins vs ws
begins_none vs ws h = sym (is_false (begins vs ws) (λ e. omega (arith, begins_long vs ws e)))

pub begins_short : (g : ℕ → ℕ) (b n : ℕ) (ws : List ℕ) → length ws < n → begins (row g b n) ws ≡ false
begins_short g b n ws h = sym (begins_none (row g b n) ws (omega (arith, row_length g b n)))

-- a list whose first entries they are
pub take_begins : (vs ws : List ℕ) → take (length vs) ws ≡ vs → begins vs ws ≡ true
unfolding begins
take_begins [] ws e = refl
take_begins (v ∷ vs) [] e = absurd (omega (arith, ap length e))
take_begins (v ∷ vs) (w ∷ ws) e = and_both (eq-eqb w v (ap (λ (t : List ℕ). get_or t 0 0) e)) (take_begins vs ws (ap (drop 1) e))
