-- Lists that are the same but for some entries in a row: how arrays are filled from the front.
-- Assumes nothing.
use Rattle.std.specs.Prelude.{ℕ, suc, ◌+◌, ◌≤◌, ◌<◌, ◌≡◌, refl, List, length, get_or, set}
use Rattle.std.proofs.Common.{sym, ◌∙◌, subst, arith, length-set, ext_get_or, get_or-set_same, get_or-set_other}
use Rattle.std.proofs.Math.Logic.{by_cases}
use Rattle.std.proofs.Math.Decide.{dec_lt, ℕ_discrete}

-- the same but for `left` entries from the i-th on
pub record Agree (i left : ℕ) (xs ys : List ℕ) : Type 0 where
  pub long : length xs ≡ length ys
  pub low : (j : ℕ) → j < i → get_or xs j 0 ≡ get_or ys j 0
  pub high : (j : ℕ) → i + left ≤ j → get_or xs j 0 ≡ get_or ys j 0

pub agree_self : (i : ℕ) (xs : List ℕ) → Agree i 0 xs xs
agree_self i xs = record { long = refl; low = λ j h. refl; high = λ j h. refl }

-- but for none is the same
pub agree_all : (i : ℕ) (xs ys : List ℕ) → Agree i 0 xs ys → xs ≡ ys
agree_all i xs ys a = ext_get_or 0 xs ys a.long (λ j l. by_cases (dec_lt j i) (a.low j) (λ h. a.high j (omega arith)))

module _ (i left : ℕ) (xs ys : List ℕ) (h : i < length xs) where
  -- one entry more is filled
  pub agree_next : Agree i (suc left) xs ys → Agree (i + 1) left (set xs i (get_or ys i 0)) ys
  agree_next a = record {
    long = length-set xs i (get_or ys i 0) ∙ a.long;
    low = λ j l. by_cases (ℕ_discrete i j)
        (λ e. subst (λ (k : ℕ). get_or (set xs i (get_or ys i 0)) k 0 ≡ get_or ys k 0) e (get_or-set_same xs i (get_or ys i 0) 0 h))
        (λ n. get_or-set_other xs i j (get_or ys i 0) 0 (λ e. n (sym e)) ∙ a.low j (omega arith));
    high = λ j l. get_or-set_other xs i j (get_or ys i 0) 0 (omega arith) ∙ a.high j (omega arith);
  }

  -- the entry that was filled, and the lists before that
  pub agree_back : (v : ℕ) → Agree (i + 1) left (set xs i v) ys → (get_or ys i 0 ≡ v) × Agree i (suc left) xs ys
  agree_back v a = (
    sym (a.low i (omega arith)) ∙ get_or-set_same xs i v 0 h,
    record {
      long = sym (length-set xs i v) ∙ a.long;
      low = λ j l. sym (get_or-set_other xs i j v 0 (omega arith)) ∙ a.low j (omega arith);
      high = λ j l. sym (get_or-set_other xs i j v 0 (omega arith)) ∙ a.high j (omega arith);
    },
  )
