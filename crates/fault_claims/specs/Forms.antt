-- What the reader of a number finds at an offset, in plain facts on the bytes from there on.
-- Assumes nothing.
use Rattle.std.specs.Prelude.{ℕ, zero, suc, ◌+◌, ◌≤◌, ◌<◌, ◌≡◌, refl, List, [], ◌∷◌, Bool, true, false, cond, ◌&&◌, get_or, take, leb, ltb, eqb}
use Rattle.std.proofs.Common.{ap, arith}
use Rattle.std.proofs.Math.ListN.{length}
use borrow.Author.Tests.{ltb-false, leb-true, leb-false, le-ltb}
use Rattle.numbers.specs.Limits.{no_number}
use Rattle.leb128.specs.declared.Number.{Number}
use Rattle.leb128.specs.declared.Number.TheVariants.{Value, CutOff, Malformed}
use Rattle.leb128.specs.Number.{continuing, joined, judged, number_in}

-- ---- bytes that continue

pub continue_all : (n : ℕ) (bs : List ℕ) (i : ℕ) → i < continuing n bs → 128 ≤ get_or bs i 0
unfolding continuing
continue_all zero bs i h = absurd (omega arith)
continue_all (suc n) [] i h = absurd (omega arith)
continue_all (suc n) (b ∷ bs) i h = go (ltb b 128) refl i h (continue_all n bs)
  where
    go : (t : Bool) → ltb b 128 ≡ t → (i : ℕ) → i < cond t 0 (suc (continuing n bs)) → ((i : ℕ) → i < continuing n bs → 128 ≤ get_or bs i 0)
        → 128 ≤ get_or (b ∷ bs) i 0
    go true e i h later = absurd (omega arith)
    go false e zero h later = ltb-false b 128 e
    go false e (suc i) h later = later i (omega arith)

pub all_continue : (n : ℕ) (bs : List ℕ) → length bs < n → ((i : ℕ) → i < length bs → 128 ≤ get_or bs i 0) → continuing n bs ≡ length bs
unfolding continuing
all_continue zero bs l h = absurd (omega arith)
all_continue (suc n) [] l h = refl
all_continue (suc n) (b ∷ bs) l h = rw (le-ltb b 128 (h 0 (omega arith))) (ap suc (all_continue n bs (omega arith) (λ i m. h (suc i) (omega arith))))

-- ---- the three answers

-- a number is cut off where all of fewer than five bytes continue, and malformed at its start
abbrev pub Told : ℕ → ℕ → List ℕ → ℕ → Number → Type 0
Told size start bs k (Value v next) = Unit {0}
Told size start bs k (CutOff n) = (n ≡ size) × (k < 5) × (length bs ≤ k)
Told size start bs k (Malformed n) = n ≡ start

pub told : (size start : ℕ) (bs : List ℕ) (k : ℕ) → Told size start bs k (number_in size start bs k)
unfolding number_in judged
told size start bs k = by (leb 5 k) refl (leb (length bs) k) refl (ltb 0 k && eqb (get_or bs k 0) 0) (ltb (joined (take (suc k) bs)) no_number)
  where
    by : (a : Bool) → leb 5 k ≡ a → (b : Bool) → leb (length bs) k ≡ b → (c d : Bool)
        → Told size start bs k (cond a (Malformed start) (cond b (CutOff size) (cond c (Malformed start)
        (cond d (Value (joined (take (suc k) bs)) (start + k + 1)) (Malformed start)))))
    by true p b q c d = refl
    by false p true q c d = (refl, leb-false 5 k p, leb-true (length bs) k q)
    by false p false q true d = refl
    by false p false q false true = tt
    by false p false q false false = refl
