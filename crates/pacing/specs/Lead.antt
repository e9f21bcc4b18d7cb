-- A lead is the greatest sum over a run (P6), and what the desk relies on of it.
-- Assumes nothing.
use Prim.Native.Nat.{ℕ, zero, suc, ◌+◌, ◌*◌, ◌-◌, ◌≤◌}
use Rattle.std.specs.Prelude.{◌≡◌, Bool}
use Rattle.std.proofs.Math.Path.{refl}
use Rattle.std.proofs.Math.Logic.{by_cases}
use Rattle.std.proofs.Math.Bool.{true, false, cond}
use native.Mathlib.Omega.{arith}
use Rattle.std.proofs.Math.Nat.{le_antisymm}
use Rattle.std.proofs.Math.Decide.{dec_lt}
use Rattle.laws.specs.Bools.{and_left, and_right, and_both}
use Rattle.laws.specs.Greatest.{greatest_of_above, greatest_of_least, greatest_of_reached}
use Rattle.pacing.specs.Film.{Film, Paced, row, span, run_sum, lead}

module _ {A : Type 0} (film : Film A) where
  -- it is the greatest: no run is above it
  pub lead_above : (w j : ℕ) (a : A) → j ≤ film.longest a → row film j a ≡ true → 2 * span film j a ≤ j * w + lead film w a
  unfolding lead
  lead_above w j a h e =
      let u : 2 * span film j a - j * w ≤ lead film w a = rw e at (greatest_of_above (run_sum film w a) (suc (film.longest a)) j (omega arith)) in
      omega arith

  -- a run reaches it
  pub lead_attained : (w : ℕ) (a : A) → (j : ℕ) × (j ≤ film.longest a) × (row film j a ≡ true) × (2 * span film j a ≡ j * w + lead film w a)
  unfolding lead row span
  lead_attained w a =
      let (j, u, e) = greatest_of_reached (run_sum film w a) (suc (film.longest a)) (omega arith) in
      at j (omega arith) (row film j a) refl e
    where
      empty : lead film w a ≡ 0 → (j : ℕ) × (j ≤ film.longest a) × (row film j a ≡ true) × (2 * span film j a ≡ j * w + lead film w a)
      empty e = (0, omega arith, refl, omega arith)

      at : (j : ℕ) → j ≤ film.longest a → (t : Bool) → row film j a ≡ t → cond t (2 * span film j a - j * w) 0 ≡ lead film w a
          → (j : ℕ) × (j ≤ film.longest a) × (row film j a ≡ true) × (2 * span film j a ≡ j * w + lead film w a)
      at j u true r e = by_cases (dec_lt 0 (lead film w a)) (λ h. (j, u, r, omega arith)) (λ h. empty (omega arith))
      at j u false r e = empty (omega arith)

  -- and no other number has both
  pub lead_only : (w m : ℕ) (a : A) → ((j : ℕ) → j ≤ film.longest a → row film j a ≡ true → 2 * span film j a ≤ j * w + m)
      → (j : ℕ) → j ≤ film.longest a → row film j a ≡ true → 2 * span film j a ≡ j * w + m → m ≡ lead film w a
  lead_only w m a above j u r e =
      let (k, v, s, d) = lead_attained w a in
      omega (arith, lead_above w j a u r, above k v s, d)

  -- past the last block it is 0
  pub lead_none : (w : ℕ) (a : A) → film.is_block a ≡ false → lead film w a ≡ 0
  unfolding lead row span
  lead_none w a e = omega (arith, greatest_of_least (run_sum film w a) (suc (film.longest a)) 0 (λ j u. none j))
    where
      none : (j : ℕ) → run_sum film w a j ≤ 0
      none zero = omega arith
      none (suc j) = rw e (omega arith)

  module _ (w m : ℕ) (ok : Paced film w m) where
    -- no run is above what its first block alone gives: the rest falls into pairs
    run_below : (j : ℕ) (a : A) → row film j a ≡ true → 2 * span film j a ≤ j * w + (2 * film.time a - w)
    unfolding row span
    run_below zero a e = omega arith
    run_below (suc zero) a e = omega arith
    run_below (suc (suc j)) a e =
        let r = and_right (film.is_block a) _ e in
        omega (arith, run_below (suc j) (film.next a) r, ok.pairs a (and_left (film.is_block a) _ e) (and_left (film.is_block (film.next a)) _ r))

    -- so the run of one block decides
    pub lead_closed : (a : A) → film.is_block a ≡ true → lead film w a ≡ 2 * film.time a - w
    unfolding lead row span
    lead_closed a e = le_antisymm (greatest_of_least (run_sum film w a) (suc (film.longest a)) _ (λ j u. under j (row film j a) refl)) one
      where
        under : (j : ℕ) (t : Bool) → row film j a ≡ t → cond t (2 * span film j a - j * w) 0 ≤ 2 * film.time a - w
        under j true r = omega (arith, run_below j a r)
        under j false r = omega arith

        one : 2 * film.time a - w ≤ lead film w a
        one = omega (arith, lead_above w (suc zero) a (ok.runs a e) (and_both e refl))

    -- a lead pays for its block: lead(b) + w is at least 2 × time(b) + lead of the next
    pub lead_law : (a : A) → film.is_block a ≡ true → 2 * film.time a + cond (film.is_end (film.next a)) 0 (lead film w (film.next a)) ≤ lead film w a + w
    lead_law a e = go (film.is_end (film.next a)) refl
      where
        go : (t : Bool) → film.is_end (film.next a) ≡ t → 2 * film.time a + cond t 0 (lead film w (film.next a)) ≤ lead film w a + w
        go true q = omega (arith, lead_closed a e)
        go false q =
            let b = ok.goes a e q in
            omega (arith, lead_closed a e, lead_closed (film.next a) b, ok.pairs a e b)
