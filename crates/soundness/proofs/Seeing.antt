-- What the loop that marks the places that are seen keeps, and the places where none asks.
-- Assumes nothing.
use Prim.Native.Nat.{ℕ, zero, suc, ◌+◌, ◌≤◌, ◌<◌}
use mathlib.Core.Path.{◌≡◌, sym, ap, ◌∙◌}
use mathlib.Core.Logic.{◌≢◌, by_cases}
use mathlib.Core.List.{List}
use native.Mathlib.Omega.{arith}
use native.Mathlib.Decide.{ℕ_discrete}
use borrow.Author.Tests.{eq-eqb}
use lib.ListN.{length, get_or, take}
use Rattle.laws.specs.Bools.{bit}
use Rattle.numbers.specs.Slots.{waiting}
use Rattle.desk.specs.Asked.{asked_count, asked_turn_law}
use Rattle.soundness.specs.Facts.{Placed, OthersIdle}

-- none of the first n asks where their count is 0
none_asks : (ks : List ℕ) (n : ℕ) → n ≤ length ks → asked_count (take n ks) ≡ 0 → (i : ℕ) → i < n → get_or ks i 0 ≢ waiting
none_asks ks zero l z i h k = omega arith
none_asks ks (suc n) l z i h k =
    let e : n + 1 ≡ suc n = omega arith in
    let t = asked_turn_law ks n (omega arith) ∙ ap (λ (m : ℕ). asked_count (take m ks)) e ∙ z in
    by_cases (ℕ_discrete i n)
    (λ s. omega (arith, t, ap bit (eq-eqb _ _ (sym (ap (λ (m : ℕ). get_or ks m 0) s) ∙ k))))
    (λ s. none_asks ks n (omega arith) (omega (arith, t)) i (omega arith) k)

pub none_placed : (ks qs : List ℕ) (n : ℕ) → n ≤ length ks → asked_count (take n ks) ≡ 0 → OthersIdle n ks qs → Placed (asked_count (take n ks)) n ks qs
none_placed ks qs n l z o =
    let idle : (i : ℕ) → i < n → get_or qs i 0 ≡ 0 = λ i h. o i h (none_asks ks n l z i h) in
    record {
      each = λ i h. record { taken = λ k. absurd (none_asks ks n l z i h k); idle = λ _. idle i h };
      apart = λ i j h m u e. absurd (omega (arith, idle i h));
    }

module _ (c n : ℕ) (ks qs : List ℕ) where
  -- the first i slots passed, and a place has a mark where one of them has it
  pub record Seen (seen : List ℕ) (i : ℕ) : Type 0 where
    pub few : i ≤ n
    pub long : length seen ≡ 257
    pub passed : Placed c i ks qs
    pub marks : (j : ℕ) → j < i → 0 < get_or qs j 0 → 0 < get_or seen (get_or qs j 0) 0
    pub from : (x : ℕ) → 0 < get_or seen x 0 → (j : ℕ) × (j < i) × (get_or qs j 0 ≡ x)
