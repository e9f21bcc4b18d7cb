-- One turn of the loop that adds up leads.
-- Assumes nothing.
use Prim.Native.Nat.{ℕ, ◌+◌, ◌*◌, ◌≤◌, ◌<◌}
use mathlib.Core.Path.{◌≡◌, sym, ap, ◌∙◌}
use mathlib.Core.Logic.{by_cases}
use mathlib.Core.List.{List}
use native.Mathlib.Omega.{arith}
use native.Mathlib.Decide.{dec_le}
use lib.ListN.{length, get_or, take}
use Rattle.numbers.specs.Limits.{max_streams}
use Rattle.numbers.specs.Slots.{filling, playing}
use Rattle.rules.specs.Supply.{Supply}
use Rattle.rules.specs.Scheduler.{Slot, at, leads}
use Rattle.rules.specs.Arrays.{slots_of}
use Rattle.turns.specs.ArrayLaws.{length_slots, slot_at}
use Rattle.turns.specs.Turns.{leads_none, leads_next_law, leads_skip, leads_rest}
use Rattle.desk.specs.Shown.{Slots}
use Rattle.floor.specs.Floor.{most_lead, Small, LeadsOf, Added}

-- what a slot of kind k adds to the sum: its lead v where it is filling or playing
pub record Adds (k v a : ℕ) : Type 0 where
  pub block : filling ≤ k → k ≤ playing → a ≡ v
  pub none : (filling ≤ k → k ≤ playing → ⊥) → a ≡ 0

-- the leads of the first i slots are added up
pub record Summed (g : ℕ → ℕ) (ks xs : List ℕ) (n sum i : ℕ) : Type 0 where
  pub few : i ≤ n
  pub most : sum ≤ i * most_lead
  pub sums : (p : Supply ℕ) (hs : List ℕ) → Slots p n ks xs hs → LeadsOf p g ks xs n → sum ≡ leads p (take i (slots_of p ks xs hs))

module _ (g : ℕ → ℕ) (ks xs : List ℕ) (n : ℕ) where
  pub summed_none : Summed g ks xs n 0 0
  summed_none = record { few = omega arith; most = omega arith; sums = λ p hs w u. sym (leads_none p (slots_of p ks xs hs)) }

  -- a is what slot i adds
  module _ (q : Small g ks n) (i a : ℕ) (l : i < n) (adds : Adds (get_or ks i 0) (g i) a) where
    r : filling ≤ get_or ks i 0 → get_or ks i 0 ≤ playing → a ≡ g i
    r = adds.block

    o : (filling ≤ get_or ks i 0 → get_or ks i 0 ≤ playing → ⊥) → a ≡ 0
    o = adds.none

    pub added_small : a ≤ most_lead
    added_small =
        by_cases (dec_le filling (get_or ks i 0))
        (λ c. by_cases (dec_le (get_or ks i 0) playing)
        (λ d. omega (arith, r c d, q i l (omega arith) d))
        (λ d. omega (arith, o (λ _ e. d e))))
        (λ c. omega (arith, o (λ e _. c e)))

    pub summed_next : (sum : ℕ) → Summed g ks xs n sum i → i < 256 → Summed g ks xs n (sum + a) (i + 1)
    summed_next sum inv h = record {
      few = omega arith;
      most = omega (arith, inv.most, added_small);
      sums = λ p hs w u.
          let ss = slots_of p ks xs hs in
          let s = slot_at p ks xs hs w.same i in
          let k : (at p ss i).kind ≡ get_or ks i 0 = ap (λ (s : Slot ℕ). s.kind) s in
          let x : p.lead (at p ss i).next ≡ p.lead (get_or xs i p.none) = ap (λ (s : Slot ℕ). p.lead s.next) s in
          let long : i < length ss = omega (arith, length_slots p ks xs hs, w.long) in
          let now = inv.sums p hs w u in
          let skips : (filling ≤ get_or ks i 0 → get_or ks i 0 ≤ playing → ⊥) → sum + a ≡ leads p (take (i + 1) ss) =
          λ n. omega (arith, now, o n, leads_skip p ss i long (λ c d. n (omega (arith, k)) (omega (arith, k))))
          in
          by_cases (dec_le filling (get_or ks i 0))
          (λ c. by_cases (dec_le (get_or ks i 0) playing)
          (λ d. omega (arith, now, r c d, u i l (omega arith) d, x, leads_next_law p ss i long (omega (arith, k)) (omega (arith, k))))
          (λ d. skips (λ _ e. d e)))
          (λ c. skips (λ e _. c e));
    }

  -- the slots from n on add nothing
  pub summed_end : (sum i : ℕ) → Summed g ks xs n sum i → i ≡ n → n ≤ max_streams → Added g ks xs n sum
  summed_end sum i inv e h = record {
    sums = λ p hs w u. inv.sums p hs w u ∙ ap (λ (m : ℕ). leads p (take m (slots_of p ks xs hs))) e ∙ leads_rest p n (slots_of p ks xs hs) w.unused;
    most = omega (arith, inv.most);
  }
