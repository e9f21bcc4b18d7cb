-- The cards that are compared so far, and the card that comes next.
-- Assumes nothing.
use Prim.Native.Nat.{ℕ, ◌≤◌, ◌<◌}
use mathlib.Core.Path.{◌≡◌, ap}
use mathlib.Core.Logic.{by_cases}
use native.Mathlib.Omega.{arith}
use native.Mathlib.Decide.{dec_lt}
use lib.ListN.{length, get_or}
use Rattle.laws.specs.Members.{in_at}
use Rattle.card.specs.Read.{blank_figures}
use Rattle.small_cards.specs.declared.SmallCard.{SmallCard}
use Rattle.small_cards.specs.Cards.{Small, small_cards}
use Rattle.small_cards.specs.Next.{figures_of, first_card, after}
use Rattle.small_cards.specs.Steps.{Stepped}
use Rattle.small_cards.proofs.Steps.{step_listed, step_ranged, step_last}
use Rattle.small_cards.proofs.Form.{listed_small}
use Rattle.compare_planners.specs.declared.compare.Tally.{Tally}

-- the cards so far, and the card that comes next
pub record Comparing (tally : Tally) (card : SmallCard) : Type 0 where
  pub few : tally.cards ≤ length small_cards
  pub next : card ≡ after tally.cards first_card
  pub none : tally.unequal ≡ 0

-- a card of at most 3 zones is in the list, and the one after the last is not
module _ (tally : Tally) (card : SmallCard) (g : Comparing tally card) where
  pub inside : card.zones ≤ 3 → tally.cards < length small_cards
  inside h = by_cases (dec_lt tally.cards (length small_cards)) (λ u. u)
      (λ u. let e : tally.cards ≡ length small_cards = omega (arith, g.few) in
      absurd (omega (arith, ap (λ (c : SmallCard). c.zones) g.next, ap (λ (i : ℕ). (after i first_card).zones) e, step_last)))

  pub stepped : card.zones ≤ 3 → Stepped card
  stepped h = rw g.next (step_ranged tally.cards (inside h))

  pub small : card.zones ≤ 3 → Small (figures_of card)
  small h = rw g.next (rw (step_listed tally.cards (inside h))
      (listed_small (get_or small_cards tally.cards blank_figures) (in_at small_cards tally.cards blank_figures (inside h))))

  pub outside : (card.zones ≤ 3 → ⊥) → tally.cards ≡ length small_cards
  outside h = by_cases (dec_lt tally.cards (length small_cards))
      (λ u. absurd (h (rw g.next (step_ranged tally.cards u).zones)))
      (λ u. omega (arith, g.few))
