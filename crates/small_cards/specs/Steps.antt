-- The code's way from card to card goes through the list and ends after it.
-- Assumes nothing.
use Rattle.std.specs.Prelude.{ℕ, zero, suc, ◌+◌, ◌≤◌, ◌<◌, ◌≡◌, refl, Bool, true, ◌&&◌, map, length, get_or, take}
use Rattle.std.proofs.Common.{ap, ◌∙◌, arith, add-one, get_or-take, length-take-le}
use Rattle.std.proofs.Math.Dec.{leb}
use Rattle.laws.specs.Each.{Each}
use Rattle.laws.specs.Members.{upto, each}
use Rattle.laws.specs.Runs.{sum_by, all_by}
use Rattle.card.specs.Card.{one_film}
use Rattle.card.specs.Read.{blank_zones}
use Rattle.small_cards.specs.declared.SmallCard.{SmallCard}
use Rattle.small_cards.specs.Cards.{entered, small_figures, threes, falling, lengths, small_cards}
use Rattle.small_cards.specs.Next.{figures_of, limit_of, risen, most_blocks, zone_more, positions_more, times_more, next_card, first_card, after, walk}

-- ---- computed

pub walked : map figures_of (take 1511 (walk 1511 first_card)) ≡ small_cards
unfolding small_cards each threes falling lengths upto sum_by small_figures one_film entered blank_zones figures_of limit_of risen most_blocks zone_more positions_more times_more next_card first_card walk
walked = refl

-- a card on the way, as a test
unfoldable pub ranged : SmallCard → Bool
ranged c = leb c.zones 3 && all_by (λ (p : ℕ). leb p 3) c.positions

pub all_ranged : all_by ranged (take 1511 (walk 1511 first_card)) ≡ true
unfolding all_by limit_of risen most_blocks zone_more positions_more times_more next_card first_card walk ranged
all_ranged = refl

pub past_zones : (get_or (walk 1511 first_card) 1511 first_card).zones ≡ 4
unfolding limit_of risen most_blocks zone_more positions_more times_more next_card first_card walk
past_zones = refl

-- ---- the i-th card

walk_length : (n : ℕ) (c : SmallCard) → length (walk n c) ≡ suc n
unfolding walk
walk_length zero c = refl
walk_length (suc n) c = ap suc (walk_length n (next_card c))

pub walk_at : (n i : ℕ) (c d : SmallCard) → i ≤ n → get_or (walk n c) i d ≡ after i c
unfolding walk after
walk_at n zero c d h = first n
  where
    first : (n : ℕ) → get_or (walk n c) 0 d ≡ c
    first zero = refl
    first (suc n) = refl
walk_at zero (suc i) c d h = absurd (omega arith)
walk_at (suc n) (suc i) c d h = walk_at n i (next_card c) d (omega arith)

after_suc : (i : ℕ) (c : SmallCard) → after (suc i) c ≡ next_card (after i c)
unfolding after
after_suc zero c = refl
after_suc (suc i) c = after_suc i (next_card c)

pub after_next : (i : ℕ) (c : SmallCard) → after (i + 1) c ≡ next_card (after i c)
after_next i c = ap (λ (n : ℕ). after n c) (add-one i) ∙ after_suc i c

-- the ranges that a step needs
pub record Stepped (c : SmallCard) : Type 0 where
  pub zones : c.zones ≤ 3
  pub positions : Each (λ (p : ℕ). p ≤ 3) c.positions

pub first_long : length (take 1511 (walk 1511 first_card)) ≡ 1511
first_long = length-take-le 1511 (walk 1511 first_card) (omega (arith, walk_length 1511 first_card))

pub first_at : (i : ℕ) → i < 1511 → get_or (take 1511 (walk 1511 first_card)) i first_card ≡ after i first_card
first_at i h = get_or-take 1511 (walk 1511 first_card) i first_card h ∙ walk_at 1511 i first_card first_card (omega arith)
