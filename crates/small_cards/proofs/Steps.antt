-- Laws of what specs/Steps defines.
use Rattle.std.specs.Prelude.{ℕ, ◌≤◌, ◌<◌, ◌≡◌, true, List, length, get_or, take}
use Rattle.std.proofs.Common.{sym, ap, ◌∙◌, arith}
use Rattle.std.proofs.Math.Dec.{leb}
use borrow.Author.Tests.{leb-true}
use Rattle.laws.specs.Bools.{and_left, and_right}
use Rattle.laws.specs.Each.{each_map, each_of_all}
use Rattle.laws.specs.Members.{map_at}
use Rattle.laws.specs.Runs.{all_at}
use Rattle.card.specs.declared.Figures.{Figures}
use Rattle.card.specs.Read.{blank_figures}
use Rattle.small_cards.specs.declared.SmallCard.{SmallCard}
use Rattle.small_cards.specs.Cards.{small_cards}
use Rattle.small_cards.specs.Next.{figures_of, first_card, after, walk}
use Rattle.small_cards.specs.Computed.{how_many_law}
use Rattle.small_cards.specs.Steps.{walked, first_long, first_at, ranged, all_ranged, Stepped, past_zones, walk_at}

-- ITS FIGURES ARE THE LIST'S
pub step_listed : (i : ℕ) → i < length small_cards → figures_of (after i first_card) ≡ get_or small_cards i blank_figures
step_listed i h =
    let u : i < 1511 = omega (arith, how_many_law) in
    ap figures_of (sym (first_at i u))
    ∙ sym (map_at figures_of (take 1511 (walk 1511 first_card)) i first_card blank_figures (omega (arith, first_long)))
    ∙ ap (λ (fs : List Figures). get_or fs i blank_figures) walked

pub step_ranged : (i : ℕ) → i < length small_cards → Stepped (after i first_card)
step_ranged i h =
    let u : i < 1511 = omega (arith, how_many_law) in
    rw (sym (first_at i u))
    (says (get_or (take 1511 (walk 1511 first_card)) i first_card)
    (all_at first_card ranged (take 1511 (walk 1511 first_card)) i all_ranged (omega (arith, first_long))))
  where
    says : (c : SmallCard) → ranged c ≡ true → Stepped c
    says c e = unfold ranged in record {
      zones = leb-true c.zones 3 (and_left (leb c.zones 3) _ e);
      positions = each_map (λ (p : ℕ). leb p 3 ≡ true) (λ (p : ℕ). p ≤ 3) c.positions (λ p d. leb-true p 3 d)
          (each_of_all (λ (p : ℕ). leb p 3) c.positions (and_right (leb c.zones 3) _ e));
    }

-- AND AFTER THE LAST THERE ARE 4 ZONES
pub step_last : (after (length small_cards) first_card).zones ≡ 4
step_last = rw how_many_law (ap (λ (c : SmallCard). c.zones) (sym (walk_at 1511 1511 first_card first_card (omega arith))) ∙ past_zones)
