-- The cards are gone through in their order, and both planners agree on each.
use Rattle.std.proofs.Common.{ℕ, ◌≡◌, ◌∙◌, sym, ap, refl, arith}
use Rattle.placement.specs.Showing.{one, loop}
use Rattle.small_cards.specs.Cards.{Small}
use Rattle.small_cards.specs.Computed.{how_many_law}
use Rattle.small_cards.specs.Next.{next_card, first_card, after}
use Rattle.small_cards.specs.Steps.{after_next}
use Rattle.compare_planners.specs.Compare.{counted_with}
use Rattle.compare_planners.specs.Agree.{agree}
use Rattle.compare_planners.specs.declared.compare.Tally.{Tally}
use Rattle.compare_planners.proofs.Comparing.{inside, stepped, small, outside}
use Rattle.compare_planners.proofs.compare.compare_all.Goals as goal

pub loop-card-init : goal.loop-card-init
unfolding after
loop-card-init c = record { few = omega arith; next = c.first_card-card.ensures; none = refl }

pub compare_card-found-requires : goal.compare_card-found-requires
compare_card-found-requires c = let l = c.loop-card in rw c.figures_of.ensures (small l.tally l.card l.invariant (omega arith))

pub counted-tally-requires : goal.counted-tally-requires
counted-tally-requires c =
    let l = c.loop-card in
    let f = c.figures_of in
    let s : Small f.result = rw f.ensures (small l.tally l.card l.invariant (omega arith)) in
    let found : c.compare_card-found.result ≡ 0 = omega (arith, c.compare_card-found.ensures, agree one refl f.result s, agree loop refl f.result s) in
    (omega (arith, l.invariant.few, how_many_law), omega (arith, l.invariant.none))

pub next_card-card-requires : goal.next_card-card-requires
next_card-card-requires c = let l = c.loop-card in stepped l.tally l.card l.invariant (omega arith)

pub loop-card-smaller : goal.loop-card-smaller
unfolding counted_with
loop-card-smaller c =
    let l = c.loop-card in
    omega (arith, ap (λ (t : Tally). t.cards) c.counted-tally.ensures, inside l.tally l.card l.invariant (omega arith))

pub loop-card-preserved : goal.loop-card-preserved
unfolding counted_with
loop-card-preserved c =
    let l = c.loop-card in
    let f = c.figures_of in
    let s : Small f.result = rw f.ensures (small l.tally l.card l.invariant (omega arith)) in
    let found : c.compare_card-found.result ≡ 0 = omega (arith, c.compare_card-found.ensures, agree one refl f.result s, agree loop refl f.result s) in
    let more = ap (λ (t : Tally). t.cards) c.counted-tally.ensures in
    record {
      few = omega (arith, more, inside l.tally l.card l.invariant (omega arith));
      next =
          c.next_card-card.ensures ∙ ap next_card l.invariant.next ∙ sym (after_next l.tally.cards first_card)
          ∙ ap (λ (i : ℕ). after i first_card) (sym more);
      none = omega (arith, ap (λ (t : Tally). t.unequal) c.counted-tally.ensures, found, l.invariant.none);
    }

pub returns : goal.returns
returns c = let l = c.loop-card in (outside l.tally l.card l.invariant (λ h. omega arith), l.invariant.none)
