-- Laws of what specs/Listed defines.
use Rattle.std.specs.Prelude.{ℕ, suc, ◌≤◌, ◌<◌, ◌≡◌, List, map, length, take}
use Rattle.std.proofs.Common.{sym, subst, arith, get_or-take, length-take-le}
use Rattle.laws.specs.Members.{In, upto, each, in_map, in_upto, in_each}
use Rattle.laws.specs.Runs.{sum_by}
use Rattle.numbers.specs.Limits.{max_zones, min_blocks}
use Rattle.card.specs.declared.Figures.{Figures}
use Rattle.laws.specs.Starts.{start_none, start_next}
use Rattle.card.specs.Card.{Legal, total_positions, length_in, blocks_of}
use Rattle.small_cards.specs.Cards.{small_figures, Small, threes, falling, lengths, small_cards}
use Rattle.small_cards.specs.Listed.{in_threes, in_falling, made_of}

-- EVERY SMALL CARD IS IN THE LIST
pub small_listed : (f : Figures) → Small f → In f small_cards
unfolding small_cards
small_listed f s =
    subst (λ (g : Figures). In g small_cards) (sym (made_of f s))
    (in_each (λ y. each (threes y) (λ us. each (falling y 3) (λ vs. map (small_figures y us vs) (lengths us)))) z (small_figures z ps ts n) (upto 1 3)
    (in_upto 1 3 z ok.zones.0 (omega (arith, s.zones)))
    (in_each (λ us. each (falling z 3) (λ vs. map (small_figures z us vs) (lengths us))) ps (small_figures z ps ts n) (threes z)
    (in_threes z ps (size f.positions ok.wide.0) (λ i u. rw (get_or-take z f.positions i 0 u) (ok.positions i u, s.positions i u)))
    (in_each (λ vs. map (small_figures z ps vs) (lengths ps)) ts (small_figures z ps ts n) (falling z 3)
    (in_falling z 3 ts (size f.times ok.wide.1)
    (λ i u. rw (get_or-take z f.times i 0 u) (ok.times i u).0) (λ u. rw (get_or-take z f.times 0 0 u) (s.times 0 u))
    (λ i u. let v : i < z = omega arith in rw (get_or-take z f.times (suc i) 0 u, get_or-take z f.times i 0 v) (ok.falling i u)))
    (in_map (small_figures z ps ts) n (lengths ps) (unfold lengths in in_upto min_blocks _ n some (omega (arith, s.blocks, room)))))))
  where
    ok : Legal 1 f
    ok = s.legal

    z : ℕ
    z = f.zones

    ps : List ℕ
    ps = take f.zones f.positions

    ts : List ℕ
    ts = take f.zones f.times

    size : (xs : List ℕ) → length xs ≡ max_zones → length (take z xs) ≡ z
    size xs l = length-take-le z xs (omega (arith, ok.zones))

    n : ℕ
    n = length_in f 0

    some : min_blocks ≤ n
    some = (ok.blocks 0 (omega (arith, s.film))).0

    -- the blocks of the one film are all
    alone : n ≡ blocks_of f
    alone = rw s.film (omega (arith, start_none (length_in f), start_next (length_in f) 0))

    room : n ≤ sum_by (λ (p : ℕ). p) ps
    room = unfold total_positions in omega (arith, ok.room, alone)
