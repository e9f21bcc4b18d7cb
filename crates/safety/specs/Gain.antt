-- Document 02, ticket 5: a finished sweep in which one of n slots asks lifts the playing slots above the floor.
-- Assumes nothing.
use Prim.Native.Nat.{ℕ, zero, suc, ◌+◌, ◌*◌, ◌-◌, ◌/◌, ◌≤◌}
use Rattle.std.specs.Prelude.{◌≡◌, Bool, ◌&&◌, get_or}
use Rattle.std.proofs.Math.Path.{refl}
use Rattle.std.proofs.Math.Bool.{true, false, cond}
use mathlib.Core.List.{List, [], ◌∷◌}
use Rattle.std.proofs.Common.{arith}
use Rattle.std.proofs.Math.Nat.{mul-le-mul_left}
use Rattle.std.proofs.Math.Dec.{eqb}
use borrow.Author.Tests.{eqb-true, le-leb}
use Rattle.laws.specs.Bools.{bit_le, implies_of, and_both}
use Rattle.laws.specs.Map.{map_from}
use Rattle.laws.specs.Runs.{sum_by, all_by}
use Rattle.laws.specs.Each.{Each, each_map}
use Rattle.numbers.specs.Units.{parts, micros}
use Rattle.numbers.specs.Slots.{waiting, playing, draining}
use Rattle.rules.specs.Supply.{Supply, Lawful}
use Rattle.rules.specs.Scheduler.{Slot, at, leads, low_water, holds, players_hold, is_fetched, times, fetch_count, bound}
use Rattle.rules.specs.Scheduler.{swept_by, release_by, released, ended_slot, ended, most_drawn}
use Rattle.turns.specs.Facts.{Good, FreeFrom}
use Rattle.turns.specs.Slots.{other_lead, fetched_other, unfetched_full}
use Rattle.turns.specs.Orderly.{Floored}
use Rattle.turns.specs.Sweeps.{fetches_le, Drawable, Drawables}
use Rattle.safety.specs.Floors.{room_for_one_more, fetched_stays, full_stays}
use Rattle.safety.specs.Safety.{lead_le, leads_le, leads_after_law, room_of_law}

module _ {A : Type 0} (p : Supply A) where
  -- what they gain: worst2, and twice the difference between the overhead for n blocks and that for n - 1 (T5.6)
  unfoldable pub gain : ℕ
  gain = p.pair_time + 2 * (p.overhead p.n - p.overhead (p.n - 1))

  -- ---- playing slots at the mark

  pub players_of_floored : (L : ℕ) (ss : List (Slot A)) → Floored p L ss → players_hold p (low_water p L) ss ≡ true
  unfolding players_hold all_by holds
  players_of_floored L [] f = refl
  players_of_floored L (s ∷ ss) f = and_both
      (implies_of (eqb s.kind playing) _ (λ e. le-leb (low_water p L) (parts * s.buffered) (f.0 (eqb-true s.kind playing e))))
      (players_of_floored L ss f.1)

  pub floored_lower : (L M : ℕ) (ss : List (Slot A)) → M ≤ L → Floored p L ss → Floored p M ss
  unfolding low_water
  floored_lower L M ss h f = each_map _ _ ss (λ s u k. omega (arith, u k, mul-le-mul_left p.c h)) f

  module _ (ok : Lawful p) where
    -- ---- one of the slots below m asks: one fetch and one lead less

    pub fetches_less : (m i : ℕ) (ss : List (Slot A)) → (at p ss i).kind ≡ waiting → FreeFrom p m ss → fetch_count p ss + 1 ≤ m
    unfolding fetch_count sum_by
    fetches_less m i [] k u = absurd (omega arith)
    fetches_less zero zero (s ∷ ss) k u = absurd (omega (arith, u 0 (omega arith)))
    fetches_less zero (suc i) (s ∷ ss) k u = absurd (omega (arith, u (suc i) (omega arith)))
    fetches_less (suc m) zero (s ∷ ss) k u =
        rw (fetched_other p s (λ a b. omega arith)) (omega (arith, fetches_le p m ss (λ j l. u (suc j) (omega arith))))
    fetches_less (suc m) (suc i) (s ∷ ss) k u = omega (arith, bit_le (is_fetched p s), fetches_less m i ss k (λ j l. u (suc j) (omega arith)))

    pub leads_less : (L m i : ℕ) (ss : List (Slot A)) → Each (Good p L) ss → (at p ss i).kind ≡ waiting → FreeFrom p m ss
        → leads p ss + p.margin ≤ m * p.margin
    unfolding leads sum_by
    leads_less L m i [] g k u = absurd (omega arith)
    leads_less L zero zero (s ∷ ss) g k u = absurd (omega (arith, u 0 (omega arith)))
    leads_less L zero (suc i) (s ∷ ss) g k u = absurd (omega (arith, u (suc i) (omega arith)))
    leads_less L (suc m) zero (s ∷ ss) g k u =
        omega (arith, other_lead p s (λ a b. omega arith), leads_le p ok L m ss g.1 (λ j l. u (suc j) (omega arith)))
    leads_less L (suc m) (suc i) (s ∷ ss) g k u = omega (arith, lead_le p ok L s g.0, leads_less L m i ss g.1 k (λ j l. u (suc j) (omega arith)))

    -- ---- the sweep

    -- k fetches that take T; L and M are the leads before and after; the playing slots are x above the floor before, and x + e after
    module _ (k T L M x e : ℕ) (kn : k + 1 ≤ p.n) (paid : 2 * T + M ≤ L + k * p.pair_time) (top : L + (x + e) ≤ p.n * p.margin) (eg : e ≤ gain) where
      room : p.c * (k * p.pair_time + 2 * p.overhead k + e) ≤ parts * p.B
      room =
          room_for_one_more p.c p.n p.pair_time (p.overhead p.n) (p.overhead (p.n - 1)) p.B k (p.overhead k) e ok.streams_fit kn
          (ok.overhead_rises k (p.n - 1) (omega arith)) (ok.overhead_rises (p.n - 1) p.n (omega arith)) (unfold gain in eg)

      abbrev most : ℕ
      most = p.c * (T + p.overhead k) / micros

      -- the floor afterwards
      abbrev mark : ℕ
      mark = parts * p.B + p.c * (M + (x + e))

      swept_one : (s : Slot A) (d : ℕ) → Drawable p most s d → (s.kind ≡ playing → low_water p (L + x) ≤ parts * s.buffered)
          → (swept_by p (is_fetched p s) s d).kind ≡ playing → mark ≤ parts * (swept_by p (is_fetched p s) s d).buffered
      unfolding swept_by low_water
      swept_one s d w f = go (is_fetched p s) refl
        where
          before : (z : Bool) → cond z draining s.kind ≡ playing → s.kind ≡ playing
          before true q = absurd (omega arith)
          before false q = q

          go : (b : Bool) → is_fetched p s ≡ b → (swept_by p b s d).kind ≡ playing → mark ≤ parts * (swept_by p b s d).buffered
          go true b q = omega (
            arith,
            (fetched_stays p.c p.pair_time p.B k (p.overhead k) T (L + x) (M + x) e room (omega arith) s.buffered d
                (f (before (p.is_end (p.next s.next)) q)) w.most).1,
          )
          go false b q = omega (
            arith,
            (full_stays p.c p.pair_time p.B k (p.overhead k) T (L + (x + e)) (M + (x + e)) 0 (room_of_law p ok k (omega arith)) (omega arith)
                p.n p.margin s.buffered d (omega arith) (omega (arith, ok.buffer_holds, unfetched_full p s q b)) w.most).1,
          )

      released_one : (s : Slot A) → (s.kind ≡ playing → mark ≤ parts * s.buffered) → (released p s).kind ≡ playing → mark ≤ parts * (released p s).buffered
      unfolding released
      released_one s h = go (eqb s.kind draining && eqb s.buffered 0)
        where
          go : (z : Bool) → (release_by p z s).kind ≡ playing → mark ≤ parts * (release_by p z s).buffered
          go true q = absurd (omega arith)
          go false q = h q

      swept_all : (i : ℕ) (ss : List (Slot A)) (ds : List ℕ) → Drawables p most ds i ss → Floored p (L + x) ss
          → Floored p (M + (x + e)) (map_from (λ j s. ended_slot p s (get_or ds j 0)) i ss)
      unfolding map_from ended_slot low_water
      swept_all i [] ds m f = tt
      swept_all i (s ∷ ss) ds m f = (
        released_one (swept_by p (is_fetched p s) s (get_or ds i 0)) (swept_one s (get_or ds i 0) m.0 (unfold low_water in f.0)),
        swept_all (suc i) ss ds m.1 f.1,
      )

    -- slot i asks: playing slots that are x above the floor are x + e above it after an end, for each e up to the gain and the margin
    pub sweep_gains : (i x e : ℕ) (ss : List (Slot A)) (ds : List ℕ) → (at p ss i).kind ≡ waiting → FreeFrom p p.n ss → Each (Good p (leads p ss)) ss
        → Drawables p (most_drawn p ss) ds 0 ss → e ≤ gain → x + e ≤ p.margin → Floored p (leads p ss + x) ss
        → Floored p (leads p (ended p ss ds) + (x + e)) (ended p ss ds)
    unfolding ended most_drawn bound
    sweep_gains i x e ss ds k u g w eg em f =
        swept_all (fetch_count p ss) (times p ss) (leads p ss) (leads p (ended p ss ds)) x e (fetches_less p.n i ss k u)
        (leads_after_law p ok (leads p ss) ss ds g) (omega (arith, leads_less (leads p ss) p.n i ss g k u)) eg 0 ss ds w f
