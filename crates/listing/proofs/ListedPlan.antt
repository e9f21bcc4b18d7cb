-- Each listed position is on the disk.
-- Assumes nothing.
use Prim.Native.Nat.{ℕ, zero, suc, ◌+◌, ◌*◌, ◌-◌, ◌≤◌, ◌<◌}
use mathlib.Core.Path.{◌≡◌, ap}
use mathlib.Core.Bool.{true}
use mathlib.Core.List.{List}
use mathlib.Core.Logic.{by_cases}
use native.Mathlib.Omega.{arith}
use native.Mathlib.Decide.{dec_lt}
use native.Mathlib.Nat.{mul-le-mul_right}
use lib.ListN.{length, get_or}
use Rattle.laws.specs.Starts.{start_of, start_none, start_next, start_rises}
use Rattle.numbers.specs.Limits.{max_films, max_number}
use Rattle.card.specs.declared.Figures.{Figures}
use Rattle.card.specs.Card.{Legal, length_in, blocks_of}
use Rattle.legality.specs.Legality.{Wide}
use Rattle.placement.specs.Showing.{pairs, visits_of, visits_few}
use Rattle.placement.specs.Zones.{total}
use Rattle.words.specs.Words.{words_of}
use Rattle.plan.specs.declared.Plan.{Plan}
use Rattle.plan.specs.Plan.{showing_in, start_in, entries_of}
use Rattle.plan.specs.Disk.{Zoned}
use Rattle.plan.specs.Films.{entries_start}
use Rattle.plan.specs.Legal.{legal_zoned, total_is}
use Rattle.plan.proofs.Legal.{position_below}
use Rattle.plan.specs.Answer.{is_plan}
use Rattle.plan.proofs.Check.{checked, checked_legal}

-- every number through the films stands for a place in one of them
place_of : (N : ℕ → ℕ) (F v : ℕ) → v < start_of N F → (i : ℕ) × (b : ℕ) × (i < F) × (b < N i) × (start_of N i + b ≡ v)
place_of N zero v h = absurd (omega (arith, start_none N))
place_of N (suc F) v h = by_cases (dec_lt v (start_of N F))
    (λ l. let (i, b, u, k, e) = place_of N F v l in (i, b, omega arith, k, e))
    (λ l. (F, v - start_of N F, omega arith, omega (arith, start_next N F), omega arith))

-- the blocks of the films before one can be counted
pub films_counted : {k : ℕ} (f : Figures) → Legal k f → (i : ℕ) → i ≤ f.films → (i ≤ max_films) × (start_of (length_in f) i ≤ max_number)
films_counted f ok i h = omega (arith, ok.films, ok.all, start_rises (length_in f) i f.films h)

module _ (p : Plan) (ps ls : List ℕ) (w : Wide p.figures) (e : is_plan p ps ls ≡ true) where
  pub plan_legal : Legal (visits_of (showing_in p)) p.figures
  plan_legal = checked_legal p ps ls w e

  pub plan_zoned : Zoned p.figures.positions
  plan_zoned = legal_zoned p.figures plan_legal

  -- each lead is in the list
  pub leads_long : blocks_of p.figures ≤ length (words_of ls)
  leads_long = (checked p ps ls e).long.1

  -- entry v of the positions
  pub entry_on : (v : ℕ) → v < entries_of (showing_in p) p.figures → (v < length (words_of ps)) × (get_or (words_of ps) v 0 < total p.figures.positions)
  entry_on v u =
      let x = showing_in p in
      let f = p.figures in
      let c = checked p ps ls e in
      let (i, k, l, h, d) = place_of (λ j. visits_of x * length_in f j) f.films v (omega (arith, entries_start x f f.films)) in
      let at : visits_of x * start_in f i + k ≡ v = omega (arith, entries_start x f i) in (
        omega (arith, c.long.0),
        omega (
          arith,
          ap (λ (q : ℕ). get_or (words_of ps) q 0) at,
          c.position_at i k l h,
          position_below x f plan_legal i k l h,
          total_is f plan_legal,
        ),
      )

  -- a block's, or its first half's
  pub position_on : (b : ℕ) → b < blocks_of p.figures → (b < length (words_of ps)) × (get_or (words_of ps) b 0 < total p.figures.positions)
  position_on b u = entry_on b (omega (arith, mul-le-mul_right (blocks_of p.figures) (visits_few (showing_in p)).0))

  -- both halves' of a half block
  pub halves_on : showing_in p ≡ pairs → (b : ℕ) → b < blocks_of p.figures
      → ((2 * b < length (words_of ps)) × (get_or (words_of ps) (2 * b) 0 < total p.figures.positions))
      × ((2 * b + 1 < length (words_of ps)) × (get_or (words_of ps) (2 * b + 1) 0 < total p.figures.positions))
  halves_on s b u =
      let n : entries_of (showing_in p) p.figures ≡ 2 * blocks_of p.figures = rw s in
      (entry_on (2 * b) (omega arith), entry_on (2 * b + 1) (omega arith))
