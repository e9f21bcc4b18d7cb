-- Each way that the code of a figure can take.
-- Assumes nothing.
use Prim.Native.Nat.{ℕ, zero, suc, ◌+◌, ◌*◌, ◌-◌, ◌/◌, ◌≤◌, ◌<◌}
use mathlib.Core.Path.{◌≡◌, refl, sym, ap, ap₂, ◌∙◌}
use mathlib.Core.Logic.{by_cases}
use mathlib.Core.Bool.{true, false, cond}
use native.Mathlib.Nat.{le-div_iff_mul-le, div-lt_iff_lt-mul}
use native.Mathlib.Omega.{arith}
use native.Mathlib.Decide.{dec_le}
use lib.Dec.{leb}
use borrow.Author.Tests.{le-leb, lt-leb}
use Rattle.leb128.specs.declared.Number.{Number}
use Rattle.leb128.specs.declared.Number.TheVariants as number
use Rattle.leb128.specs.Number.{number_at}
use mathlib.Core.List.{List}
use Rattle.numbers.specs.Limits.{max_time, times_as_fast, min_blocks, max_blocks}
use Rattle.numbers.specs.Refusals.{wrong_time, rising_time, half_dead_time, wrong_blocks, blocks_above_positions, halves_above_positions, wrong_films}
use Rattle.card_field.specs.declared.Rule.{Rule}
use Rattle.card_field.specs.Ranges.{first, below, above, outside, then_above, then_below, fault_of, time_fault, room_fault, blocks_fault}
use Rattle.card_field.specs.RangeLaws.{first_stops, room_left, left_room}
use Rattle.std.specs.Prelude.{Result, Ok, Err, IsErrAnd}
use Rattle.numbers.specs.declared.refusals.Refused as placed
use Rattle.card_field.specs.Figure.{Field, Value, Refused, field_in, on_fault, on_number, field_at}

-- ---- ranges

module _ (least most k v : ℕ) where
  pub outside_low : v < least → k ≡ outside least most k v
  unfolding outside below above first
  outside_low h = rw (lt-leb least v h) (go k)
    where
      go : (k : ℕ) → k ≡ first k (cond (leb v most) 0 k)
      go zero = elim (leb v most) as (λ t. ◌≡◌ {A = ℕ} 0 (cond t 0 0)) [ true ↦ refl | false ↦ refl ]
      go (suc k) = refl

  pub outside_high : least ≤ v → most < v → k ≡ outside least most k v
  unfolding outside below above first
  outside_high l h = rw (le-leb least v l, lt-leb v most h)

  pub outside_none : least ≤ v → v ≤ most → 0 ≡ outside least most k v
  unfolding outside below above first
  outside_none l h = rw (le-leb least v l, le-leb v most h)

module _ (most k v : ℕ) where
  pub above_high : most < v → k ≡ above most k v
  unfolding above
  above_high h = rw (lt-leb v most h)

  pub above_none : v ≤ most → 0 ≡ above most k v
  unfolding above
  above_none h = rw (le-leb v most h)

module _ (least k v : ℕ) where
  pub below_low : v < least → k ≡ below least k v
  unfolding below
  below_low h = rw (lt-leb least v h)

  pub below_none : least ≤ v → 0 ≡ below least k v
  unfolding below
  below_none h = rw (le-leb least v h)

-- a zone's time: 6, then 7, then 26
module _ (innermost before v : ℕ) {k : ℕ} (judged : k ≡ outside 1 max_time wrong_time v) where
  pub time_outside : (k ≡ 0 → ⊥) → k ≡ time_fault innermost before v
  unfolding time_fault then_below then_above
  time_outside n = first_stops (first_stops judged _ n) _ n

  pub time_rises : k ≡ 0 → before < v → rising_time ≡ time_fault innermost before v
  unfolding time_fault then_below then_above above first
  time_rises z h = rw (sym judged ∙ z, lt-leb v before h)

  pub time_half_dead : k ≡ 0 → v ≤ before → times_as_fast * v < innermost → half_dead_time ≡ time_fault innermost before v
  unfolding time_fault then_below then_above below above first
  time_half_dead z h l = rw (sym judged ∙ z, le-leb v before h, lt-leb innermost (times_as_fast * v) l)

  pub time_good : k ≡ 0 → v ≤ before → innermost ≤ times_as_fast * v → 0 ≡ time_fault innermost before v
  unfolding time_fault then_below then_above below above first
  time_good z h l = rw (sym judged ∙ z, le-leb v before h, le-leb innermost (times_as_fast * v) l)

-- no room: 9 where a block takes one position, else 28
pub room_of_blocks : (k : ℕ) → k ≤ 1 → blocks_above_positions ≡ room_fault k
unfolding room_fault
room_of_blocks k h = rw (le-leb k 1 h)

pub room_of_halves : (k : ℕ) → 1 < k → halves_above_positions ≡ room_fault k
unfolding room_fault
room_of_halves k h = rw (lt-leb k 1 h)

-- a film's N: 8, then 30, then 9 or 28
module _ (visits total sofar v : ℕ) {k : ℕ} (judged : k ≡ outside min_blocks max_blocks wrong_blocks v) where
  pub blocks_outside : (k ≡ 0 → ⊥) → k ≡ blocks_fault visits total sofar v
  unfolding blocks_fault then_above
  blocks_outside n = first_stops (first_stops judged _ n) _ n

  pub blocks_over : k ≡ 0 → max_blocks < sofar + v → wrong_films ≡ blocks_fault visits total sofar v
  unfolding blocks_fault then_above above first
  blocks_over z h = rw (sym judged ∙ z, lt-leb (sofar + v) max_blocks h)

  -- the positions left are too few just where all, shared out to all blocks, are
  shared_low : 0 < v → total / (sofar + v) < visits → total - visits * sofar < visits * v
  shared_low p l =
      let all = (div-lt_iff_lt-mul {k = sofar + v} {x = total} {y = visits} (omega arith)).0 l in
      by_cases (dec_le (visits * v) (total - visits * sofar)) (λ h. absurd (omega (arith, room_left visits total sofar v p h))) (λ h. omega arith)

  pub blocks_no_room : k ≡ 0 → 0 < v → sofar + v ≤ max_blocks → total / (sofar + v) < visits → room_fault visits ≡ blocks_fault visits total sofar v
  unfolding blocks_fault then_above above first
  blocks_no_room z p h l = rw (sym judged ∙ z, le-leb (sofar + v) max_blocks h, lt-leb (visits * v) (total - visits * sofar) (shared_low p l))

  pub blocks_good : k ≡ 0 → 0 < v → sofar + v ≤ max_blocks → visits ≤ total / (sofar + v) → 0 ≡ blocks_fault visits total sofar v
  unfolding blocks_fault then_above above first
  blocks_good z p h l =
      let all = (le-div_iff_mul-le {k = sofar + v} {x = visits} {y = total} (omega arith)).0 l in
      rw (sym judged ∙ z, le-leb (sofar + v) max_blocks h, le-leb (visits * v) (total - visits * sofar) (left_room visits total sofar v all))

-- the same rule, the same refusal
pub by_rule : (b v : ℕ) {r r' : Rule} → r ≡ r' → fault_of r' b v ≡ fault_of r b v
by_rule b v e = ap (λ (x : Rule). fault_of x b v) (sym e)

-- ---- one figure

module _ (at v next : ℕ) where
  pub on_none : {k : ℕ} → k ≡ 0 → Value v next ≡ on_fault k at v next
  unfolding on_fault
  on_none e = rw e

  pub on_some : (k : ℕ) → (k ≡ 0 → ⊥) → Refused k at ≡ on_fault k at v next
  unfolding on_fault
  on_some zero n = absurd (n refl)
  on_some (suc k) n = refl

-- a refusal that is handed on
pub passed_on : (R : Result (ℕ × ℕ) placed.Refused) (r : placed.Refused) → IsErrAnd R (λ e. e ≡ r) → field_in R ≡ field_in (Err r)
passed_on (Ok x) r h = absurd h
passed_on (Err e) r h = ap (λ (x : placed.Refused). field_in (Err x)) h

-- a number that is read, of which no value is refused, and the figure at its offset
module _ (judge : ℕ → ℕ) (s : List ℕ) (at : ℕ) {F : Field} (read : F ≡ field_at (λ v. 0) s at) where
  pub number_refused : {k o : ℕ} → F ≡ Refused k o → Refused k o ≡ field_at judge s at
  unfolding field_at on_number on_fault
  number_refused {k} {o} e = go (number_at s at) (sym e ∙ read)
    where
      go : (n : Number) → Refused k o ≡ on_number (λ v. 0) at n → Refused k o ≡ on_number judge at n
      go (number.Value w m) d = absurd (let z : ◌≡◌ {A = ℕ} 0 1 = cc in omega arith)
      go (number.CutOff size) d = d
      go (number.Malformed start) d = d

  pub number_judged : {v next : ℕ} → F ≡ Value v next → on_fault (judge v) at v next ≡ field_at judge s at
  unfolding field_at on_number on_fault
  number_judged {v} {next} e = go (number_at s at) (sym e ∙ read)
    where
      go : (n : Number) → Value v next ≡ on_number (λ v. 0) at n → on_fault (judge v) at v next ≡ on_number judge at n
      go (number.Value w m) d =
          let same : v ≡ w = cc in
          let after : next ≡ m = cc in
          ap₂ (λ (x y : ℕ). on_fault (judge x) at x y) same after
      go (number.CutOff size) d = absurd (let z : ◌≡◌ {A = ℕ} 0 1 = cc in omega arith)
      go (number.Malformed start) d = absurd (let z : ◌≡◌ {A = ℕ} 0 1 = cc in omega arith)
