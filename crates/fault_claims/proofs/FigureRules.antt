-- Laws of what specs/FigureRules defines.
use Prim.Native.Nat.{ℕ, zero, suc, ◌+◌, ◌*◌, ◌≤◌}
use Rattle.std.specs.Prelude.{◌≡◌, ◌⊎◌, [], ◌∷◌}
use Rattle.std.proofs.Math.Logic.{inl, inr, by_cases}
use native.Mathlib.Omega.{arith}
use Rattle.std.proofs.Math.Decide.{dec_le}
use Rattle.numbers.specs.Limits.{straight_kind, measured_kind, max_number, max_zones, max_positions, max_time, times_as_fast, min_blocks, max_blocks, max_films}
use Rattle.numbers.specs.Limits.{max_bytes, max_rate, max_move, max_overhead}
use Rattle.numbers.specs.Refusals.{wrong_kind, wrong_zones, wrong_positions, wrong_time, rising_time}
use Rattle.numbers.specs.Refusals.{wrong_blocks, wrong_measure, wrong_overhead, half_dead_time, wrong_films}
use Rattle.card_field.specs.Ranges.{then_above, then_below, fault_of, time_fault, room_fault, blocks_fault}
use Rattle.card_field.specs.RangeLaws.{room_some}
use Rattle.fault_claims.specs.Rules.{Kind, Zones, Positions, Time, Films, Blocks, Bytes, Rate, Hop, Return, Overhead}
use Rattle.fault_claims.specs.Rules.{◌unless◌, Breaks, Values, Within, positions_of, blocks_before, free_after, rules}
use Rattle.fault_claims.specs.Says.{Says, says_same}
use Rattle.fault_claims.proofs.Says.{says_then, says_fact, says_below, says_above, says_outside}
use Rattle.fault_claims.specs.FigureRules.{Earlier, entry_before}
use Rattle.card_field.specs.declared.Rule.TheVariants as rule

module _ (visits : ℕ) (v : Values) where
  pub says_kind : Says (rules visits v Kind) (fault_of rule.Kind 0 (v Kind))
  unfolding rules fault_of
  says_kind = says_fact (λ w. by_cases (dec_le (v Kind) straight_kind) (λ l. inl (omega arith)) (λ l. inr (omega arith))) back
      (says_outside wrong_kind (omega arith) straight_kind measured_kind (v Kind))
    where
      back : (v Kind ≡ straight_kind) ⊎ (v Kind ≡ measured_kind) → Within straight_kind measured_kind (v Kind)
      back (inl e) = omega arith
      back (inr e) = omega arith

  pub says_zones : Says (rules visits v Zones) (fault_of rule.Zones 0 (v Zones))
  unfolding rules fault_of
  says_zones = says_outside wrong_zones (omega arith) 1 max_zones (v Zones)

  pub says_positions : (i total : ℕ) → total ≡ positions_of v i → Says (rules visits v (Positions i)) (fault_of rule.Positions total (v (Positions i)))
  unfolding rules fault_of then_above positions_of
  says_positions i total t = says_same (λ h. (h.0.0, (omega (arith, h.1.0), tt))) broken
      (says_then (says_outside wrong_positions (omega arith) 1 max_number (v (Positions i)))
      (says_above wrong_positions (omega arith) max_positions (total + v (Positions i))))
    where
      -- a number past 32 bits takes the total too far
      broken : {j : ℕ} → Breaks (wrong_positions unless Within 1 max_number (v (Positions i))
          ∷ wrong_positions unless (total + v (Positions i) ≤ max_positions) ∷ []) j → Breaks (rules visits v (Positions i)) j
      broken (inl (e, n)) = by_cases (dec_le 1 (v (Positions i))) (λ l. inr (l, inl (e, λ m. n (omega arith)))) (λ l. inl (e, l))
      broken (inr (w, inl (e, n))) = inr (w.0, inl (e, λ m. n (omega arith)))
      broken (inr (w, inr b)) = absurd b.1

  says_times : (innermost before x : ℕ)
      → Says (wrong_time unless Within 1 max_time x ∷ rising_time unless (x ≤ before) ∷ half_dead_time unless (innermost ≤ times_as_fast * x) ∷ [])
      (time_fault innermost before x)
  unfolding time_fault then_above then_below
  says_times innermost before x =
      says_then (says_then (says_outside wrong_time (omega arith) 1 max_time x) (says_above rising_time (omega arith) before x))
      (says_below half_dead_time (omega arith) innermost (times_as_fast * x))

  pub says_time : (i innermost before : ℕ) → Earlier v i innermost before → Says (rules visits v (Time i)) (time_fault innermost before (v (Time i)))
  unfolding rules
  says_time zero innermost before (b, a) = says_same (λ h. (h.0, tt)) broken (says_times innermost before (v (Time 0)))
    where
      broken : {j : ℕ} → Breaks (wrong_time unless Within 1 max_time (v (Time 0)) ∷ rising_time unless (v (Time 0) ≤ before)
          ∷ half_dead_time unless (innermost ≤ times_as_fast * v (Time 0)) ∷ []) j → Breaks (rules visits v (Time 0)) j
      broken (inl n) = inl n
      broken (inr (w, inl n)) = absurd (n.1 (omega arith))
      broken (inr (w, inr (l, inl n))) = absurd (n.1 a)
      broken (inr (w, inr (l, inr n))) = absurd n.1
  says_time (suc i) innermost before (b, a) = rw (b, a) (says_times (v (Time 0)) (v (Time i)) (v (Time (suc i))))

  pub says_films : Says (rules visits v Films) (fault_of rule.Films 0 (v Films))
  unfolding rules fault_of
  says_films = says_outside wrong_films (omega arith) 1 max_films (v Films)

  pub says_blocks : (i total sofar : ℕ) → total ≡ positions_of v (v Zones) → sofar ≡ blocks_before v i
      → Says (rules visits v (Blocks i)) (blocks_fault visits total sofar (v (Blocks i)))
  unfolding rules blocks_fault then_above
  says_blocks i total sofar t b = rw (t, b)
      (says_then (says_then (says_outside wrong_blocks (omega arith) min_blocks max_blocks (v (Blocks i)))
      (says_above wrong_films (omega arith) max_blocks (blocks_before v i + v (Blocks i))))
      (says_above (room_fault visits) (room_some visits) (free_after visits v i) (visits * v (Blocks i))))

  says_measure : (most x : ℕ) → Says (wrong_measure unless Within 1 most x ∷ []) (fault_of rule.Measure most x)
  unfolding fault_of
  says_measure most x = says_outside wrong_measure (omega arith) 1 most x

  pub says_bytes : Says (rules visits v Bytes) (fault_of rule.Measure max_bytes (v Bytes))
  unfolding rules
  says_bytes = says_measure max_bytes (v Bytes)

  pub says_rate : Says (rules visits v Rate) (fault_of rule.Measure max_rate (v Rate))
  unfolding rules
  says_rate = says_measure max_rate (v Rate)

  pub says_hop : Says (rules visits v Hop) (fault_of rule.Measure max_move (v Hop))
  unfolding rules
  says_hop = says_measure max_move (v Hop)

  pub says_return : Says (rules visits v Return) (fault_of rule.Measure max_move (v Return))
  unfolding rules
  says_return = says_measure max_move (v Return)

  says_overhead : (before x : ℕ)
      → Says (wrong_overhead unless Within 1 max_overhead x ∷ wrong_overhead unless (before ≤ x) ∷ []) (fault_of rule.Overhead before x)
  unfolding fault_of then_below
  says_overhead before x = says_then (says_outside wrong_overhead (omega arith) 1 max_overhead x) (says_below wrong_overhead (omega arith) before x)

  pub says_entry : (j before : ℕ) → before ≡ entry_before v j → Says (rules visits v (Overhead j)) (fault_of rule.Overhead before (v (Overhead j)))
  unfolding rules
  says_entry zero before e = says_same (λ h. (h.0, tt)) broken (says_overhead before (v (Overhead 0)))
    where
      broken : {k : ℕ} → Breaks (wrong_overhead unless Within 1 max_overhead (v (Overhead 0)) ∷ wrong_overhead unless (before ≤ v (Overhead 0)) ∷ []) k
          → Breaks (rules visits v (Overhead 0)) k
      broken (inl n) = inl n
      broken (inr (w, inl n)) = absurd (n.1 (omega arith))
      broken (inr (w, inr n)) = absurd n.1
  says_entry (suc j) before e = rw e (says_overhead (v (Overhead j)) (v (Overhead (suc j))))
