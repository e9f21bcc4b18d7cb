-- Laws of what specs/RecordNamed defines.
use Prim.Native.Nat.{ℕ, zero, suc, ◌+◌, ◌*◌, ◌<◌}
use Rattle.std.specs.Prelude.{◌≡◌, ◌⊎◌, ◌↔◌, List, [], ◌∷◌, ◌++◌, Bool, true, false, cond, eqb}
use Rattle.std.proofs.Math.Path.{refl, ap}
use Rattle.std.proofs.Common.{sym, ◌∙◌, subst, inl, inr, append-nil}
use native.Mathlib.Omega.{arith}
use Rattle.std.proofs.Math.ListN.{get_or}
use Rattle.laws.specs.Bools.{and_left, and_right, and_both}
use Rattle.laws.specs.Each.{Each}
use Rattle.laws.specs.Starts.{start_none, start_next}
use Rattle.numbers.specs.Limits.{straight_kind, max_time, table_length}
use Rattle.numbers.specs.Refusals.{wrong_zones, wrong_measure, wrong_films}
use Rattle.card_field.specs.Ranges.{first, fault_of, blocks_fault}
use Rattle.card_field.specs.Row.{row_fault}
use Rattle.card_field.specs.RangeLaws.{first_assoc}
use Rattle.card_table.specs.Table.{hop_in, back_in, is_line, straight_fault, last_entry, measured_fault, table_fault}
use Rattle.card_table.specs.TableLaws.{line_at, at_line}
use Rattle.card.specs.declared.Figures.{Figures}
use Rattle.card.specs.declared.Verdict.{Verdict}
use Rattle.card.specs.Card.{zeros, shelf_fault, film_fault, zone_faults, zeros_from, unused_zero, record_fault, judge_record}
use Rattle.legality.specs.Zeros.{zeros_at, at_zeros}
use Rattle.legality.specs.Legality.{Unused, Idle}
use Rattle.fault_claims.specs.Rules.{Figure, Positions, Time, Films, Blocks, Hop, Return, Overhead}
use Rattle.fault_claims.specs.Rules.{zone_figures, length_figures, entry_figures, overhead_figures, film_figures, figures_in_order}
use Rattle.fault_claims.specs.Rules.{Rule, ◌unless◌, Holds, Breaks, Values, positions_of, blocks_before, rules}
use Rattle.fault_claims.specs.Says.{holds_unbroken, breaks_one, breaks_front, breaks_behind, Says, none, names, says_test}
use Rattle.fault_claims.proofs.Says.{says_then}
use Rattle.fault_claims.specs.FigureRules.{Earlier, entry_before}
use Rattle.fault_claims.proofs.FigureRules.{says_kind, says_zones, says_positions, says_time}
use Rattle.fault_claims.proofs.FigureRules.{says_films, says_blocks, says_bytes, says_rate, says_hop, says_return, says_entry}
use Rattle.fault_claims.specs.RecordFault.{record_rules, RecordFault}
use Rattle.fault_claims.specs.RecordNamed.{rules_of as rules_of_in_specs, FirstOf as FirstOf_in_specs, v as v_in_specs, Judges as Judges_in_specs}
use Rattle.card_field.specs.declared.Rule.TheVariants as rule

-- ---- the rules of figures in a row

module _ (r : Figure → List Rule) where
  abbrev rules_of : List Figure → List Rule
  rules_of = rules_of_in_specs r

  abbrev FirstOf : (gs : List Figure) (k : ℕ) → Type 0
  FirstOf = FirstOf_in_specs r

  breaks_split : (rs qs : List Rule) (k : ℕ) → Breaks (rs ++ qs) k → Breaks rs k ⊎ (Holds rs × Breaks qs k)
  breaks_split [] qs k b = inr (tt, b)
  breaks_split (p ∷ rs) qs k (inl b) = inl (inl b)
  breaks_split (p ∷ rs) qs k (inr (h, b)) = by (breaks_split rs qs k b)
    where
      by : Breaks rs k ⊎ (Holds rs × Breaks qs k) → Breaks (p ∷ rs) k ⊎ (Holds (p ∷ rs) × Breaks qs k)
      by (inl c) = inl (inr (h, c))
      by (inr c) = inr ((h, c.0), c.1)

  broken_first : (gs : List Figure) (k : ℕ) → Breaks (rules_of gs) k → FirstOf gs k
  broken_first [] k b = absurd b
  broken_first (g ∷ gs) k b = by (breaks_split (r g) (rules_of gs) k b) (broken_first gs k)
    where
      by : Breaks (r g) k ⊎ (Holds (r g) × Breaks (rules_of gs) k) → (Breaks (rules_of gs) k → FirstOf gs k) → FirstOf (g ∷ gs) k
      by (inl c) later = record { before = []; here = g; after = gs; order = refl; good = tt; fault = c }
      by (inr (h, c)) later =
          let f = later c in
          record {
            before = g ∷ f.before;
            here = f.here;
            after = f.after;
            order = ap (λ (hs : List Figure). g ∷ hs) f.order;
            good = (h, f.good);
            fault = f.fault;
          }

  first_broken : (before : List Figure) (here : Figure) (after : List Figure) (k : ℕ) → Each (λ g. Holds (r g)) before → Breaks (r here) k
      → Breaks (rules_of (before ++ (here ∷ after))) k
  first_broken [] here after k h b = breaks_front (r here) (rules_of after) k b
  first_broken (g ∷ before) here after k h b =
      breaks_behind (r g) (rules_of (before ++ (here ∷ after))) k h.0 (first_broken before here after k h.1 b)

-- ---- the judge of a record says what its rules say

module _ (visits : ℕ) (f : Figures) where
  abbrev v : Values
  v = v_in_specs visits f

  abbrev Judges : List Figure → ℕ → Type 0
  Judges = Judges_in_specs visits f

  -- a figure with no rule besides the card's
  alone : {rs : List Rule} {j : ℕ} → Says rs j → Says (rs ++ []) j
  alone {rs} {j} a = subst (λ (qs : List Rule). Says qs j) (sym (append-nil rs)) a

  judges_entries : (left j before : ℕ) → before ≡ entry_before v j
      → Judges (entry_figures left j) (row_fault (fault_of rule.Overhead) last_entry left before j f.table)
  unfolding row_fault entry_figures
  judges_entries zero j before e = none refl tt
  judges_entries (suc left) j before e =
      let next : j + 1 ≡ suc j = omega arith in
      says_then (alone (says_entry visits v j before e)) (rw next (judges_entries left (suc j) (v (Overhead j)) refl))

  judges_table : Judges (overhead_figures f.kind) (table_fault f.kind f.table)
  unfolding overhead_figures table_fault straight_fault measured_fault rules
  judges_table = by (eqb f.kind straight_kind)
    where
      line : Says (wrong_measure unless ((j : ℕ) → j < table_length → get_or f.table j 0 ≡ hop_in f.table * j + back_in f.table) ∷ [])
          (cond (is_line table_length 0 f.table (hop_in f.table) (back_in f.table)) 0 wrong_measure)
      line = says_test (is_line table_length 0 f.table (hop_in f.table) (back_in f.table)) wrong_measure (omega arith)
          (λ e j h. line_at table_length 0 f.table (hop_in f.table) (back_in f.table) e j (omega arith) (omega arith))
          (λ h. at_line table_length 0 f.table (hop_in f.table) (back_in f.table) (λ j l u. h j (omega arith)))

      by : (t : Bool) → Judges (cond t (Hop ∷ Return ∷ []) (entry_figures table_length 0)) (cond t (straight_fault f.table) (measured_fault f.table))
      by true = says_then (says_hop visits v) (says_then (says_return visits v) line)
      by false = judges_entries table_length 0 0 refl

  -- the films from the i-th on, and what follows them
  judges_lengths : (total : ℕ) → total ≡ positions_of v f.zones → (gs : List Figure) (k : ℕ) → Judges gs k → (left i sofar : ℕ) → sofar ≡ blocks_before v i
      → Judges (length_figures left i ++ gs) (first (row_fault (blocks_fault visits total) ◌+◌ left sofar i f.blocks) k)
  unfolding row_fault length_figures first
  judges_lengths total e gs k later zero i sofar b = later
  judges_lengths total e gs k later (suc left) i sofar b =
      let next : i + 1 ≡ suc i = omega arith in
      rw (first_assoc (blocks_fault visits total sofar (v (Blocks i))) (row_fault (blocks_fault visits total) ◌+◌ left (sofar + v (Blocks i)) (i + 1) f.blocks) k)
      (says_then (alone (says_blocks visits v i total sofar e b))
      (rw next (judges_lengths total e gs k later left (suc i) (sofar + v (Blocks i)) (omega (arith, start_next (λ j. v (Blocks j)) i)))))

  judges_idle : Says (wrong_films unless Idle f ∷ []) (cond (zeros f.films f.blocks) 0 wrong_films)
  judges_idle = says_test (zeros f.films f.blocks) wrong_films (omega arith) (zeros_at f.films f.blocks) (at_zeros f.films f.blocks)

  judges_film : (total : ℕ) → total ≡ positions_of v f.zones → Judges (film_figures f.kind f.films) (film_fault visits f total)
  unfolding film_fault shelf_fault film_figures rules
  judges_film total e =
      let measures = says_then (alone (says_bytes visits v)) (says_then (alone (says_rate visits v)) judges_table) in
      let lengths = judges_lengths total e _ _ measures f.films 0 0 (sym (start_none (λ j. v (Blocks j)))) in
      rw (first_assoc (fault_of rule.Films 0 f.films) _ _, first_assoc (cond (zeros f.films f.blocks) 0 wrong_films) _ _)
      (says_then (says_films visits v) (says_then judges_idle lengths))

  judges_zones : (left i total before : ℕ) → i + left ≡ f.zones → total ≡ positions_of v i → Earlier v i (get_or f.times 0 0) before
      → Judges (zone_figures left i ++ film_figures f.kind f.films) (zone_faults visits left i f total before)
  unfolding zone_figures zone_faults positions_of
  judges_zones zero i total before all t e = let same : i ≡ f.zones = omega arith in judges_film total (t ∙ ap (positions_of v) same)
  judges_zones (suc left) i total before all t e =
      let next : i + 1 ≡ suc i = omega arith in
      says_then (alone (says_positions visits v i total t))
      (says_then (alone (says_time visits v i (get_or f.times 0 0) before e))
      (rw next (judges_zones left (suc i) (total + v (Positions i)) (v (Time i)) (omega arith) (omega arith) (refl, refl))))

  judges_unused : Says (wrong_zones unless Unused f ∷ []) (cond (unused_zero f) 0 wrong_zones)
  unfolding unused_zero zeros_from
  judges_unused = says_test (unused_zero f) wrong_zones (omega arith)
      (λ e i l. (
        zeros_at f.zones f.positions (and_left (zeros f.zones f.positions) _ e) i l,
        zeros_at f.zones f.times (and_right (zeros f.zones f.positions) _ e) i l,
      ))
      (λ u. and_both (at_zeros f.zones f.positions (λ i l. (u i l).0)) (at_zeros f.zones f.times (λ i l. (u i l).1)))

  judges_record : Judges (figures_in_order f.kind f.zones f.films) (record_fault visits f)
  unfolding figures_in_order record_fault rules positions_of
  judges_record = says_then (says_kind visits v) (says_then (says_zones visits v) (says_then judges_unused
      (judges_zones f.zones 0 0 max_time (omega arith) refl (refl, omega arith))))

  -- ---- the claim

  says_number : (rs : List Rule) (j k : ℕ) → Says rs j → (j ≡ suc k) ↔ Breaks rs (suc k)
  says_number rs j k (none e h) = (λ d. absurd (omega arith), λ b. absurd (holds_unbroken rs (suc k) h b))
  says_number rs j k (names p b) = (λ d. subst (Breaks rs) d b, breaks_one rs j (suc k) b)

  record_fault_law : (k : ℕ) → (record_fault visits f ≡ suc k) ↔ RecordFault visits f (suc k)
  record_fault_law k = (λ e. there (broken_first r gs (suc k) (n.0 e)), λ c. n.1 (back c))
    where
      r : Figure → List Rule
      r = record_rules visits f

      gs : List Figure
      gs = figures_in_order f.kind f.zones f.films

      n : (record_fault visits f ≡ suc k) ↔ Breaks (rules_of_in_specs r gs) (suc k)
      n = says_number (rules_of_in_specs r gs) (record_fault visits f) k judges_record

      there : FirstOf_in_specs r gs (suc k) → RecordFault visits f (suc k)
      there c = record { before = c.before; here = c.here; after = c.after; order = c.order; good = c.good; fault = c.fault }

      back : RecordFault visits f (suc k) → Breaks (rules_of_in_specs r gs) (suc k)
      back c = subst (λ (hs : List Figure). Breaks (rules_of_in_specs r hs) (suc k)) (sym c.order)
          (first_broken r c.before c.here c.after (suc k) c.good c.fault)

-- THE FIRST FAULT OF A RECORD IS NAMED
pub record_named : (visits : ℕ) (f : Figures) (k : ℕ)
    → ((judge_record visits f ≡ record { number = suc k; place = 0 }) ↔ RecordFault visits f (suc k))
    × ((record_fault visits f ≡ suc k) ↔ RecordFault visits f (suc k))
unfolding judge_record
record_named visits f k =
    let n = record_fault_law visits f k in
    ((λ e. n.0 (ap (λ (x : Verdict). x.number) e), λ c. ap (λ (j : ℕ). record { number = j; place = 0 }) (n.1 c)), n)
