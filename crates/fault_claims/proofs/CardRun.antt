-- Laws of what specs/CardRun defines.
use Prim.Native.Nat.{ℕ, zero, suc, ◌+◌, ◌≤◌, ◌<◌}
use Rattle.std.specs.Prelude.{◌≡◌, ◌⊎◌, Bool, cond, length, get_or, set, eqb}
use Rattle.std.proofs.Math.Path.{refl, ap}
use Rattle.std.proofs.Common.{sym, ◌∙◌, subst, get_or-set_same, get_or-set_other, ltb-true, ltb-false}
use Rattle.std.proofs.Math.Logic.{inl, inr}
use mathlib.Core.List.{List, [], ◌∷◌, ◌++◌}
use Rattle.std.proofs.Math.Bool.{true, false}
use native.Mathlib.Omega.{arith}
use Rattle.std.proofs.Math.ListN.{length-set}
use Rattle.std.proofs.Math.Dec.{ltb}
use Rattle.laws.specs.Starts.{start_none, start_next}
use Rattle.numbers.specs.Limits.{straight_kind, max_time, max_bytes, max_rate, max_move, table_length}
use Rattle.numbers.specs.Refusals.{card_goes_on}
use Rattle.leb128.specs.declared.Number.{Number}
use Rattle.leb128.specs.Number.{number_at}
use Rattle.card_field.specs.Ranges.{fault_of, time_fault, blocks_fault}
use Rattle.card_field.specs.Figure.{on_fault, on_number, field_at}
use Rattle.card_table.specs.Table.{straight, last_entry}
use Rattle.card.specs.declared.Figures.{Figures}
use Rattle.card.specs.declared.Verdict.{Verdict}
use Rattle.card.specs.declared.CardRead.{CardRead}
use Rattle.card.specs.Read.{blank_zones, blank_films, blank_table, accepted, refused_card, then_field, card_end, row_from}
use Rattle.card.specs.Read.{moves_from, entries_from, table_from, shelf_from, film_from, zones_from, after_zones, read_card}
use Rattle.fault_claims.specs.Rules.{Figure, Kind, Zones, Positions, Time, Films, Blocks, Bytes, Rate, Hop, Return, Overhead}
use Rattle.fault_claims.specs.Rules.{zone_figures, length_figures, entry_figures, overhead_figures, film_figures, figures_in_order}
use Rattle.fault_claims.specs.Rules.{Holds, Breaks, Values, positions_of, blocks_before, rules}
use Rattle.fault_claims.specs.Says.{Says, none, names}
use Rattle.fault_claims.specs.FigureRules.{Earlier, entry_before}
use Rattle.fault_claims.proofs.FigureRules.{says_kind, says_zones, says_positions, says_time}
use Rattle.fault_claims.proofs.FigureRules.{says_films, says_blocks, says_bytes, says_rate, says_hop, says_return, says_entry}
use Rattle.fault_claims.specs.CardRun.{OnFigure, Answers}
use Rattle.leb128.specs.declared.Number.TheVariants as number
use Rattle.card_field.specs.declared.Rule.TheVariants as rule

module _ (visits : ℕ) (v : Values) (s : List ℕ) where
  -- one figure, and what follows it
  answers_figure : (judge : ℕ → ℕ) (at : ℕ) (go : ℕ → ℕ → CardRead) (g : Figure) (gs : List Figure) → Says (rules visits v g) (judge (v g))
      → ((next : ℕ) → Holds (rules visits v g) → Answers visits v s next gs (go (v g) next).verdict)
      → Answers visits v s at (g ∷ gs) (then_field (field_at judge s at) go).verdict
  unfolding Answers field_at on_number on_fault then_field refused_card
  answers_figure judge at go g gs says later = by (number_at s at)
    where
      After : ℕ → Verdict → Type 0
      After next x = (Breaks (rules visits v g) x.number × (x.place ≡ at)) ⊎ (Holds (rules visits v g) × Answers visits v s next gs x)

      on : (j next : ℕ) → Says (rules visits v g) j → After next (then_field (on_fault j at (v g) next) go).verdict
      on zero next (none e h) = inr (h, later next h)
      on zero next (names p b) = absurd (omega arith)
      on (suc k) next (none e h) = absurd (omega arith)
      on (suc k) next (names p b) = inl (b, refl)

      by : (n : Number) → OnFigure (rules visits v g) (v g) at (then_field (on_number judge at n) go).verdict
          (λ next. Answers visits v s next gs (then_field (on_number judge at n) go).verdict) n
      by (number.Value w next) =
          λ e. subst (λ (u : ℕ). After next (then_field (on_fault (judge u) at u next) go).verdict) (sym e) (on (judge (v g)) next says)
      by (number.CutOff size) = refl
      by (number.Malformed start) = refl

  -- the end
  answers_end : (at : ℕ) (f : Figures) → Answers visits v s at [] (card_end s at f).verdict
  unfolding Answers card_end refused_card
  answers_end at f = by (ltb at (length s)) refl
    where
      by : (t : Bool) → ltb at (length s) ≡ t
          → Answers visits v s at [] (cond t (refused_card card_goes_on at) (record { verdict = accepted; figures = f })).verdict
      by true e = inl (ltb-true at (length s) e, refl)
      by false e = inr (ltb-false at (length s) e, refl)

  -- the overheads
  answers_entries : (left j at before k : ℕ) (us : List ℕ) (go : List ℕ → ℕ → CardRead) → before ≡ entry_before v j
      → ((os : List ℕ) (next : ℕ) → Answers visits v s next [] (go os next).verdict)
      → Answers visits v s at (entry_figures left j) (row_from (fault_of rule.Overhead) last_entry left s at before k us go).verdict
  unfolding row_from entry_figures
  answers_entries zero j at before k us go e later = later us at
  answers_entries (suc left) j at before k us go e later =
      answers_figure (fault_of rule.Overhead before) at _ (Overhead j) (entry_figures left (suc j)) (says_entry visits v j before e) (λ next h.
      answers_entries left (suc j) next (v (Overhead j)) (k + 1) (set us k (v (Overhead j))) go refl later)

  answers_table : (kind at : ℕ) (go : List ℕ → ℕ → CardRead) → ((os : List ℕ) (next : ℕ) → Answers visits v s next [] (go os next).verdict)
      → Answers visits v s at (overhead_figures kind) (table_from kind s at go).verdict
  unfolding overhead_figures table_from moves_from entries_from
  answers_table kind at go later = by (eqb kind straight_kind)
    where
      by : (t : Bool)
          → Answers visits v s at (cond t (Hop ∷ Return ∷ []) (entry_figures table_length 0)) (cond t (moves_from s at go) (entries_from s at go)).verdict
      by true =
          answers_figure (fault_of rule.Measure max_move) at _ Hop (Return ∷ []) (says_hop visits v) (λ at₁ h.
          answers_figure (fault_of rule.Measure max_move) at₁ _ Return [] (says_return visits v) (λ at₂ b. later (straight (v Hop) (v Return)) at₂))
      by false = answers_entries table_length 0 at 0 0 blank_table go refl later

  -- the films from the i-th on, and what follows them
  answers_lengths : (total : ℕ) → total ≡ positions_of v (v Zones) → (gs : List Figure) (left i at sofar n : ℕ) (us : List ℕ) (go : List ℕ → ℕ → CardRead)
      → sofar ≡ blocks_before v i → ((ns : List ℕ) (next : ℕ) → Answers visits v s next gs (go ns next).verdict)
      → Answers visits v s at (length_figures left i ++ gs) (row_from (blocks_fault visits total) ◌+◌ left s at sofar n us go).verdict
  unfolding row_from length_figures
  answers_lengths total e gs zero i at sofar n us go b later = later us at
  answers_lengths total e gs (suc left) i at sofar n us go b later =
      answers_figure (blocks_fault visits total sofar) at _ (Blocks i) _ (says_blocks visits v i total sofar e b) (λ next h.
      answers_lengths total e gs left (suc i) next (sofar + v (Blocks i)) (n + 1) (set us n (v (Blocks i))) go
      (omega (arith, start_next (λ j. v (Blocks j)) i)) later)

  -- the films, B and c, and what follows them
  answers_film : (kind z : ℕ) (ps ts : List ℕ) (total at : ℕ) → total ≡ positions_of v (v Zones)
      → Answers visits v s at (film_figures kind (v Films)) (after_zones visits s kind z ps ts total at).verdict
  unfolding film_from shelf_from film_figures
  answers_film kind z ps ts total at e =
      answers_figure (fault_of rule.Films 0) at _ Films _ (says_films visits v) (λ at₁ m.
      answers_lengths total e _ (v Films) 0 at₁ 0 0 blank_films _ (sym (start_none (λ j. v (Blocks j)))) (λ ns at₂.
      answers_figure (fault_of rule.Measure max_bytes) at₂ _ Bytes _ (says_bytes visits v) (λ at₃ b.
      answers_figure (fault_of rule.Measure max_rate) at₃ _ Rate _ (says_rate visits v) (λ at₄ c.
      answers_table kind at₄ _ (λ os at₅. answers_end at₅ _)))))

  -- the first zone's time is kept
  first_kept : (i n : ℕ) (ts : List ℕ) (before : ℕ) → n ≡ i → i < length ts → Earlier v i (get_or ts 0 0) before
      → get_or (set ts n (v (Time i))) 0 0 ≡ v (Time 0)
  first_kept zero n ts before m h e = rw m (get_or-set_same ts 0 (v (Time 0)) 0 h)
  first_kept (suc i) n ts before m h e = get_or-set_other ts n 0 (v (Time (suc i))) 0 (omega arith) ∙ e.1

  -- the zones from the i-th on, and the films
  answers_zones : (left i n at : ℕ) (ps ts : List ℕ) (total before kind z : ℕ) → n ≡ i → i + left ≡ v Zones → i + left ≤ length ts
      → total ≡ positions_of v i → Earlier v i (get_or ts 0 0) before
      → Answers visits v s at (zone_figures left i ++ film_figures kind (v Films))
      (zones_from left s at n ps ts total before (after_zones visits s kind z)).verdict
  unfolding zones_from zone_figures positions_of
  answers_zones zero i n at ps ts total before kind z m all w t e =
      let same : i ≡ v Zones = omega arith in
      answers_film kind z ps ts total at (t ∙ ap (positions_of v) same)
  answers_zones (suc left) i n at ps ts total before kind z m all w t e =
      answers_figure (fault_of rule.Positions total) at _ (Positions i) _ (says_positions visits v i total t) (λ at₁ p.
      answers_figure (time_fault (get_or ts 0 0) before) at₁ _ (Time i) _ (says_time visits v i (get_or ts 0 0) before e) (λ at₂ q.
      answers_zones left (suc i) (n + 1) at₂ (set ps n (v (Positions i))) (set ts n (v (Time i))) (total + v (Positions i)) (v (Time i)) kind z
      (omega arith) (omega arith) (omega (arith, length-set ts n (v (Time i)))) (omega arith) (refl, first_kept i n ts before m (omega arith) e)))

  -- THE READER GOES THROUGH THE FIGURES IN THEIR ORDER
  pub answers_card : Answers visits v s 0 (figures_in_order (v Kind) (v Zones) (v Films)) (read_card visits s).verdict
  unfolding figures_in_order read_card rules positions_of blank_zones
  answers_card =
      answers_figure (fault_of rule.Kind 0) 0 _ Kind _ (says_kind visits v) (λ at₁ k.
      answers_figure (fault_of rule.Zones 0) at₁ _ Zones _ (says_zones visits v) (λ at₂ z.
      answers_zones (v Zones) 0 0 at₂ blank_zones blank_zones 0 max_time (v Kind) (v Zones) refl (omega arith) (omega (arith, z.0)) refl (refl, omega arith)))
