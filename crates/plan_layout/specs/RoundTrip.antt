-- Plans in words and in bytes: decoding what was encoded gives it back, and encoding what was decoded gives the same bytes. Each law is that of
-- every table (crate fields), at the plan's.
-- Assumes nothing.
use Rattle.std.specs.Prelude.{ℕ, ◌≤◌, ◌≡◌, refl, List, [], length}
use Rattle.std.proofs.Common.{ap, ◌∙◌, arith}
use Rattle.numbers.specs.Limits.{max_zones, max_films, table_length}
use Rattle.words.specs.Words.{Bytes, Words, words_of, with_words, zero_words}
use Rattle.words.specs.Zero.{words_zero}
use Rattle.card.specs.Read.{blank_zones, blank_films, blank_table, blank_figures}
use Rattle.card.specs.declared.Figures.{Figures}
use Rattle.plan.specs.declared.Plan.{Plan}
use Rattle.plan.specs.Plan.{blank_plan}
use Rattle.fields.specs.Fields.{unpacked, word_count, Sized, Same}
use Rattle.fields.specs.FieldLaws.{unpacked_sized, packed_length, same_values, stored, fields_stored, fields_written, fields_kept}
use Rattle.plan_layout.specs.Layout.{figure_fields, figure_values, figures_of, planned_fields, planned_values, plan_with, plan_fields, plan_values}
use Rattle.plan_layout.specs.Layout.{plan_of_values, plan_words, plan_in, plan_word_count, plan_size, zero_bytes}

-- ---- sizes

-- the arrays of figures have 64, 16 and 257 entries
pub record FiguresSized (f : Figures) : Type 0 where
  pub positions : length f.positions ≡ max_zones
  pub times : length f.times ≡ max_zones
  pub blocks : length f.blocks ≡ max_films
  pub table : length f.table ≡ table_length

-- and so have those of a plan
abbrev pub PlanSized : Plan → Type 0
PlanSized p = FiguresSized p.figures

plan_table : (p : Plan) → PlanSized p → Sized plan_fields (plan_values p)
plan_table p z = omega arith

pub plan_sized : (ws : List ℕ) → plan_word_count ≤ length ws → PlanSized (plan_in ws)
unfolding plan_in
plan_sized ws h = let z = unpacked_sized plan_fields 0 ws h in omega arith

-- ---- field by field, as code reads and writes them

pub plan_read : (p : Plan) (ws : List ℕ) → Same figure_fields (figure_values p.figures) (unpacked figure_fields 0 ws)
    → Same planned_fields (planned_values p) (unpacked planned_fields (word_count figure_fields) ws) → p ≡ plan_in ws
unfolding plan_in
plan_read p ws e d =
    let figures = same_values figure_fields _ _ e in
    let planned = same_values planned_fields _ _ d in
    λ i. plan_with (figures_of (figures i)) (planned i)

pub plan_stored : (p : Plan) (s t : List ℕ) → PlanSized p → t ≡ stored plan_fields 0 s [] (plan_values p) → (t ≡ with_words s 0 (plan_words p))
    × (length (plan_words p) ≡ plan_word_count)
unfolding plan_words
plan_stored p s t z e = let l = plan_table p z in (e ∙ fields_stored plan_fields 0 s [] (plan_values p) l, packed_length plan_fields (plan_values p) l)

-- ---- written and read

-- WHAT IS WRITTEN IS READ BACK
pub plan_written : (s : List ℕ) (p : Plan) → PlanSized p → Words (plan_words p) → plan_word_count ≤ length (words_of s)
    → plan_in (words_of (with_words s 0 (plan_words p))) ≡ p
unfolding plan_in plan_words
plan_written s p z y h = ap plan_of_values (fields_written plan_fields s (plan_values p) (plan_table p z) y h)

-- WHAT WAS READ IS WRITTEN BACK
pub plan_kept : (s : List ℕ) → Bytes s → plan_word_count ≤ length (words_of s) → with_words s 0 (plan_words (plan_in (words_of s))) ≡ s
unfolding plan_in plan_words
plan_kept s y h = fields_kept plan_fields 0 s y h

-- ---- all zero

-- the plan that is all zero is zeros
pub plan_blank : plan_words blank_plan ≡ zero_words plan_word_count
unfolding zero_words plan_words blank_plan blank_figures blank_zones blank_films blank_table
plan_blank = refl

-- a refused plan is all zero
pub plan_zero : (s : List ℕ) → length s ≡ plan_size → with_words s 0 (plan_words blank_plan) ≡ zero_bytes plan_size
unfolding zero_bytes plan_words blank_plan blank_figures blank_zones blank_films blank_table
plan_zero s e = words_zero s plan_word_count e
