-- Desks in words and in bytes: decoding what was encoded gives it back, and encoding what was decoded gives the same bytes. Each law is that of
-- every table (crate fields), at the desk's.
-- Assumes nothing.
use Rattle.std.specs.Prelude.{ℕ, ◌+◌, ◌≤◌, ◌≡◌, refl, List, length}
use Rattle.std.proofs.Common.{sym, ap, ◌∙◌, arith}
use Rattle.numbers.specs.Limits.{max_streams}
use Rattle.words.specs.Words.{Bytes, Words, words_of, with_words, zero_words}
use Rattle.words.specs.Laws.{with_words_append}
use Rattle.words.specs.Zero.{words_zero}
use Rattle.card.specs.Read.{blank_zones, blank_films, blank_table, blank_figures}
use Rattle.plan.specs.declared.Plan.{Plan}
use Rattle.plan.specs.Plan.{blank_plan}
use Rattle.desk.specs.declared.Desk.{Desk}
use Rattle.desk.specs.Desk.{zeros, fresh_desk, blank_desk}
use Rattle.fields.specs.Fields.{word_count, packed, Sized}
use Rattle.fields.specs.FieldLaws.{unpacked_sized, fields_written, fields_kept, packed_joined, AllFit, joined_fit}
use Rattle.plan_layout.specs.Layout.{plan_fields, plan_values, plan_words, plan_in, plan_word_count, zero_bytes}
use Rattle.plan_layout.specs.RoundTrip.{PlanSized}
use Rattle.desk_layout.specs.Layout.{slot_fields, slot_values, desk_fields, desk_values, desk_of_values, desk_words, desk_in, desk_word_count, desk_size}

-- ---- sizes

-- the arrays of the slots have 256 entries
pub record DeskSized (d : Desk) : Type 0 where
  pub plan : PlanSized d.plan
  pub kinds : length d.kinds ≡ max_streams
  pub next : length d.next ≡ max_streams
  pub held : length d.held ≡ max_streams
  pub places : length d.places ≡ max_streams

desk_table : (d : Desk) → DeskSized d → Sized desk_fields (desk_values d)
desk_table d z = omega arith

pub desk_sized : (ws : List ℕ) → desk_word_count ≤ length ws → DeskSized (desk_in ws)
unfolding desk_in
desk_sized ws h = let z = unpacked_sized desk_fields 0 ws h in omega arith

-- ---- numbers of 32 bits

pub desk_fit : (d : Desk) → Words (plan_words d.plan) → AllFit slot_fields (slot_values d) → Words (desk_words d)
unfolding plan_words desk_words
desk_fit d x y = joined_fit plan_fields slot_fields (plan_values d.plan) (slot_values d) x y

-- ---- field by field, as code reads and writes them

-- a new desk: zeros behind its plan
fresh_slots : (p : Plan) → zero_words (word_count slot_fields) ≡ packed slot_fields (slot_values (fresh_desk p))
unfolding fresh_desk zeros zero_words
fresh_slots p = refl

pub fresh_stored : (p : Plan) (s t : List ℕ) → length (plan_words p) ≡ plan_word_count
    → t ≡ with_words (with_words s 0 (plan_words p)) plan_word_count (zero_words (word_count slot_fields)) → t ≡ with_words s 0 (desk_words (fresh_desk p))
unfolding plan_words desk_words fresh_desk
fresh_stored p s t l e =
    let plan : List ℕ = packed plan_fields (plan_values p) in
    let slots : List ℕ = packed slot_fields (slot_values (fresh_desk p)) in
    let far : plan_word_count ≡ 0 + length plan = omega arith in
    e
    ∙ ap (with_words (with_words s 0 plan) plan_word_count) (fresh_slots p)
    ∙ ap (λ (n : ℕ). with_words (with_words s 0 plan) n slots) far
    ∙ sym (ap (with_words s 0) (packed_joined plan_fields slot_fields (plan_values p) (slot_values (fresh_desk p))) ∙ with_words_append s 0 plan slots)

-- the plan of a desk stands in front
pub plan_in_front : (ws : List ℕ) → (desk_in ws).plan ≡ plan_in ws
unfolding plan_in desk_in
plan_in_front ws = refl

-- ---- written and read

-- WHAT IS WRITTEN IS READ BACK
pub desk_written : (s : List ℕ) (d : Desk) → DeskSized d → Words (desk_words d) → desk_word_count ≤ length (words_of s)
    → desk_in (words_of (with_words s 0 (desk_words d))) ≡ d
unfolding desk_in desk_words
desk_written s d z y h = ap desk_of_values (fields_written desk_fields s (desk_values d) (desk_table d z) y h)

-- WHAT WAS READ IS WRITTEN BACK
pub desk_kept : (s : List ℕ) → Bytes s → desk_word_count ≤ length (words_of s) → with_words s 0 (desk_words (desk_in (words_of s))) ≡ s
unfolding desk_in desk_words
desk_kept s y h = fields_kept desk_fields 0 s y h

-- ---- all zero

-- the desk that is all zero is zeros
pub desk_blank : desk_words blank_desk ≡ zero_words desk_word_count
unfolding zero_words desk_words blank_desk fresh_desk zeros blank_plan blank_figures blank_zones blank_films blank_table
desk_blank = refl

pub desk_zero : (s : List ℕ) → length s ≡ desk_size → with_words s 0 (desk_words blank_desk) ≡ zero_bytes desk_size
unfolding zero_bytes desk_words blank_desk fresh_desk zeros blank_plan blank_figures blank_zones blank_films blank_table
desk_zero s e = words_zero s desk_word_count e
