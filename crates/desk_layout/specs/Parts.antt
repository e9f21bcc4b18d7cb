-- What a join, a leave, a begin and an end write alone of a desk string: a slot, the phase and the kinds, the phase and all slots, the places. All
-- else stays.
-- Assumes nothing.
use Rattle.std.specs.Prelude.{ℕ, ◌+◌, ◌≤◌, ◌<◌, ◌≡◌, refl, List, [], ◌∷◌, ◌++◌, length, get_or, set, take, drop}
use Rattle.std.proofs.Common.{sym, ap, ◌∙◌, append-nil, arith, Fits}
use Rattle.std.specs.Int.{w8}
use Rattle.numbers.specs.Limits.{max_streams}
use Rattle.words.specs.Words.{Bytes, words_of, with_words}
use Rattle.words.specs.Laws.{bytes_fit, words_length, with_words_length, with_words_bytes}
use Rattle.desk.specs.declared.Desk.{Desk}
use Rattle.desk.specs.Records.{record_of, with_slot}
use Rattle.fields.specs.Fields.{Field, ◌&◌, word_count, joined}
use Rattle.fields.specs.FieldLaws.{stored, fields_stored, part_written, part_again, column_stored, column_written}
use Rattle.plan_layout.specs.Layout.{figure_fields, plan_fields, plan_values, plan_word_count}
use Rattle.desk_layout.specs.Layout.{slot_fields, desk_words, desk_in, desk_size, with_kinds, with_places}
use Rattle.desk_layout.specs.RoundTrip.{DeskSized}

-- ---- a slot: its kind, its next block, nothing held, and its place

-- the word at which N of the first film stands
abbrev pub blocks_at : ℕ
blocks_at = word_count (take 5 figure_fields)

-- the fields before the kinds
abbrev pub until_kinds : List Field
until_kinds = plan_fields ++ take 1 slot_fields

-- and those before the places
abbrev until_places : List Field
until_places = plan_fields ++ take 4 slot_fields

-- the word at which each array of the slots starts
abbrev pub kinds_at : ℕ
kinds_at = word_count until_kinds

abbrev pub next_at : ℕ
next_at = word_count (plan_fields ++ take 2 slot_fields)

abbrev pub held_at : ℕ
held_at = word_count (plan_fields ++ take 3 slot_fields)

abbrev pub places_at : ℕ
places_at = word_count until_places

pub slot_written : (s t : List ℕ) (i k x q : ℕ) → ((j : ℕ) → Fits w8 (get_or s j 0)) → desk_size ≤ length s → i < max_streams
    → t ≡ column_stored (k ∷ (x ∷ (0 ∷ (q ∷ [])))) max_streams i (word_count until_kinds) s
    → (let d = desk_in (words_of s) in t ≡ with_words s 0 (desk_words (with_slot d i k x (set d.places i q))))
unfolding desk_words desk_in with_slot
slot_written s t i k x q y h l e = e ∙ column_written until_kinds (drop 5 slot_fields) (k ∷ (x ∷ (0 ∷ (q ∷ [])))) max_streams i s (bytes_fit s y) l
    (omega (arith, words_length s))

-- ---- the phase and the kinds

abbrev pub kind_fields : List Field
kind_fields = take 2 slot_fields

pub kinds_written : (s t : List ℕ) (x : ℕ) (ks : List ℕ) → ((j : ℕ) → Fits w8 (get_or s j 0)) → desk_size ≤ length s → length ks ≡ max_streams
    → t ≡ stored kind_fields plan_word_count s [] (x & ks & tt) → t ≡ with_words s 0 (desk_words (with_kinds (desk_in (words_of s)) x ks))
unfolding desk_words desk_in
kinds_written s t x ks y h l e =
    e ∙ fields_stored kind_fields plan_word_count s [] (x & ks & tt) (omega arith)
    ∙ part_written plan_fields kind_fields (drop 2 slot_fields) s (bytes_fit s y) (omega (arith, words_length s)) (x & ks & tt) (omega arith)

-- ---- the phase and all slots: u is the string after the phase and the kinds

pub slots_written : (s u t : List ℕ) (x : ℕ) (ks xs hs : List ℕ) → ((j : ℕ) → Fits w8 (get_or s j 0)) → desk_size ≤ length s
    → (length ks ≡ max_streams) × (length xs ≡ max_streams) × (length hs ≡ max_streams)
    → u ≡ with_words s 0 (desk_words (with_kinds (desk_in (words_of s)) x ks))
    → t ≡ stored (take 2 (drop 2 slot_fields)) (plan_word_count + word_count kind_fields) u [] (xs & hs & tt)
    → (let d = desk_in (words_of s) in t ≡ with_words s 0 (desk_words (record_of d.plan x ks xs hs d.places)))
unfolding desk_words desk_in
slots_written s u t x ks xs hs y h l q e =
    let slots = x & ks & xs & hs & tt in
    e
    ∙ ap (λ (v : List ℕ). stored (take 2 (drop 2 slot_fields)) (plan_word_count + word_count kind_fields) v [] (xs & hs & tt))
    (q ∙ sym (kinds_written s _ x ks y h l.0 refl))
    ∙ fields_stored (take 4 slot_fields) plan_word_count s [] slots (omega arith)
    ∙ part_written plan_fields (take 4 slot_fields) (drop 4 slot_fields) s (bytes_fit s y) (omega (arith, words_length s)) slots (omega arith)

-- ---- the places

abbrev place_fields : List Field
place_fields = take 1 (drop 4 slot_fields)

places_stored : (s qs : List ℕ) → Bytes s → desk_size ≤ length s → length qs ≡ max_streams
    → with_words s places_at qs ≡ with_words s 0 (desk_words (with_places (desk_in (words_of s)) qs))
unfolding desk_words desk_in
places_stored s qs y h l =
    ap (with_words s places_at) (sym (append-nil qs))
    ∙ part_written until_places place_fields (drop 5 slot_fields) s y (omega (arith, words_length s)) (qs & tt) (omega arith)

pub places_written : (s t qs : List ℕ) → ((j : ℕ) → Fits w8 (get_or s j 0)) → desk_size ≤ length s → length qs ≡ max_streams → t ≡ with_words s places_at qs
    → t ≡ with_words s 0 (desk_words (with_places (desk_in (words_of s)) qs))
places_written s t qs y h l e = e ∙ places_stored s qs (bytes_fit s y) h l

-- over the desk e that was written before: u is the string with it
pub places_over : (s u t : List ℕ) (e : Desk) (qs : List ℕ) → Bytes s → desk_size ≤ length s → DeskSized e → length qs ≡ max_streams
    → u ≡ with_words s 0 (desk_words e) → t ≡ with_words u 0 (desk_words (with_places (desk_in (words_of u)) qs)) → t ≡ with_words s 0 (desk_words (with_places e qs))
unfolding desk_words
places_over s u t e qs y h z l a b =
    let long : length u ≡ length s = ap length a ∙ with_words_length s 0 (desk_words e) in
    b
    ∙ sym (places_stored u qs (rw a (with_words_bytes s 0 (desk_words e) y)) (omega arith) l)
    ∙ rw a (ap (with_words (with_words s 0 (desk_words e)) places_at) (sym (append-nil qs))
    ∙ part_again until_places place_fields (drop 5 slot_fields) s
    (joined plan_fields (take 4 slot_fields) (plan_values e.plan) (e.phase & e.kinds & e.next & e.held & tt)) (e.places & tt) (qs & tt) tt
    (omega arith) (omega arith) (omega arith) tt (omega (arith, words_length s)))
