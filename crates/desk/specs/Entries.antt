-- The fetches of an answer as a list of entries, and back.
-- Assumes nothing.
use Rattle.std.specs.Prelude.{ℕ, zero, suc, ◌+◌, ◌-◌, ◌<◌, ◌≡◌, List, [], ◌∷◌, map, length, get_or, replicate}
use Rattle.std.proofs.Math.Path.{refl}
use Rattle.std.proofs.Common.{sym, ap, ap₂, ◌∙◌, arith}
use Rattle.std.proofs.lemmas.List.{length-map}
use Rattle.std.proofs.Math.ListN.{get_or-append, get_or-map}
use Rattle.numbers.specs.Limits.{max_streams}
use Rattle.rules.specs.Scheduler.{Entry}
use Rattle.desk.specs.declared.Fetches.{Fetches}
use Rattle.desk.specs.Desk.{fetches_of, array}

-- the fetches of an answer as entries: n of them from the i-th on
unfoldable pub entries_from : ℕ → ℕ → Fetches → List Entry
entries_from i zero f = []
entries_from i (suc n) f = record { position = get_or f.positions i 0; slot = get_or f.slots i 0; block = get_or f.blocks i 0 } ∷ entries_from (suc i) n f

-- `the fetch entries that a begin answers`: the first of the list, as many as it counts
unfoldable pub entries_in : Fetches → List Entry
entries_in f = entries_from 0 f.count f

-- ---- the entries of an answer are those that the rules gave

abbrev blank_entry : Entry
blank_entry = record { position = 0; slot = 0; block = 0 }

-- the arrays hold the entries from the i-th place on
record Held (f : Fetches) (i : ℕ) (es : List Entry) : Type 0 where
  positions : (j : ℕ) → j < length es → get_or f.positions (i + j) 0 ≡ (get_or es j blank_entry).position
  slots : (j : ℕ) → j < length es → get_or f.slots (i + j) 0 ≡ (get_or es j blank_entry).slot
  blocks : (j : ℕ) → j < length es → get_or f.blocks (i + j) 0 ≡ (get_or es j blank_entry).block

held_back : (f : Fetches) (i : ℕ) (es : List Entry) → Held f i es → entries_from i (length es) f ≡ es
unfolding entries_from
held_back f i [] h = refl
held_back f i (e ∷ es) h = ap₂ (λ (x : Entry) (xs : List Entry). x ∷ xs) first (held_back f (suc i) es rest)
  where
    here : i + 0 ≡ i
    here = omega arith

    first : ◌≡◌ {A = Entry} (record { position = get_or f.positions i 0; slot = get_or f.slots i 0; block = get_or f.blocks i 0 }) e
    first = λ t. record {
      position = (rw here at (h.positions 0 (omega arith))) t;
      slot = (rw here at (h.slots 0 (omega arith))) t;
      block = (rw here at (h.blocks 0 (omega arith))) t;
    }

    next : (j : ℕ) → i + suc j ≡ suc i + j
    next j = omega arith

    rest : Held f (suc i) es
    rest = record {
      positions = λ j u. rw (next j) at (h.positions (suc j) (omega arith));
      slots = λ j u. rw (next j) at (h.slots (suc j) (omega arith));
      blocks = λ j u. rw (next j) at (h.blocks (suc j) (omega arith));
    }

-- a field of the entries in an array of 256
array_at : (g : Entry → ℕ) → g blank_entry ≡ 0 → (es : List Entry) (j : ℕ) → j < length es → get_or (array (map g es)) (0 + j) 0 ≡ g (get_or es j blank_entry)
unfolding array
array_at g z es j u =
    let here : 0 + j ≡ j = omega arith in
    rw here
    (get_or-append (map g es) (replicate (max_streams - length (map g es)) 0) 0 j (omega (arith, length-map es g))
    ∙ ap (get_or (map g es) j) (sym z)
    ∙ get_or-map g es j blank_entry)

-- the entries of an answer are those that the rules gave
pub entries_in_law : (es : List Entry) → entries_in (fetches_of es) ≡ es
unfolding entries_in fetches_of
entries_in_law es = held_back (fetches_of es) 0 es (unfold fetches_of in record {
  positions = array_at (λ e. e.position) refl es;
  slots = array_at (λ e. e.slot) refl es;
  blocks = array_at (λ e. e.block) refl es;
})
