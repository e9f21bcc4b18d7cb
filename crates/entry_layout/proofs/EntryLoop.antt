-- The loop that writes fetch entries, one a turn.
-- Assumes nothing.
use Prim.Native.Nat.{ℕ, suc, ◌+◌, ◌-◌, ◌*◌, ◌≤◌, ◌<◌}
use mathlib.Core.Path.{◌≡◌, refl, sym, ap, ◌∙◌}
use mathlib.Core.List.{List, [], ◌∷◌}
use native.Mathlib.Omega.{arith}
use native.Mathlib.Numerals.{add-one}
use lib.ListN.{length, get_or}
use Rattle.words.specs.Words.{with_words}
use Rattle.words.specs.Laws.{with_words_none, with_words_append, with_words_length}
use Rattle.desk.specs.declared.Fetches.{Fetches}
use Rattle.entry_layout.specs.Entries.{rows}

-- out is a string s after the first i of n entries
pub record EntriesWritten (n : ℕ) (f : Fetches) (s out : List ℕ) (i : ℕ) : Type 0 where
  pub within : i ≤ n
  pub long : length out ≡ length s
  -- with the others behind them it has all
  pub others : with_words out (3 * i) (rows i (n - i) f) ≡ with_words s 0 (rows 0 n f)

module _ (n : ℕ) (f : Fetches) (s : List ℕ) where
  pub entries_start : EntriesWritten n f s s 0
  entries_start = let e : n - 0 ≡ n = omega arith in record { within = omega arith; long = refl; others = rw e }

  module _ (out : List ℕ) (i : ℕ) (w : EntriesWritten n f s out i) where
    pub entries_more : i < n → (t : List ℕ) → t ≡ with_words out (3 * i) (get_or f.positions i 0 ∷ get_or f.slots i 0 ∷ get_or f.blocks i 0 ∷ [])
        → EntriesWritten n f s t (i + 1)
    unfolding rows
    entries_more h t e =
        let entry : List ℕ = get_or f.positions i 0 ∷ get_or f.slots i 0 ∷ get_or f.blocks i 0 ∷ [] in
        let left : n - i ≡ suc (n - (i + 1)) = omega arith in
        let next : 3 * i + 3 ≡ 3 * (i + 1) = omega arith in
        record {
          within = omega arith;
          long = ap length e ∙ with_words_length out (3 * i) entry ∙ w.long;
          others =
              rw (e, ← next, add-one) (sym (with_words_append out (3 * i) entry (rows (suc i) (n - suc i) f)))
              ∙ rw (left, add-one) at w.others;
        }

    pub entries_end : n ≤ i → out ≡ with_words s 0 (rows 0 n f)
    unfolding rows
    entries_end h = let e : n - i ≡ 0 = omega arith in sym (with_words_none out (3 * i)) ∙ rw e at w.others
