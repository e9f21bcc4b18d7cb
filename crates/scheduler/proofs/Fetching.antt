-- A begin that writes its fetches into a lent byte string.
-- Assumes nothing.
use Prim.Native.Nat.{ℕ, ◌*◌, ◌/◌, ◌≤◌}
use mathlib.Core.Path.{◌≡◌, ap}
use mathlib.Core.List.{List}
use native.Mathlib.Omega.{arith}
use lib.ListN.{length}
use Rattle.numbers.specs.Limits.{max_streams}
use Rattle.words.specs.Words.{words_of, with_words}
use Rattle.legality.specs.Legality as legality
use Rattle.desk.specs.declared.Desk.{Desk}
use Rattle.desk.specs.declared.Begun.{Begun}
use Rattle.desk.specs.Desk.{begin_desk, entries_of, fetch_list_after}
use Rattle.desk.specs.View.{Wide}
use Rattle.scheduler.specs.Count.{begin_few}
use Rattle.entry_layout.specs.Entries.{rows, rows_of}

-- its fetches have room in a string F
abbrev pub Fit : Begun → List ℕ → Type 0
Fit b F = (b.fetches.count ≤ max_streams) × (3 * b.fetches.count ≤ length (words_of F))

-- F with them
abbrev pub fetched : Begun → List ℕ → List ℕ
fetched b F = with_words F 0 (rows 0 b.fetches.count b.fetches)

module _ (d : Desk) (w : Wide d) (z : legality.Wide d.plan.figures) (ps F ls : List ℕ) where
  abbrev room : ℕ
  room = length (words_of F) / 3

  pub begun_fits : Fit (begin_desk d ps ls room) F
  begun_fits = omega (arith, begin_few d w z ps ls room)

  pub begun_list : fetched (begin_desk d ps ls room) F ≡ fetch_list_after d ps ls room F
  unfolding begin_desk fetch_list_after
  begun_list = ap (with_words F 0) (rows_of (entries_of d ps ls room))
