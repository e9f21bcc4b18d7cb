-- The arrays of a desk in a string that is long enough have their lengths.
-- Assumes nothing.
use Rattle.std.specs.Prelude.{ℕ, ◌≤◌, List, length}
use Rattle.std.proofs.Common.{arith}
use Rattle.words.specs.Words.{words_of}
use Rattle.words.specs.Laws.{words_length}
use Rattle.legality.specs.Legality as legality
use Rattle.desk.specs.View.{Wide}
use Rattle.desk_layout.specs.Layout.{desk_in, desk_size}
use Rattle.desk_layout.specs.RoundTrip.{DeskSized, desk_sized}

module _ (D : List ℕ) (h : desk_size ≤ length D) where
  pub sized_in : DeskSized (desk_in (words_of D))
  sized_in = desk_sized (words_of D) (omega (arith, words_length D))

  pub wide_in : Wide (desk_in (words_of D))
  wide_in = let z = sized_in in record { kinds = z.kinds; next = z.next; held = z.held; places = z.places }

  pub slim_in : legality.Wide (desk_in (words_of D)).plan.figures
  slim_in = let z = sized_in.plan in (z.positions, z.times, z.blocks, z.table)
