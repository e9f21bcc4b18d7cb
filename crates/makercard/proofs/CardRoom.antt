-- A written card lies in its buffer.
-- Assumes nothing.
use Prim.Native.Nat.{ℕ, zero, suc, ◌≤◌}
use mathlib.Core.Path.{◌≡◌, refl}
use mathlib.Core.List.{List}
use mathlib.Core.Bool.{Bool, true, false, cond}
use native.Mathlib.Omega.{arith}
use lib.ListN.{length}
use lib.Dec.{leb}
use borrow.Author.Tests.{leb-true}
use Rattle.numbers.specs.Refusals.{too_short}
use Rattle.card.specs.declared.Figures.{Figures}
use Rattle.card_field.specs.RangeLaws.{first_none}
use Rattle.card.specs.Card.{record_fault, card_of, write_fault, written_by, written_card}

pub written_short : (f : Figures) (out : List ℕ) → (written_card f out).length ≤ length out
unfolding written_card write_fault
written_short f out = go (write_fault f (length out)) refl
  where
    fits : (t : Bool) → leb (length (card_of f)) (length out) ≡ t → cond t 0 too_short ≡ 0 → length (card_of f) ≤ length out
    fits true q e = leb-true (length (card_of f)) (length out) q
    fits false q e = absurd (omega arith)

    go : (k : ℕ) → write_fault f (length out) ≡ k → (written_by k f).length ≤ length out
    go zero e = fits (leb (length (card_of f)) (length out)) refl (first_none (record_fault 1 f) _ e).1
    go (suc k) e = omega arith
