use Rattle.std.proofs.Common.{◌≡◌}
use Rattle.words.specs.Words.{words_of}
use Rattle.desk_layout.specs.Layout.{desk_in}
use Rattle.soundness.specs.Facts.{RestZero}
use Rattle.soundness.proofs.slots.rest_zero.Given as goal

-- no bit is set in the slots so far where they are zero, and only there
abbrev pub invariant-loop-i : goal.invariant-loop-i
invariant-loop-i l = let Zero = RestZero (desk_in (words_of l.desk)) l.streams l.i in record {
  zero : l.bits ≡ 0 → Zero;
  unset : Zero → l.bits ≡ 0;
}
