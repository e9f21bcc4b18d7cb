use Rattle.std.proofs.Common.{◌≡◌, ◌≤◌, take}
use Rattle.words.specs.Words.{words_of}
use Rattle.desk.specs.Asked.{asked_count}
use Rattle.desk_layout.specs.Layout.{desk_in}
use Rattle.desk_columns.proofs.asked_in.Given as goal

-- the first i slots are counted
abbrev pub invariant-loop-i : goal.invariant-loop-i
invariant-loop-i l = record {
  low : l.asked ≤ l.i;
  count : l.asked ≡ asked_count (take l.i (desk_in (words_of l.desk)).kinds);
}
