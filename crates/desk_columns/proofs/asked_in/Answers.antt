use Rattle.std.proofs.Common.{ℕ, ◌+◌, ◌∙◌, sym, ap, ap₂, arith}
use Rattle.std.specs.Prelude.{eqb}
use Rattle.laws.specs.Bools.{bit}
use Rattle.numbers.specs.Slots.{waiting}
use Rattle.words.specs.Words.{words_of}
use Rattle.desk.specs.Asked.{asked_none, asked_turn_law}
use Rattle.desk_layout.specs.Layout.{desk_in}
use Rattle.desk_layout.specs.Sized.{wide_in}
use Rattle.desk_columns.proofs.asked_in.Goals as goal

pub loop-i-init : goal.loop-i-init
loop-i-init c = record { low = omega arith; count = sym (asked_none (desk_in (words_of c.args.desk.now)).kinds) }

pub loop-i-preserved : goal.loop-i-preserved
loop-i-preserved c =
    let l = c.loop-i in
    let D = c.args.desk.now in
    record {
      low = omega (arith, c.asking-asked.ensures.1);
      count = ap₂ (λ (m n : ℕ). m + n) l.invariant.count (c.asking-asked.ensures.0 ∙ ap (λ (x : ℕ). bit (eqb x waiting)) c.kind_in.ensures)
          ∙ asked_turn_law (desk_in (words_of D)).kinds l.i (omega (arith, (wide_in D c.requires.1).kinds));
    }
