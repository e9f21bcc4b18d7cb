use Rattle.std.proofs.Common.{ℕ, ◌+◌, ◌∙◌, ◌≡◌, sym, ap, arith, add-one, length-set, get_or-set_same, get_or-set_other}
use borrow.Author.Count.{below_more}
use Rattle.laws.specs.Starts.{start_none, start_next, start_rises}
use Rattle.words.specs.Words.{words_of}
use Rattle.card.specs.declared.Figures.{Figures}
use Rattle.card.specs.Card.{length_in}
use Rattle.plan.specs.Plan.{start_in}
use Rattle.desk_layout.specs.Layout.{desk_in}
use Rattle.desk_columns.proofs.film_starts.Goals as goal

pub loop-i-init : goal.loop-i-init
loop-i-init c =
    let f = (desk_in (words_of c.args.desk.now)).plan.figures in
    record {
      wide = omega arith;
      each = λ j h. absurd (omega arith);
      next = sym (start_none (length_in f));
    }

next_start : (f : Figures) (i : ℕ) → start_in f (i + 1) ≡ start_in f i + length_in f i
next_start f i = ap (start_in f) (add-one i) ∙ start_next (length_in f) i

-- the blocks up to the next film are at most all
pub overflow_add-sum : goal.overflow_add-sum
overflow_add-sum c =
    let l = c.loop-i in
    let f = (desk_in (words_of c.args.desk.now)).plan.figures in
    omega (arith, next_start f l.i, start_rises (length_in f) (l.i + 1) f.films (omega arith))

pub loop-i-preserved : goal.loop-i-preserved
loop-i-preserved c =
    let l = c.loop-i in
    let f = (desk_in (words_of c.args.desk.now)).plan.figures in
    record {
      wide = length-set l.starts l.i l.sum ∙ l.invariant.wide;
      each = below_more _ l.i
          (λ j u. get_or-set_other l.starts l.i j l.sum 0 (λ q. omega arith) ∙ l.invariant.each j u)
          (get_or-set_same l.starts l.i l.sum 0 (omega arith) ∙ l.invariant.next);
      next = omega (arith, next_start f l.i);
    }
