use Rattle.std.proofs.Common.{ℕ, ◌≡◌, ◌<◌, length, get_or}
use Rattle.numbers.specs.Limits.{max_films}
use Rattle.words.specs.Words.{words_of}
use Rattle.plan.specs.Plan.{start_in}
use Rattle.desk_layout.specs.Layout.{desk_in}
use Rattle.desk_columns.proofs.film_starts.Given as goal

-- the first i films have their starts, and sum is the next one's
abbrev pub invariant-loop-i : goal.invariant-loop-i
invariant-loop-i l =
    let f = (desk_in (words_of l.desk)).plan.figures in
    record {
      wide : length l.starts ≡ max_films;
      each : (j : ℕ) → j < l.i → get_or l.starts j 0 ≡ start_in f j;
      next : l.sum ≡ start_in f l.i;
    }
