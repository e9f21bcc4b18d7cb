use Rattle.std.specs.Prelude.{◌≡◌}
use Rattle.laws.specs.Starts.{start_of}
use Rattle.laws.specs.Through.{Found}
use Rattle.plan.specs.Plan.{showing_of}
use Rattle.plan.specs.Disk.{length_at, walked_worst, walked_at}
use Rattle.plan.specs.FilmWalk.{AtFilm}
use Rattle.plan_numbers.proofs.worst_of_films.Given as goal

-- before the film of so many turns
abbrev pub invariant-loop-film : goal.invariant-loop-film
invariant-loop-film l = record {
  film : AtFilm (showing_of l.fn.showing) l.fn.total l.fn.blocks l.fn.films l.fn.films l.visits l.free l.film-index;
  begins : l.start ≡ start_of (length_at l.fn.blocks) l.film-index;
  found : Found (walked_worst l.fn.sizes l.fn.times (showing_of l.fn.showing) l.fn.total l.fn.blocks)
      (walked_at l.fn.sizes l.fn.times (showing_of l.fn.showing) l.fn.total l.fn.blocks) l.film-index l.worst.time l.worst.first;
}
