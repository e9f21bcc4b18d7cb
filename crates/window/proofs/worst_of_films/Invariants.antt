use Rattle.std.specs.Prelude.{◌≡◌}
use Rattle.laws.specs.Starts.{start_of}
use Rattle.laws.specs.Through.{Found}
use Rattle.placement.specs.Zones.{time_at}
use Rattle.plan.specs.Plan.{showing_of}
use Rattle.plan.specs.Disk.{length_at}
use Rattle.plan.specs.FilmWalk.{AtFilm}
use Rattle.window.specs.Window.{film_window, film_window_at}
use Rattle.window.proofs.worst_of_films.Given as goal

-- before the film of so many turns
abbrev pub invariant-loop-film : goal.invariant-loop-film
invariant-loop-film l = record {
  film : AtFilm (showing_of l.fn.showing) l.fn.total l.fn.blocks l.fn.films l.fn.films l.visits l.free l.film-index;
  begins : l.start ≡ start_of (length_at l.fn.blocks) l.film-index;
  found : Found (film_window (showing_of l.fn.showing) (time_at l.fn.sizes l.fn.times) l.fn.total (length_at l.fn.blocks) l.fn.count)
      (film_window_at (showing_of l.fn.showing) (time_at l.fn.sizes l.fn.times) l.fn.total (length_at l.fn.blocks) l.fn.count)
      l.film-index l.worst.time l.worst.first;
}
