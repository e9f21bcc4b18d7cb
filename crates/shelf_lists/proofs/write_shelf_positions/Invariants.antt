use Rattle.std.proofs.Common.{◌≡◌, ◌*◌}
use Rattle.laws.specs.Starts.{start_of}
use Rattle.words.specs.Words.{with_words}
use Rattle.plan.specs.Plan.{showing_of}
use Rattle.plan.specs.Disk.{shelf_positions}
use Rattle.plan.specs.FilmWalk.{AtFilm}
use Rattle.shelf_lists.proofs.Laws.{visits_at}
use Rattle.shelf_lists.proofs.write_shelf_positions.Given as goal

abbrev pub invariant-loop-i : goal.invariant-loop-i
invariant-loop-i l = record {
  here : AtFilm (showing_of l.fn.showing) l.fn.total l.fn.blocks l.fn.films l.fn.films l.visits l.free l.i;
  byte : l.at ≡ 4 * start_of (visits_at (showing_of l.fn.showing) l.fn.blocks) l.i;
  is : l.positions ≡ with_words l.fn.positions 0 (shelf_positions (showing_of l.fn.showing) l.fn.total l.fn.blocks l.i);
}
