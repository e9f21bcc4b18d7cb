use Rattle.std.proofs.Common.{◌≡◌, ◌*◌}
use Rattle.laws.specs.Starts.{start_of}
use Rattle.words.specs.Words.{with_words}
use Rattle.plan.specs.Plan.{showing_of}
use Rattle.plan.specs.Disk.{length_at, shelf_leads}
use Rattle.plan.specs.FilmWalk.{AtFilm}
use Rattle.shelf_lists.proofs.write_shelf_leads.Given as goal

abbrev pub invariant-loop-i : goal.invariant-loop-i
invariant-loop-i l = record {
  here : AtFilm (showing_of l.fn.showing) l.fn.total l.fn.blocks l.fn.films l.fn.films l.visits l.free l.i;
  byte : l.at ≡ 4 * start_of (length_at l.fn.blocks) l.i;
  is : l.leads ≡ with_words l.fn.leads 0 (shelf_leads l.fn.sizes l.fn.times (showing_of l.fn.showing) l.fn.total l.fn.blocks l.fn.worst2 l.i);
}
