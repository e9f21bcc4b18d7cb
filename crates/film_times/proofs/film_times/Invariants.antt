use Rattle.std.specs.Prelude.{◌≡◌, ℕ, ◌-◌, ◌≤◌, length, map, take}
use Rattle.laws.specs.Each.{Each}
use Rattle.laws.specs.Members.{upto}
use Rattle.numbers.specs.Limits.{max_time, max_tried}
use Rattle.card.specs.Card.{total_positions, length_in}
use Rattle.plan.specs.Plan.{time_on}
use Rattle.film_times.proofs.film_times.Given as goal

-- the times of the first i positions
abbrev pub invariant-loop-i : goal.invariant-loop-i
invariant-loop-i l = record {
  long : length l.times ≡ max_tried;
  small : Each (λ (t : ℕ). t ≤ max_time) l.times;
  taken : take l.i l.times ≡ map (time_on l.fn.figures) (upto (total_positions l.fn.figures - length_in l.fn.figures 0) l.i);
}
