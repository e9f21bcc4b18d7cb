-- What an end judges its draws by: of each slot what filmdisk_draw_limit answers for the bound of the sweep.
use Rattle.std.specs.Prelude.{ℕ, ◌<◌, ◌≡◌, ◌≢◌, List}
use Rattle.numbers.specs.Limits.{max_streams}
use Rattle.numbers.specs.Refusals.{not_sound, wrong_phase, draw_count, draw_above_limit}
use Rattle.rules.specs.Scheduler.{bound}
use Rattle.desk.specs.declared.Desk.{Desk}
use Rattle.desk.specs.Desk.{supply_of, slots_in}
use Rattle.layout.specs.declared.FilmdiskAnswer.{FilmdiskAnswer}
use Rattle.trace.specs.Answers.{draw_at, LowestAbove}

-- D11: the bound of the sweep that a desk is in
abbrev pub sweep_bound : Desk → ℕ
sweep_bound d = bound (supply_of d.plan) (slots_in d)

-- an end with this number got as far as its draws
abbrev pub ReachesDraws : ℕ → Type 0
ReachesDraws k = (k ≢ not_sound) × (k ≢ wrong_phase) × (k ≢ draw_count)

-- R20: it is 20 exactly where some slot's draw is above its limit, and then names the lowest
pub record JudgedBy (limit : ℕ → ℕ) (draws : List ℕ) (a : FilmdiskAnswer) : Type 0 where
  pub above : (i : ℕ) → i < max_streams → limit i < draw_at draws i → a.number ≡ draw_above_limit
  pub lowest : a.number ≡ draw_above_limit → LowestAbove limit (draw_at draws) a.place
