-- Half blocks on paired tracks (document 02, ticket 11): what the plan of them is, in the ticket's words, and that no matching is better; of each
-- film of a shelf (ticket 14) on the positions that are free for it.
-- Assumes nothing.
use Rattle.std.specs.Prelude.{ℕ, suc, ◌+◌, ◌*◌, ◌-◌, ◌≤◌, ◌<◌, ◌≡◌, ◌≢◌, get_or}
use Rattle.laws.specs.Greatest.{greatest_of}
use Rattle.numbers.specs.Limits.{max_pair_streams}
use Rattle.numbers.specs.Units.{micros}
use Rattle.card.specs.declared.Figures.{Figures}
use Rattle.card.specs.Card.{length_in}
use Rattle.placement.specs.Placement.{Laying}
use Rattle.placement.specs.Pairs.{worst_match}
use Rattle.placement.specs.Showing.{pairs}
use Rattle.plan.specs.Plan.{start_in, time_on, free_in, position_in, time_in, worst2_of, worst_at_of, streams_of, margin_of, lead_in, buffer_size}

module _ (f : Figures) where
  -- the greatest pair time of a matching of film i: halves 2b and 2b + 1 are block b's
  abbrev pub matched_time : ℕ → (ℕ → ℕ) → ℕ
  matched_time i l = worst_match (time_on f) l (length_in f i)

  -- that of the plan
  abbrev pub plan_time_in : ℕ → ℕ
  plan_time_in i = matched_time i (position_in pairs f i)

  -- p, the greatest of all films'
  abbrev pub plan_time : ℕ
  plan_time = greatest_of plan_time_in f.films

  -- what the formula of streams compares with 1,000,000 × B: c × (n × p + the overhead for 2 × n visits)
  abbrev pub halves_load : ℕ → ℕ → ℕ
  halves_load p n = f.rate * (n * p + get_or f.table (2 * n) 0)

  -- a matching of film i is no better than the plan's: its greatest time is not smaller, and with it, the other films' as they are, no more streams are fed
  pub record NoBetter (i : ℕ) (l : ℕ → ℕ) : Type 0 where
    pub time : plan_time_in i ≤ matched_time i l
    pub streams : (p n : ℕ) → matched_time i l ≤ p → ((j : ℕ) → j < f.films → j ≢ i → plan_time_in j ≤ p)
        → streams_of pairs f < n → n ≤ max_pair_streams → micros * f.bytes < halves_load p n

  -- the plan of half blocks
  pub record HalvesPlan : Type 0 where
    -- of each film the 2 × N highest of the free positions, no two alike, and of each block the lower first
    pub matching : (i : ℕ) → i < f.films → Laying (free_in pairs f i) (2 * length_in f i) (position_in pairs f i)
    pub highest : (i v : ℕ) → i < f.films → v < 2 * length_in f i → free_in pairs f i - 2 * length_in f i ≤ position_in pairs f i v
    pub lower_first : (i b : ℕ) → i < f.films → b < length_in f i → position_in pairs f i (2 * b) < position_in pairs f i (suc (2 * b))
    -- a block's time is its pair's
    pub time : (i b : ℕ) → time_in pairs f i b ≡ time_on f (position_in pairs f i (2 * b)) + time_on f (position_in pairs f i (suc (2 * b)))
    pub streams : 0 < streams_of pairs f → (streams_of pairs f ≤ max_pair_streams) × (halves_load plan_time (streams_of pairs f) ≤ micros * f.bytes)
    pub buffer : buffer_size pairs f ≡ 3 * f.bytes
    pub leads : (i b : ℕ) → i < f.films → b < length_in f i → lead_in pairs f i b ≡ 0
    pub margin : margin_of pairs f ≡ 0
    pub worst2 : worst2_of pairs f ≡ 2 * plan_time
    -- the first block taking p, counted through the films
    pub worstat : (i : ℕ) × (b : ℕ) × (i < f.films) × (b < length_in f i) × (worst_at_of pairs f ≡ start_in f i + b) × (time_in pairs f i b ≡ plan_time)
    pub before : (i b : ℕ) → i < f.films → b < length_in f i → start_in f i + b < worst_at_of pairs f → time_in pairs f i b < plan_time
