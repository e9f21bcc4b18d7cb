-- What the scheduler is told of the film, and all that it relies on: the planner's promise.
-- A is what a slot names: in the base a block's number, N past the last one, 0 in a free slot. Fields that only document 02 needs
-- say what they are in the base; `supplied` of crate `desk` makes it so.
-- Assumes nothing.
use Rattle.std.specs.Prelude.{ℕ, ◌+◌, ◌*◌, ◌≤◌, ◌<◌, ◌≡◌, ◌≢◌, Bool, true, false, cond, List}
use Rattle.numbers.specs.Units.{parts, whole_bytes}
use Rattle.numbers.specs.Refusals.{not_sound}

pub record Supply (A : Type 0) : Type 0 where
  -- the name that stands in a free slot, and its test: 0
  pub none : A
  pub is_none : A → Bool
  -- it names a block: it is below N
  pub is_block : A → Bool
  -- the number that refuses a join there, 0 where none does: 18 from N on
  pub fault : A → ℕ
  -- it stands past the last block: it is N
  pub is_end : A → Bool
  -- the name after it: one more
  pub next : A → A
  -- its block in a fetch entry: itself
  pub number : A → ℕ
  -- its position (P1), and those of further visits that it takes: none
  pub position : A → ℕ
  pub others : A → List ℕ
  -- time(b) (P2)
  pub time : A → ℕ
  -- lead(b), in half microseconds (P6)
  pub lead : A → ℕ
  -- what a sweep of k blocks takes beside their times (D11)
  pub overhead : ℕ → ℕ
  -- how many entries a block gives: 1
  pub visits : ℕ
  -- B, c and streams (P4)
  pub B : ℕ
  pub c : ℕ
  pub n : ℕ
  -- worst2 (P3), margin (P5) and buffer (P7)
  pub pair_time : ℕ
  pub margin : ℕ
  pub buffer : ℕ

-- the planner's promise: safety relies on nothing else
pub record Lawful {A : Type 0} (p : Supply A) : Type 0 where
  pub some_bytes : 0 < p.B
  -- a sweep of more blocks has no less overhead
  pub overhead_rises : (j k : ℕ) → j ≤ k → p.overhead j ≤ p.overhead k
  -- the formula of streams (P4)
  pub streams_fit : p.c * (p.n * p.pair_time + 2 * p.overhead p.n) ≤ parts * p.B
  -- that of the buffer (P7)
  pub buffer_holds : 3 * p.B + whole_bytes (p.c * p.n * p.margin) ≤ p.buffer
  -- after a block comes a block or the end
  pub next_block : (a : A) → p.is_block a ≡ true → p.is_end (p.next a) ≡ false → p.is_block (p.next a) ≡ true
  -- a lead covers what reading its block takes beyond half of worst2, and the lead after it (P6)
  pub lead_covers : (a : A) → p.is_block a ≡ true
      → 2 * p.time a + cond (p.is_end (p.next a)) 0 (p.lead (p.next a)) ≤ p.lead a + p.pair_time
  pub lead_top : (a : A) → p.is_block a ≡ true → p.lead a ≤ p.margin

-- the tests of names say what they should; soundness and refusals rely on it
pub record Named {A : Type 0} (p : Supply A) : Type 0 where
  pub none_passes : p.is_none p.none ≡ true
  pub none_only : (a : A) → p.is_none a ≡ true → a ≡ p.none
  pub faultless : (a : A) → p.fault a ≡ 0 → p.is_block a ≡ true
  -- a join's fault is not taken for an unsound record
  pub fault_own : (a : A) → p.fault a ≢ not_sound
