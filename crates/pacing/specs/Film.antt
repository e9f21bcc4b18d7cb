-- A film as the sweeps see it, what paces it, and the leads of its blocks.
-- Assumes nothing.
use Rattle.std.specs.Prelude.{ℕ, zero, suc, ◌+◌, ◌*◌, ◌-◌, ◌≤◌, ◌<◌, ◌≡◌, Bool, true, false, cond, ◌&&◌, List, ltb, eqb}
use Rattle.laws.specs.Greatest.{greatest_of}
use Rattle.numbers.specs.Refusals.{no_such_block}
use Rattle.placement.specs.Showing.{Showing, one, loop, pairs, after}

-- A names what a slot reads next: a block's number in the base, as `shown` says. Fields that only document 02 needs say what they are there
pub record Film (A : Type 0) : Type 0 where
  -- the name in a free slot, and its test: block 0
  pub none : A
  pub is_none : A → Bool
  -- names a block of the film
  pub is_block : A → Bool
  -- the number that refuses a join there, 0 where it is a block: 18 for all others
  pub fault : A → ℕ
  -- past the last block: it is N
  pub is_end : A → Bool
  -- the block after
  pub next : A → A
  -- its number in the film: itself
  pub number : A → ℕ
  -- its position (P1), and further ones: none, of half blocks one (ticket 11)
  pub position : A → ℕ
  pub others : A → List ℕ
  -- time(b) (P2)
  pub time : A → ℕ
  -- the most blocks of a run that starts there: those to the film's end
  pub longest : A → ℕ

-- all that the laws of leads rely on; in the base w is worst2 and m the greatest time(b)
pub record Paced {A : Type 0} (film : Film A) (w m : ℕ) : Type 0 where
  -- after a block comes a block or the end
  pub goes : (a : A) → film.is_block a ≡ true → film.is_end (film.next a) ≡ false → film.is_block (film.next a) ≡ true
  -- two successive blocks take at most w
  pub pairs : (a : A) → film.is_block a ≡ true → film.is_block (film.next a) ≡ true → film.time a + film.time (film.next a) ≤ w
  -- no block takes more than m
  pub slow : (a : A) → film.is_block a ≡ true → film.time a ≤ m
  -- a run may hold at least its first block
  pub runs : (a : A) → film.is_block a ≡ true → 0 < film.longest a

module _ {A : Type 0} (film : Film A) where
  -- a run: k blocks in a row, a the first
  unfoldable pub row : ℕ → A → Bool
  row zero a = true
  row (suc k) a = film.is_block a && row k (film.next a)

  -- the time of k blocks in a row, a the first
  unfoldable pub span : ℕ → A → ℕ
  span zero a = 0
  span (suc k) a = film.time a + span k (film.next a)

  -- the sum of 2 × time − w over the run of j blocks from a on. A run that is none, and a sum below 0, count as the empty run's 0
  abbrev pub run_sum : ℕ → A → ℕ → ℕ
  run_sum w a j = cond (row j a) (2 * span j a - j * w) 0

  -- lead(b) in half microseconds (P6), w being worst2
  unfoldable pub lead : ℕ → A → ℕ
  lead w a = greatest_of (run_sum w a) (suc (film.longest a))

-- ---- the showings

-- past the last block: a loop has no end (T7.8)
abbrev pub is_past : Showing → ℕ → ℕ → Bool
is_past one N b = eqb b N
is_past loop N b = false
is_past pairs N b = eqb b N

-- the most blocks of a run that starts at b: to the film's end, or once round (T7.6)
abbrev pub longest_run : Showing → ℕ → ℕ → ℕ
longest_run one N b = N - b
longest_run loop N b = N
longest_run pairs N b = N - b

-- a film of N blocks in the order of their numbers, in every showing
abbrev pub shown : Showing → ℕ → (ℕ → ℕ) → (ℕ → ℕ) → (ℕ → List ℕ) → Film ℕ
shown x N time position others = record {
  none = 0;
  is_none = λ b. eqb b 0;
  is_block = λ b. ltb b N;
  fault = λ b. cond (ltb b N) 0 no_such_block;
  is_end = is_past x N;
  next = after x N;
  number = λ b. b;
  position = position;
  others = others;
  time = time;
  longest = longest_run x N;
}
