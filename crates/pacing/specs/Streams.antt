-- Streams (P4) and buffer (P7), over any overhead of a sweep.
-- Assumes nothing.
use Rattle.std.specs.Prelude.{ℕ, zero, suc, ◌+◌, ◌*◌, ◌-◌, ◌/◌, ◌≤◌, ◌<◌, min, ◌≡◌, Bool, List, get_or, leb}
use Rattle.std.proofs.Math.Path.{refl}
use Rattle.std.proofs.Common.{sym, ap, ◌∙◌, mul-le-mul_right, le_refl, le-div_iff_mul-le, div-lt_iff_lt-mul, arith}
use Rattle.std.proofs.Math.Nat.{mul-le-mul_left}
use Rattle.std.proofs.Math.Decide.{dec_lt}
use borrow.Author.Tests.{leb-true, leb-false, le-leb, lt-leb}
use Rattle.laws.specs.Greatest.{greatest, greatest_le, greatest_above, greatest_fits, greatest_hit, greatest_down}
use Rattle.numbers.specs.Units.{parts, whole_bytes}
use Rattle.numbers.specs.Limits.{max_streams, max_pair_streams, table_length}
use Rattle.placement.specs.Showing.{Showing, one, loop, pairs, visits_of}

-- what a sweep of k visits takes beside their times (D11, T3.5): the table's entry. No sweep has more than 256; past them it stays at the last
-- entry. All else knows only that it never falls
unfoldable pub overhead : List ℕ → ℕ → ℕ
overhead table k = get_or table (min k max_streams) 0

pub overhead_entry : (table : List ℕ) (k : ℕ) → k ≤ max_streams → overhead table k ≡ get_or table k 0
unfolding overhead
overhead_entry table k h = let e : min k max_streams ≡ k = omega arith in ap (λ (i : ℕ). get_or table i 0) e

-- where no entry is below the one before, it never falls
pub overhead_rises : (table : List ℕ) → ((j k : ℕ) → j ≤ k → k < table_length → get_or table j 0 ≤ get_or table k 0)
    → (j k : ℕ) → j ≤ k → overhead table j ≤ overhead table k
unfolding overhead
overhead_rises table rises j k h = rises (min j max_streams) (min k max_streams) (omega arith) (omega arith)

-- the longest that two successive sweeps of n blocks take, w being worst2 and over the overhead
abbrev pub two_sweeps : ℕ → (ℕ → ℕ) → ℕ → ℕ
two_sweeps w over n = n * w + 2 * over n

-- the left side of the formula of streams (P4)
unfoldable pub load : ℕ → ℕ → (ℕ → ℕ) → ℕ → ℕ
load c w over n = c * two_sweeps w over n

-- n meets the formula of streams
abbrev pub fits : ℕ → ℕ → (ℕ → ℕ) → ℕ → ℕ → Bool
fits c w over B n = leb (load c w over n) (parts * B)

-- streams (P4): the greatest number from 1 to cap that meets the formula, 0 where none does
unfoldable pub streams : ℕ → ℕ → ℕ → (ℕ → ℕ) → ℕ → ℕ
streams cap c w over B = greatest (fits c w over B) cap

-- the most streams of a showing: 256, of half blocks 128 (ticket 11)
abbrev pub cap_of : Showing → ℕ
cap_of one = max_streams
cap_of loop = max_streams
cap_of pairs = max_pair_streams

-- that is as many as have 256 visits
pub cap_is : (x : Showing) → max_streams / visits_of x ≡ cap_of x
cap_is one = refl
cap_is loop = refl
cap_is pairs = refl

pub cap_some : (x : Showing) → 1 ≤ cap_of x
cap_some one = omega arith
cap_some loop = omega arith
cap_some pairs = omega arith

-- the visits of no sweep are above 256
pub cap_visits : (x : Showing) (n : ℕ) → n ≤ cap_of x → (visits_of x * n ≤ max_streams) × (n ≤ max_streams)
cap_visits one n h = omega arith
cap_visits loop n h = omega arith
cap_visits pairs n h = omega arith

-- buffer (P7), in bytes
unfoldable pub buffer_of : ℕ → ℕ → ℕ → ℕ → ℕ
buffer_of c n margin B = 3 * B + whole_bytes (c * n * margin)

-- ---- what streams is

module _ (cap c w : ℕ) (over : ℕ → ℕ) (B : ℕ) where
  pub streams_le : streams cap c w over B ≤ cap
  unfolding streams
  streams_le = greatest_le (fits c w over B) cap

  -- it meets the formula
  pub streams_fits : 0 < streams cap c w over B → load c w over (streams cap c w over B) ≤ parts * B
  unfolding streams
  streams_fits h = leb-true (load c w over (streams cap c w over B)) (parts * B) (greatest_fits (fits c w over B) cap h)

  -- no number above it does, even with a greater worst time
  pub streams_best : (w' n : ℕ) → w ≤ w' → streams cap c w over B < n → n ≤ cap → parts * B < load c w' over n
  unfolding streams load
  streams_best w' n l m u =
      omega (arith, leb-false (load c w over n) (parts * B) (greatest_above (fits c w over B) cap n m u), mul-le-mul_left c (mul-le-mul_left n l))

  -- and no other number has both
  pub streams_only : (n : ℕ) → 0 < n → n ≤ cap → load c w over n ≤ parts * B
      → ((k : ℕ) → n < k → k ≤ cap → parts * B < load c w over k) → n ≡ streams cap c w over B
  streams_only n p u l above = go (dec_lt (streams cap c w over B) n) (dec_lt n (streams cap c w over B))
    where
      go : Dec (streams cap c w over B < n) → Dec (n < streams cap c w over B) → n ≡ streams cap c w over B
      go (yes d) e = absurd (omega (arith, streams_best w n (le_refl w) d u))
      go (no d) (yes e) = absurd (omega (arith, streams_fits (omega arith), above (streams cap c w over B) e streams_le))
      go (no d) (no e) = omega arith

-- the load never falls as the number of streams rises
pub load_rises : (c w : ℕ) (over : ℕ → ℕ) → ((j k : ℕ) → j ≤ k → over j ≤ over k) → (j k : ℕ) → j ≤ k → load c w over j ≤ load c w over k
unfolding load
load_rises c w over rises j k h = omega (arith, mul-le-mul_left c (mul-le-mul_right w h), mul-le-mul_left c (rises j k h))

-- where one stream does not fit, no number does (P11)
pub streams_none : (cap c w : ℕ) (over : ℕ → ℕ) (B : ℕ) → ((j k : ℕ) → j ≤ k → over j ≤ over k) → parts * B < load c w over 1 → streams cap c w over B ≡ 0
streams_none cap c w over B rises h = go (dec_lt 0 (streams cap c w over B))
  where
    go : Dec (0 < streams cap c w over B) → streams cap c w over B ≡ 0
    go (yes d) = absurd (omega (arith, streams_fits cap c w over B d, load_rises c w over rises 1 (streams cap c w over B) d))
    go (no d) = omega arith

-- ---- a loop that tries stream counts downward, in its own words

-- streams, where every number above n has failed
unfoldable pub tried : ℕ → ℕ → (ℕ → ℕ) → ℕ → ℕ → ℕ
tried c w over B n = greatest (fits c w over B) n

module _ (c w : ℕ) (over : ℕ → ℕ) (B : ℕ) where
  -- the start
  pub tried_all : (cap : ℕ) → tried c w over B cap ≡ streams cap c w over B
  unfolding tried streams
  tried_all cap = refl

  -- the first that fits
  pub tried_hit : (n : ℕ) → 0 < n → load c w over n ≤ parts * B → tried c w over B n ≡ n
  unfolding tried
  tried_hit n p l = greatest_hit (fits c w over B) n p (le-leb (load c w over n) (parts * B) l)

  -- one turn
  pub tried_down : (n : ℕ) → 0 < n → parts * B < load c w over n → tried c w over B n ≡ tried c w over B (n - 1)
  unfolding tried
  tried_down n p l = greatest_down (fits c w over B) n p (lt-leb (load c w over n) (parts * B) l)

  -- both tests by the time that c leaves, for a loop that forms no product with c
  pub time_fits : (n : ℕ) → 0 < c → two_sweeps w over n ≤ parts * B / c → load c w over n ≤ parts * B
  unfolding load
  time_fits n p l = omega (arith, (le-div_iff_mul-le {k = c} {x = two_sweeps w over n} {y = parts * B} p).0 l)

  pub time_passes : (n : ℕ) → 0 < c → parts * B / c < two_sweeps w over n → parts * B < load c w over n
  unfolding load
  time_passes n p l = omega (arith, (div-lt_iff_lt-mul {k = c} {x = parts * B} {y = two_sweeps w over n} p).0 l)

  -- the start from a lower number, where each above it takes too long
  pub tried_from : (cap n : ℕ) → n ≤ cap → ((k : ℕ) → n < k → k ≤ cap → parts * B < load c w over k) → tried c w over B n ≡ streams cap c w over B
  tried_from cap n u h = go (cap - n) n (omega arith) h
    where
      go : (d m : ℕ) → m + d ≡ cap → ((k : ℕ) → m < k → k ≤ cap → parts * B < load c w over k) → tried c w over B m ≡ streams cap c w over B
      go zero m e g = let q : m ≡ cap = omega arith in ap (tried c w over B) q ∙ tried_all cap
      go (suc d) m e g =
          let q : suc m - 1 ≡ m = omega arith in
          sym (tried_down (suc m) (omega arith) (g (suc m) (omega arith) (omega arith)) ∙ ap (tried c w over B) q)
          ∙ go d (suc m) (omega arith) (λ k i u. g k (omega arith) u)

  -- no number is left
  pub tried_none : (n : ℕ) → n ≡ 0 → tried c w over B n ≡ 0
  unfolding tried greatest
  tried_none n e = rw e

-- ---- the size of the buffer

module _ (c w : ℕ) (over : ℕ → ℕ) (B n margin : ℕ) where
  -- the margins of n streams cost at most a block, in two-millionths of a byte
  pub margin_cost : margin ≤ w → load c w over n ≤ parts * B → c * n * margin ≤ parts * B
  unfolding load
  margin_cost h l = omega (arith, mul-le-mul_left (c * n) h)

  -- so the buffer is at most four blocks
  pub buffer_bound : margin ≤ w → load c w over n ≤ parts * B → buffer_of c n margin B ≤ 4 * B
  unfolding buffer_of
  buffer_bound h l = omega (arith, margin_cost h l)
