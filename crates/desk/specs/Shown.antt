-- What the arrays of a sweep show of a supply p: kinds ks, next blocks xs and held bytes hs of its slots, and a number for each next block.
-- Assumes nothing.
use Rattle.std.specs.Prelude.{ℕ, zero, suc, ◌*◌, ◌≤◌, ◌<◌, ◌≡◌, List, [], ◌∷◌, length, get_or}
use Rattle.numbers.specs.Limits.{max_positions, max_time, max_streams}
use Rattle.numbers.specs.Slots.{filling, playing}
use Rattle.rules.specs.Supply.{Supply}
use Rattle.rules.specs.Arrays.{slots_of}
use Rattle.turns.specs.ArrayLaws.{SameLength}
use Rattle.turns.specs.Facts.{FreeFrom}

-- 256 slots, of which those from n on are free
pub record Slots (p : Supply ℕ) (n : ℕ) (ks xs hs : List ℕ) : Type 0 where
  pub long : length ks ≡ max_streams
  pub same : SameLength p ks xs hs
  pub unused : FreeFrom p n (slots_of p ks xs hs)

-- vs has f of the next block of each filling or playing slot
abbrev pub OfNext : Supply ℕ → (ℕ → ℕ) → List ℕ → List ℕ → List ℕ → Type 0
OfNext p f ks xs vs = (i : ℕ) → i < max_streams → filling ≤ get_or ks i 0 → get_or ks i 0 ≤ playing → get_or vs i 0 ≡ f (get_or xs i p.none)

-- a block takes one visit or two, and n blocks no more than 256
pub record Visits (visits n : ℕ) : Type 0 where
  pub some : 1 ≤ visits
  pub two : visits ≤ 2
  pub slots : n ≤ max_streams
  pub few : visits * n ≤ max_streams

-- the further positions of a block that takes so many visits: for two the second one, q
abbrev pub others_by : ℕ → ℕ → List ℕ
others_by zero q = []
others_by (suc zero) q = []
others_by (suc (suc v)) q = q ∷ []

-- vs has that of the next block of each such slot
abbrev pub OthersOfNext : Supply ℕ → ℕ → List ℕ → List ℕ → List ℕ → Type 0
OthersOfNext p visits ks xs vs =
    (i : ℕ) → i < max_streams → filling ≤ get_or ks i 0 → get_or ks i 0 ≤ playing → p.others (get_or xs i p.none) ≡ others_by visits (get_or vs i 0)

-- what is gathered of the list of positions and the zones for the slots: time, position and second position of the next block of each
pub record Gathered : Type 0 where
  pub times : List ℕ
  pub positions : List ℕ
  pub others : List ℕ

-- they are those of the supply, in which a block takes so many visits
pub record Gathers (p : Supply ℕ) (visits : ℕ) (ks xs : List ℕ) (g : Gathered) : Type 0 where
  pub times : OfNext p p.time ks xs g.times
  pub positions : OfNext p p.position ks xs g.positions
  pub others : OthersOfNext p visits ks xs g.others

-- and all that was gathered is in its range: the time of a block of two visits is that of both
pub record InRange (g : Gathered) : Type 0 where
  pub times : (i : ℕ) → get_or g.times i 0 ≤ 2 * max_time
  pub positions : (i : ℕ) → get_or g.positions i 0 < max_positions
  pub others : (i : ℕ) → get_or g.others i 0 < max_positions
