-- What rounding up yields, and that the numbers of a zone stay within 64 bits.
-- Assumes nothing.
use Rattle.std.specs.Prelude.{ℕ, suc, ◌+◌, ◌-◌, ◌*◌, ◌/◌, ◌%◌, ◌≤◌, ◌<◌, ◌≡◌}
use Rattle.std.proofs.Common.{arith, mul-le-mul, mul-le-mul_left, mul-le-mul_right, mul-pos, div-add-mod', mod-lt}
use Rattle.std.proofs.Math.Decide.{dec_le}
use Rattle.numbers.specs.Limits.{max_number, max_turns, max_switch, max_heads, max_block, max_cylinder, max_track}
use Rattle.numbers.specs.Units.{minute}
use Rattle.tracks.specs.Tracks.{rounded_up, narrowed}

-- a quotient, rounded up, is the least whose product reaches a
pub rounded_up_law : (a b : ℕ) → 0 < b → (a ≤ rounded_up a b * b) × (rounded_up a b * b < a + b)
unfolding rounded_up
rounded_up_law a b p = omega (arith, div-add-mod' (a + (b - 1)) b, mod-lt (a + (b - 1)) p)

-- and no greater than a
pub rounded_le : (a b : ℕ) → 0 < b → rounded_up a b ≤ a
rounded_le a b p = elim (dec_le (rounded_up a b) a) [
  | yes h ↦ h
  | no h ↦
      let more : suc a ≤ rounded_up a b = omega arith in
      let least : 1 ≤ b = p in
      absurd (omega (arith, (rounded_up_law a b p).1, mul-le-mul_right b more, mul-le-mul_left a least))
]

pub narrowed_small : (v : ℕ) → v ≤ max_number → narrowed v ≡ v
unfolding narrowed
narrowed_small v h = omega arith

pub narrowed_great : (v : ℕ) → max_number ≤ v → narrowed v ≡ max_number
unfolding narrowed
narrowed_great v h = omega arith

-- what the numbers of a zone's time stay within
pub record TimeFits (turns switch block track : ℕ) : Type 0 where
  pub turned : (0 < turns * track) × (turns * track ≤ max_turns * max_track)
  pub sectors : block * minute ≤ max_block * minute
  pub few : rounded_up (block - 1) track ≤ max_block
  pub reading : rounded_up (block * minute) (turns * track) ≤ max_block * minute
  pub switching : switch * rounded_up (block - 1) track ≤ max_switch * max_block

pub time_fits : (turns switch block track : ℕ) → 0 < turns → turns ≤ max_turns → switch ≤ max_switch → block ≤ max_block → 0 < track → track ≤ max_track
    → TimeFits turns switch block track
time_fits turns switch block track a b c d e f =
    let turned : 0 < turns * track = mul-pos a e in
    let sectors : block * minute ≤ max_block * minute = mul-le-mul_right minute d in
    let few : rounded_up (block - 1) track ≤ max_block = omega (arith, rounded_le (block - 1) track e) in
    record {
      turned = (turned, mul-le-mul b f);
      sectors = sectors;
      few = few;
      reading = omega (arith, rounded_le (block * minute) (turns * track) turned);
      switching = mul-le-mul c few;
    }

-- the tracks of a zone
pub tracks_fit : (heads cylinders : ℕ) → heads ≤ max_heads → cylinders ≤ max_cylinder + 1 → heads * cylinders ≤ max_heads * (max_cylinder + 1)
tracks_fit heads cylinders a b = mul-le-mul a b
