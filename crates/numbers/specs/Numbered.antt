-- The number of each refusal, and of an answer that is a refusal or not.
-- Assumes nothing.
use Rattle.std.specs.Prelude.{ℕ, ◌≡◌, ◌<◌, Result, Ok, Err, IsErrAnd}
use Rattle.std.proofs.Common.{sym, ap, ◌∙◌, arith}
use Rattle.numbers.specs.Refusals.{card_ends, number_form, wrong_kind, wrong_zones, wrong_positions, wrong_time, rising_time, wrong_blocks}
use Rattle.numbers.specs.Refusals.{blocks_above_positions, wrong_measure, card_goes_on, no_stream, too_short, not_sound, wrong_phase, no_such_slot}
use Rattle.numbers.specs.Refusals.{slot_state, no_such_block, draw_count, draw_above_limit, draw_above_held, line_form, wrong_heading, wrong_row}
use Rattle.numbers.specs.Refusals.{wrong_overhead, half_dead_time, wrong_window, halves_above_positions, film_too_long, wrong_films, no_such_film}
use Rattle.numbers.specs.declared.refusals.Refusal.{Refusal}
use Rattle.numbers.specs.declared.refusals.Refusal.TheVariants.{CardEnds, NumberForm, WrongKind, WrongZones, WrongPositions, WrongTime, RisingTime}
use Rattle.numbers.specs.declared.refusals.Refusal.TheVariants.{WrongBlocks, BlocksAbovePositions, WrongMeasure, CardGoesOn, NoStream, TooShort}
use Rattle.numbers.specs.declared.refusals.Refusal.TheVariants.{NotSound, WrongPhase, NoSuchSlot, SlotState, NoSuchBlock, DrawCount, DrawAboveLimit}
use Rattle.numbers.specs.declared.refusals.Refusal.TheVariants.{DrawAboveHeld, LineForm, WrongHeading, WrongRow, WrongOverhead, HalfDeadTime}
use Rattle.numbers.specs.declared.refusals.Refusal.TheVariants.{WrongWindow, HalvesAbovePositions, FilmTooLong, WrongFilms, NoSuchFilm}

abbrev pub number_of : Refusal → ℕ
number_of CardEnds = card_ends
number_of NumberForm = number_form
number_of WrongKind = wrong_kind
number_of WrongZones = wrong_zones
number_of WrongPositions = wrong_positions
number_of WrongTime = wrong_time
number_of RisingTime = rising_time
number_of WrongBlocks = wrong_blocks
number_of BlocksAbovePositions = blocks_above_positions
number_of WrongMeasure = wrong_measure
number_of CardGoesOn = card_goes_on
number_of NoStream = no_stream
number_of TooShort = too_short
number_of NotSound = not_sound
number_of WrongPhase = wrong_phase
number_of NoSuchSlot = no_such_slot
number_of SlotState = slot_state
number_of NoSuchBlock = no_such_block
number_of DrawCount = draw_count
number_of DrawAboveLimit = draw_above_limit
number_of DrawAboveHeld = draw_above_held
number_of LineForm = line_form
number_of WrongHeading = wrong_heading
number_of WrongRow = wrong_row
number_of WrongOverhead = wrong_overhead
number_of HalfDeadTime = half_dead_time
number_of WrongWindow = wrong_window
number_of HalvesAbovePositions = halves_above_positions
number_of FilmTooLong = film_too_long
number_of WrongFilms = wrong_films
number_of NoSuchFilm = no_such_film

-- no refusal's number is 0
number_above : (r : Refusal) → 0 < number_of r
number_above CardEnds = omega arith
number_above NumberForm = omega arith
number_above WrongKind = omega arith
number_above WrongZones = omega arith
number_above WrongPositions = omega arith
number_above WrongTime = omega arith
number_above RisingTime = omega arith
number_above WrongBlocks = omega arith
number_above BlocksAbovePositions = omega arith
number_above WrongMeasure = omega arith
number_above CardGoesOn = omega arith
number_above NoStream = omega arith
number_above TooShort = omega arith
number_above NotSound = omega arith
number_above WrongPhase = omega arith
number_above NoSuchSlot = omega arith
number_above SlotState = omega arith
number_above NoSuchBlock = omega arith
number_above DrawCount = omega arith
number_above DrawAboveLimit = omega arith
number_above DrawAboveHeld = omega arith
number_above LineForm = omega arith
number_above WrongHeading = omega arith
number_above WrongRow = omega arith
number_above WrongOverhead = omega arith
number_above HalfDeadTime = omega arith
number_above WrongWindow = omega arith
number_above HalvesAbovePositions = omega arith
number_above FilmTooLong = omega arith
number_above WrongFilms = omega arith
number_above NoSuchFilm = omega arith

pub number_some : (r : Refusal) → number_of r ≡ 0 → ⊥
number_some r e = absurd (omega (arith, number_above r))

-- ---- the refusal's number of an answer, 0 where it is accepted

abbrev pub fault_in : {A : Type 0} → Result A Refusal → ℕ
fault_in (Ok x) = 0
fault_in (Err r) = number_of r

-- a refusal's number is not 0
pub refused_some : (r : Refusal) {x : ℕ} → number_of r ≡ x → x ≡ 0 → ⊥
refused_some r e z = number_some r (e ∙ z)

module _ {A : Type 0} {x : ℕ} {R : Result A Refusal} where
  -- of a refused answer it is the refusal's
  pub refused_is : {r : Refusal} → R ≡ Err r → fault_in R ≡ x → number_of r ≡ x
  refused_is e h = sym (ap fault_in e) ∙ h

  -- of an accepted one it is 0
  pub accepted_is : {u : A} → R ≡ Ok u → fault_in R ≡ x → 0 ≡ x
  accepted_is e h = sym (ap fault_in e) ∙ h

-- a refusal that is handed on
pub handed_on : {A : Type 0} (R : Result A Refusal) (r : Refusal) → IsErrAnd R (λ e. e ≡ r) → fault_in R ≡ number_of r
handed_on (Ok x) r h = absurd h
handed_on (Err e) r h = ap number_of h
