-- Document 01's refusal numbers, and those that document 02 adds.
use Rattle.std.specs.Prelude.{ℕ}

-- card ends too early
abbrev pub card_ends : ℕ
card_ends = 1

-- number not shortest, over five bytes, or above 4,294,967,295
abbrev pub number_form : ℕ
number_form = 2

-- kind not 1, nor 2 (document 02, ticket 3)
abbrev pub wrong_kind : ℕ
wrong_kind = 3

-- zones out of range, or a record's unused zones not zero
abbrev pub wrong_zones : ℕ
wrong_zones = 4

-- zone without positions, or total so far too great
abbrev pub wrong_positions : ℕ
wrong_positions = 5

-- zone time out of range
abbrev pub wrong_time : ℕ
wrong_time = 6

-- zone time above the one before
abbrev pub rising_time : ℕ
rising_time = 7

-- N out of range
abbrev pub wrong_blocks : ℕ
wrong_blocks = 8

-- N above P
abbrev pub blocks_above_positions : ℕ
blocks_above_positions = 9

-- B, c, hop or return out of range, or a record's table that comes from no hop and return
abbrev pub wrong_measure : ℕ
wrong_measure = 10

-- bytes left over
abbrev pub card_goes_on : ℕ
card_goes_on = 11

-- not even one stream fits
abbrev pub no_stream : ℕ
no_stream = 12

-- lent list or card buffer too short
abbrev pub too_short : ℕ
too_short = 13

-- record not sound
abbrev pub not_sound : ℕ
not_sound = 14

-- wrong phase
abbrev pub wrong_phase : ℕ
wrong_phase = 15

-- slot n or above
abbrev pub no_such_slot : ℕ
no_such_slot = 16

-- join on an occupied, leave on a free slot
abbrev pub slot_state : ℕ
slot_state = 17

-- start block N or above
abbrev pub no_such_block : ℕ
no_such_block = 18

-- draw list not n long
abbrev pub draw_count : ℕ
draw_count = 19

-- draw above what the slot may draw
abbrev pub draw_above_limit : ℕ
draw_above_limit = 20

-- draw above held
abbrev pub draw_above_held : ℕ
draw_above_held = 21

-- a line of a maker's text of another form, or no line at all (document 02, ticket 1)
abbrev pub line_form : ℕ
line_form = 22

-- its first line out of range
abbrev pub wrong_heading : ℕ
wrong_heading = 23

-- a row out of range, with its last cylinder below its first, or not following on the cylinder before
abbrev pub wrong_row : ℕ
wrong_row = 24

-- overhead out of range, or below the one before (document 02, ticket 3)
abbrev pub wrong_overhead : ℕ
wrong_overhead = 25

-- zone time, times three, below the first zone's (document 02, ticket 8)
abbrev pub half_dead_time : ℕ
half_dead_time = 26

-- window of 0 blocks, above 64 or above N (document 02, ticket 9)
abbrev pub wrong_window : ℕ
wrong_window = 27

-- twice N above P (document 02, ticket 11)
abbrev pub halves_above_positions : ℕ
halves_above_positions = 28

-- film of more blocks than are tried (document 02, ticket 12), or more films than one (ticket 14)
abbrev pub film_too_long : ℕ
film_too_long = 29

-- a shelf of 0 or over 16 films, a record's unused films not zero, or blocks past 16,384 (document 02, ticket 14)
abbrev pub wrong_films : ℕ
wrong_films = 30

-- a join that names no film of the shelf (document 02, ticket 14)
abbrev pub no_such_film : ℕ
no_such_film = 31
