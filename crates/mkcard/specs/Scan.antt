-- A text of figures: which words it has, and the value and the line of each.
use Rattle.std.specs.Prelude.{ℕ, zero, suc, ◌+◌, ◌^◌, ◌<◌, List, [], ◌∷◌, ◌++◌, Bool, true, false, cond, ◌&&◌, ◌||◌, length, get_or, set, take, replicate, ltb, eqb, Option, Some, None, unwrap_or, Result, Ok, Err}
use Rattle.numbers.specs.Limits.{no_number}
use Rattle.decimal.specs.Decimal.{digits, capped, grown}
use Rattle.card.specs.Card.{bytes_of}
use Rattle.leb128.specs.Number.{group_weight}
use Rattle.card.specs.Read.{read_card}
use Rattle.mkcard.specs.declared.scan.Scan.{Scan}
use Rattle.mkcard.specs.declared.make.Refusal.{Refusal}

-- the words that are kept, and the bytes of their numbers, five each
abbrev pub most_words : ℕ
most_words = 407

abbrev pub most_bytes : ℕ
most_bytes = 2035

-- before the first byte
unfoldable pub begun : Scan
begun = record { line = 1; comment = false; word = None; count = 0; values = replicate most_words 0; lines = replicate most_words 0 }

-- a word ends, if there is one: its value and its line are kept, if it is among the first 407
unfoldable pub ended_by : Scan → Option ℕ → Scan
ended_by s None = s
ended_by s (Some value) =
    cond (ltb s.count most_words)
    (record {
      line = s.line;
      comment = s.comment;
      word = None;
      count = s.count + 1;
      values = set s.values s.count value;
      lines = set s.lines s.count s.line;
    })
    (record { line = s.line; comment = s.comment; word = None; count = s.count; values = s.values; lines = s.lines })

unfoldable pub ended : Scan → Scan
ended s = ended_by s s.word

-- lines are counted to 2^64 - 1
abbrev pub max_line : ℕ
max_line = 18446744073709551615

-- a line ends, and with it a comment
unfoldable pub line_after : Scan → Scan
line_after s = record {
  line = cond (ltb s.line max_line) (s.line + 1) s.line;
  comment = false;
  word = s.word;
  count = s.count;
  values = s.values;
  lines = s.lines;
}

unfoldable pub commented : Scan → Scan
commented s = record { line = s.line; comment = true; word = s.word; count = s.count; values = s.values; lines = s.lines }

unfoldable pub longer : Scan → ℕ → Scan
longer s b = record { line = s.line; comment = s.comment; word = Some (grown (unwrap_or s.word 0) b); count = s.count; values = s.values; lines = s.lines }

-- tab, carriage return, space
unfoldable pub blank : ℕ → Bool
blank b = eqb b 9 || (eqb b 13 || eqb b 32)

-- ONE BYTE MORE: a line feed (10) ends word, comment and line; within a comment all else is nothing; `#` (35) ends a word and starts a comment
unfoldable pub stepped : Scan → ℕ → Scan
stepped s b =
    cond (eqb b 10) (line_after (ended s))
    (cond s.comment s
    (cond (eqb b 35) (commented (ended s))
    (cond (blank b) (ended s) (longer s b))))

unfoldable pub scanned : Scan → List ℕ → Scan
scanned s [] = s
scanned s (b ∷ bs) = scanned (stepped s b) bs

-- ---- the card of the words

-- the numbers of `left` more words from the i-th on
unfoldable pub numbers_from : ℕ → ℕ → Scan → List ℕ
numbers_from zero i s = []
numbers_from (suc left) i s = cond (ltb i s.count) (capped (get_or s.values i 0) ∷ numbers_from left (i + 1) s) []

-- the bytes of the words, one number after the other. Those of 4,294,967,296 are malformed, so a word that is no number is refused as 2
unfoldable pub card_of_words : Scan → List ℕ
card_of_words s = bytes_of (numbers_from most_words 0 s)

-- how many numbers end in the bytes
unfoldable pub numbers_in : List ℕ → ℕ
numbers_in [] = 0
numbers_in (b ∷ bs) = cond (ltb b group_weight) 1 0 + numbers_in bs

-- the line of the i-th word; past the words, where the text ends
unfoldable pub line_of : Scan → ℕ → ℕ
line_of s i = cond (ltb i s.count && ltb i most_words) (get_or s.lines i 0) s.line

-- a refusal with the line of the word at the place; of an accepted card its length
unfoldable pub made_by : Scan → ℕ → ℕ → Result ℕ Refusal
made_by s zero place = Ok (length (card_of_words s))
made_by s (suc k) place = Err (record { number = suc k; line = line_of s (numbers_in (take place (card_of_words s))) })

-- THE ANSWER TO A TEXT THAT IS READ: what the reader says of its card
unfoldable pub made : Scan → Result ℕ Refusal
made s = made_by s (read_card 1 (card_of_words s)).verdict.number (read_card 1 (card_of_words s)).verdict.place

-- ---- the text of numbers

-- numbers in decimal, each on a line of its own, with `more v` digits before the last one of v; zeros in front are allowed
unfoldable pub text_of : (ℕ → ℕ) → List ℕ → List ℕ
text_of more [] = []
text_of more (v ∷ vs) = digits (suc (more v)) v ++ (10 ∷ text_of more vs)

-- the numbers have 32 bits, and enough digits
unfoldable pub Spelled : (ℕ → ℕ) → List ℕ → Type 0
Spelled more [] = Unit
Spelled more (v ∷ vs) = (v < no_number) × (v < 10 ^ suc (more v)) × Spelled more vs

-- THE CARD OF A TEXT, from its first byte to its last
unfoldable pub card_of_text : List ℕ → List ℕ
card_of_text text = card_of_words (ended (scanned begun text))
