-- Forty rooms press play (document 02, ticket 6): one call with a list of joins and leaves, each with its answer, `and a result equal to making them
-- singly in list order`.
use Rattle.std.specs.Prelude.{ℕ, zero, suc, ◌/◌, List, [], ◌∷◌, Bool, cond, ◌&&◌, length, get_or, drop, leb, eqb}
use Rattle.numbers.specs.Limits.{max_items}
use Rattle.numbers.specs.Refusals.{too_short, not_sound}
use Rattle.words.specs.Words.{words_of, with_words}
use Rattle.card.specs.declared.Verdict.{Verdict}
use Rattle.plan.specs.Answer.{is_plan}
use Rattle.plan.specs.Scratch.{scratch_short}
use Rattle.rules.specs.Sound.{sound}
use Rattle.desk.specs.declared.Desk.{Desk}
use Rattle.desk.specs.declared.Answer.{Answer}
use Rattle.desk.specs.Desk.{supply_of, order_of, view_of, join_desk, leave_desk}
use Rattle.desk.specs.Scratch.{desk_leads}

-- `An item has a number, 0 for a join and any other for a leave, slot and start block`, and with a shelf the film (ticket 14)
pub record Item : Type 0 where
  pub number : ℕ
  pub slot : ℕ
  pub block : ℕ
  pub film : ℕ

-- the first k items of a list of words, four each
unfoldable pub items_read : ℕ → List ℕ → List Item
items_read zero ws = []
items_read (suc k) ws = record { number = get_or ws 0 0; slot = get_or ws 1 0; block = get_or ws 2 0; film = get_or ws 3 0 } ∷ items_read k (drop 4 ws)

-- the whole items of a lent string, and the whole answers that another has room for, two words each
unfoldable pub item_count : List ℕ → ℕ
item_count I = length (words_of I) / 4

unfoldable pub items_in : List ℕ → List Item
items_in I = items_read (item_count I) (words_of I)

unfoldable pub answer_room : List ℕ → ℕ
answer_room A = length (words_of A) / 2

-- ---- made singly, with the lists ps and ls

-- a leave reads neither block nor film
unfoldable pub item_desk : Desk → List ℕ → List ℕ → Item → Answer
item_desk d ps ls t = cond (eqb t.number 0) (join_desk d ps ls t.slot t.block t.film) (leave_desk d ps ls t.slot)

-- the desk after them, each on the desk that the last one left
unfoldable pub singly_desk : Desk → List ℕ → List ℕ → List Item → Desk
singly_desk d ps ls [] = d
singly_desk d ps ls (t ∷ ts) = singly_desk (item_desk d ps ls t).desk ps ls ts

-- and their answers
unfoldable pub singly_answers : Desk → List ℕ → List ℕ → List Item → List Verdict
singly_answers d ps ls [] = []
singly_answers d ps ls (t ∷ ts) = (item_desk d ps ls t).verdict ∷ singly_answers (item_desk d ps ls t).desk ps ls ts

-- as numbers: number and place of each
unfoldable pub answer_words : List Verdict → List ℕ
answer_words [] = []
answer_words (v ∷ vs) = v.number ∷ v.place ∷ answer_words vs

-- ---- the call, with the strings I of items and A of answers

-- `More than 512 items, or an answer list shorter than the items, is 13, judged straight after 14`: of k items and so much room
unfoldable pub batch_number : Desk → List ℕ → List ℕ → ℕ → ℕ → ℕ
batch_number d ps ls k room =
    cond (is_plan d.plan ps ls && sound (supply_of d.plan) (order_of d.plan) (view_of d)) (cond (leb k max_items && leb k room) 0 too_short) not_sound

abbrev pub batch_taken : Desk → List ℕ → List ℕ → List ℕ → List ℕ → Bool
batch_taken d ps ls I A = eqb (batch_number d ps ls (item_count I) (answer_room A)) 0

-- a refused call leaves the desk and the answers; answers past the items stay
unfoldable pub batch_desk : Desk → List ℕ → List ℕ → List ℕ → List ℕ → Desk
batch_desk d ps ls I A = cond (batch_taken d ps ls I A) (singly_desk d ps ls (items_in I)) d

unfoldable pub batch_answers : Desk → List ℕ → List ℕ → List ℕ → List ℕ → List ℕ
batch_answers d ps ls I A = cond (batch_taken d ps ls I A) (with_words A 0 (answer_words (singly_answers d ps ls (items_in I)))) A

-- ---- the same with a scratch s (ticket 10): 13 where it is too short, ahead of all else

unfoldable pub scratch_number : Desk → List ℕ → List ℕ → ℕ → ℕ → ℕ
scratch_number d ps s k room = cond (scratch_short s) too_short (batch_number d ps (desk_leads d) k room)

unfoldable pub scratch_desk : Desk → List ℕ → List ℕ → List ℕ → List ℕ → Desk
scratch_desk d ps s I A = cond (scratch_short s) d (batch_desk d ps (desk_leads d) I A)

unfoldable pub scratch_answers : Desk → List ℕ → List ℕ → List ℕ → List ℕ → List ℕ
scratch_answers d ps s I A = cond (scratch_short s) A (batch_answers d ps (desk_leads d) I A)
