-- The list and the book of document 01's demand 3, over the calls of the desk as their contracts say them.
use Rattle.std.specs.Prelude.{ℕ, List, [], ◌∷◌, Bool, cond, not, ◌&&◌}
use Rattle.words.specs.Words.{words_of}
use Rattle.pacing.specs.Shelf.{name_of}
use Rattle.plan.specs.declared.Plan.{Plan}
use Rattle.plan.specs.Answer.{is_plan}
use Rattle.plan.specs.Scratch.{scratch_short}
use Rattle.rules.specs.Scheduler.{Entry, Call, join, leave, begin, end}
use Rattle.rules.specs.Ledger.{Line, opened_ledger, recorded}
use Rattle.rules.specs.Calls.{is_accepted}
use Rattle.desk.specs.declared.Desk.{Desk}
use Rattle.desk.specs.declared.Answer.{Answer}
use Rattle.desk.specs.declared.Begun.{Begun}
use Rattle.desk.specs.Desk.{join_desk, leave_desk, begin_desk, end_desk}
use Rattle.desk.specs.Scratch.{plan_leads, join_scratch, leave_scratch, begin_scratch, end_scratch}
use Rattle.desk.specs.Entries.{entries_in}

-- a call of the playout process. Slots, blocks, films, draws and the room of the fetch list may be anything
pub data Request : Type 0 where
  joins : ℕ → ℕ → ℕ → Request
  leaves : ℕ → Request
  -- with the number of entries that the lent fetch list has
  begins : ℕ → Request
  -- with a lent byte string of draws
  ends : List ℕ → Request

-- a request with the two lists that are lent to it, which may be anything too. It is made with the lead list or, not listed, with a scratch in
-- its place (T10.1)
pub record Lent : Type 0 where
  pub request : Request
  pub positions : List ℕ
  pub leads : List ℕ
  pub listed : Bool

-- the move that the book is told of
abbrev pub move_of : Request → Call ℕ
move_of (joins slot block film) = join slot (name_of film block)
move_of (leaves slot) = leave slot
move_of (begins room) = begin
move_of (ends draws) = end (words_of draws)

-- the room that it gives for fetch entries
abbrev pub room_of : Request → ℕ
room_of (joins slot block film) = 0
room_of (leaves slot) = 0
room_of (begins room) = room
room_of (ends draws) = 0

-- ---- what a call answers

pub record Answered : Type 0 where
  pub number : ℕ
  pub desk : Desk
  pub entries : List Entry
  pub bound : ℕ

abbrev pub plainly : Answer → Answered
plainly a = record { number = a.verdict.number; desk = a.desk; entries = []; bound = 0 }

abbrev pub begunly : Begun → Answered
begunly b = record { number = b.verdict.number; desk = b.desk; entries = entries_in b.fetches; bound = b.bound }

unfoldable pub answer_to : Desk → Bool → List ℕ → List ℕ → Request → Answered
answer_to d listed ps ls (joins slot block film) = plainly (cond listed (join_desk d ps ls slot block film) (join_scratch d ps ls slot block film))
answer_to d listed ps ls (leaves slot) = plainly (cond listed (leave_desk d ps ls slot) (leave_scratch d ps ls slot))
answer_to d listed ps ls (begins room) = begunly (cond listed (begin_desk d ps ls room) (begin_scratch d ps ls room))
answer_to d listed ps ls (ends draws) = plainly (cond listed (end_desk d ps ls draws) (end_scratch d ps ls draws))

abbrev pub called : Desk → Lent → Answered
called d x = answer_to d x.listed x.positions x.leads x.request

-- what is lent is fair: both lists are those of plan p, or the scratch is not too short and the positions are p's
abbrev pub fair_to : Plan → Bool → List ℕ → List ℕ → Bool
fair_to p listed ps ls = cond listed (is_plan p ps ls) (not (scratch_short ls) && is_plan p ps (plan_leads p))

-- ---- the list, with the book beside the desk

pub record World : Type 0 where
  pub desk : Desk
  pub book : List Line

-- B1: each call gets the desk that the last one left. B2: the book is fed the call, whether it was accepted, and the entries that it
-- answered; B is the opening's, and nothing is read of the desk
module _ (B : ℕ) where
  unfoldable pub turn : World → Lent → World
  turn v x =
      let a = called v.desk x in
      record { desk = a.desk; book = recorded B v.book (move_of x.request) (is_accepted a.number) a.entries }

  unfoldable pub after : World → List Lent → World
  after v [] = v
  after v (x ∷ xs) = after (turn v x) xs

-- from an opening, with every line closed
abbrev pub opened : Desk → World
opened d = record { desk = d; book = opened_ledger }
