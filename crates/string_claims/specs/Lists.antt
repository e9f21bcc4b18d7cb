-- A list of C calls on one desk string, with the book beside it: all is read off the strings and the answers.
use Rattle.std.specs.Prelude.{ℕ, zero, suc, List, [], ◌∷◌, Bool, cond, get_or, drop}
use Rattle.words.specs.Words.{words_of}
use Rattle.pacing.specs.Shelf.{name_of}
use Rattle.rules.specs.Scheduler.{Entry, Call, join, leave, begin, end}
use Rattle.rules.specs.Ledger.{Line, opened_ledger, recorded}
use Rattle.rules.specs.Calls.{is_accepted}
use Rattle.trace.specs.List.{fair_to}
use Rattle.trace.specs.Safe.{Seen}
use Rattle.layout.specs.declared.FilmdiskAnswer.{FilmdiskAnswer}
use Rattle.plan_layout.specs.Layout.{plan_in}
use Rattle.desk_calls.specs.Calls.{said, join_answer, join_string, leave_answer, leave_string, end_answer, end_string, room_in, begin_answer, begin_string}
use Rattle.desk_calls.specs.Calls.{fetch_string, join_scratch_answer, join_scratch_string, leave_scratch_answer, leave_scratch_string, begin_scratch_answer}
use Rattle.desk_calls.specs.Calls.{begin_scratch_string, fetch_scratch_string, end_scratch_answer, end_scratch_string}

-- ---- a call

-- what the playout process asks of its desk string
pub data StringRequest : Type 0 where
  join_slot : ℕ → ℕ → ℕ → StringRequest
  leave_slot : ℕ → StringRequest
  -- with the fetch string
  begin_sweep : List ℕ → StringRequest
  -- with the draw string
  end_sweep : List ℕ → StringRequest

-- with the two lists that it lends: the lead list or, not listed, a scratch in its place (T10.1)
pub record StringCall : Type 0 where
  pub request : StringRequest
  pub positions : List ℕ
  pub leads : List ℕ
  pub listed : Bool

-- the move that the book is told of: the draws are the words of their string
abbrev pub move_in : StringRequest → Call ℕ
move_in (join_slot slot block film) = join slot (name_of film block)
move_in (leave_slot slot) = leave slot
move_in (begin_sweep F) = begin
move_in (end_sweep draws) = end (words_of draws)

-- and the room that it gives for fetch entries
abbrev pub room_asked : StringRequest → ℕ
room_asked (join_slot slot block film) = 0
room_asked (leave_slot slot) = 0
room_asked (begin_sweep F) = room_in F
room_asked (end_sweep draws) = 0

-- whole entries of three words, position, slot and block: the first k of a list of words
unfoldable pub entries_read : ℕ → List ℕ → List Entry
entries_read zero ws = []
entries_read (suc k) ws = record { position = get_or ws 0 0; slot = get_or ws 1 0; block = get_or ws 2 0 } ∷ entries_read k (drop 3 ws)

-- the answer of a call, the desk string after it, and the entries of the fetch string after it, as many as the answer counts
module _ (D : List ℕ) (listed : Bool) (ps ls : List ℕ) where
  abbrev pub answer_in : StringRequest → FilmdiskAnswer
  answer_in (join_slot slot block film) = cond listed (join_answer D ps ls slot block film) (join_scratch_answer D ps ls slot block film)
  answer_in (leave_slot slot) = cond listed (leave_answer D ps ls slot) (leave_scratch_answer D ps ls slot)
  answer_in (begin_sweep F) = cond listed (begin_answer D ps ls F) (begin_scratch_answer D ps ls F)
  answer_in (end_sweep draws) = cond listed (end_answer D ps ls draws) (end_scratch_answer D ps ls draws)

  abbrev pub string_in : StringRequest → List ℕ
  string_in (join_slot slot block film) = cond listed (join_string D ps ls slot block film) (join_scratch_string D ps ls slot block film)
  string_in (leave_slot slot) = cond listed (leave_string D ps ls slot) (leave_scratch_string D ps ls slot)
  string_in (begin_sweep F) = cond listed (begin_string D ps ls F) (begin_scratch_string D ps ls F)
  string_in (end_sweep draws) = cond listed (end_string D ps ls draws) (end_scratch_string D ps ls draws)

  abbrev pub fetches_in : List ℕ → List ℕ
  fetches_in F = cond listed (fetch_string D ps ls F) (fetch_scratch_string D ps ls F)

  abbrev pub entries_in : StringRequest → List Entry
  entries_in (join_slot slot block film) = []
  entries_in (leave_slot slot) = []
  entries_in (begin_sweep F) = entries_read (answer_in (begin_sweep F)).count (words_of (fetches_in F))
  entries_in (end_sweep draws) = []

-- those of a whole call
abbrev pub answer_on : List ℕ → StringCall → FilmdiskAnswer
answer_on D x = answer_in D x.listed x.positions x.leads x.request

abbrev pub string_on : List ℕ → StringCall → List ℕ
string_on D x = string_in D x.listed x.positions x.leads x.request

abbrev pub entries_on : List ℕ → StringCall → List Entry
entries_on D x = entries_in D x.listed x.positions x.leads x.request

-- ---- a list

-- the desk string and the book beside it
pub record Strings : Type 0 where
  pub desk : List ℕ
  pub book : List Line

-- each call gets the string that the last one left
module _ (B : ℕ) where
  unfoldable pub string_turn : Strings → StringCall → Strings
  string_turn v x = record {
    desk = string_on v.desk x;
    book = recorded B v.book (move_in x.request) (is_accepted (answer_on v.desk x).number) (entries_on v.desk x);
  }

  unfoldable pub strings_from : Strings → List StringCall → Strings
  strings_from v [] = v
  strings_from v (x ∷ xs) = strings_from (string_turn v x) xs

-- from an opening with the plan string P that left the desk string D; B is that of the plan string
module _ (P D : List ℕ) where
  abbrev pub strings_after : List StringCall → Strings
  strings_after xs = strings_from (plan_in (words_of P)).figures.bytes (record { desk = D; book = opened_ledger }) xs

  abbrev pub on_string : Seen StringCall
  on_string = record {
    desk = λ xs. said (strings_after xs).desk;
    book = λ xs. (strings_after xs).book;
    number = λ xs x. (answer_on (strings_after xs).desk x).number;
    bound = λ xs x. (answer_on (strings_after xs).desk x).bound;
    move = λ x. move_in x.request;
    fair = λ x. fair_to (plan_in (words_of P)) x.listed x.positions x.leads;
    room = λ x. room_asked x.request;
  }
