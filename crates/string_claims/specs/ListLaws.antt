-- Demand 3 of a list of C calls: the desk string says the desk of the same list on a record (crate trace), and the books are the same.
-- Assumes nothing.
use Rattle.std.specs.Prelude.{ℕ, ◌≡◌, Bool, length}
use Rattle.std.proofs.Math.Path.{refl}
use mathlib.Core.List.{List}
use Rattle.words.specs.Words.{Bytes, words_of}
use Rattle.plan.specs.declared.Plan.{Plan}
use Rattle.rules.specs.Scheduler.{Entry, Call, join, leave, begin, end}
use Rattle.desk.specs.declared.Desk.{Desk}
use Rattle.desk.specs.Desk.{desk_of, answer_of}
use Rattle.trace.specs.List.{Request, joins, leaves, begins, ends, Lent, move_of, room_of, World, Answered, answer_to, after}
use Rattle.layout.specs.declared.FilmdiskAnswer.{FilmdiskAnswer}
use Rattle.plan_layout.specs.Layout.{plan_in}
use Rattle.desk_layout.specs.Layout.{desk_size}
use Rattle.desk_calls.specs.Calls.{open_answer, open_string, said}
use Rattle.desk_calls.specs.Calls.{room_in}
use Rattle.string_claims.specs.Lists.{StringRequest, join_slot, leave_slot, begin_sweep, end_sweep, StringCall, move_in, room_asked, answer_in, string_in}
use Rattle.string_claims.specs.Lists.{entries_in, Strings}

-- ---- the same call on the record that the string says

abbrev request_of : StringRequest → Request
request_of (join_slot slot block film) = joins slot block film
request_of (leave_slot slot) = leaves slot
request_of (begin_sweep F) = begins (room_in F)
request_of (end_sweep draws) = ends draws

abbrev pub lent_of : StringCall → Lent
lent_of x = record { request = request_of x.request; positions = x.positions; leads = x.leads; listed = x.listed }

pub move_same : (r : StringRequest) → move_in r ≡ move_of (request_of r)
move_same (join_slot slot block film) = refl
move_same (leave_slot slot) = refl
move_same (begin_sweep F) = refl
move_same (end_sweep draws) = refl

pub room_same : (r : StringRequest) → room_asked r ≡ room_of (request_of r)
room_same (join_slot slot block film) = refl
room_same (leave_slot slot) = refl
room_same (begin_sweep F) = refl
room_same (end_sweep draws) = refl

module _ (D : List ℕ) (y : Bytes D) (l : length D ≡ desk_size) where
  module _ (ps ls : List ℕ) (room : ℕ) (call : Call ℕ) where
    abbrev pub left : Desk
    left = desk_of (said D).plan (answer_of (said D) ps ls room call).scheduler

  -- a call on the string, S being the string after it, answers and leaves what the same call does on the record that it says
  pub record SameCall (S : List ℕ) (a : FilmdiskAnswer) (es : List Entry) (b : Answered) : Type 0 where
    pub desk : said S ≡ b.desk
    pub number : a.number ≡ b.number
    pub bound : a.bound ≡ b.bound
    pub entries : es ≡ b.entries
    -- it stays a string of bytes of the same length
    pub bytes : Bytes S
    pub long : length S ≡ desk_size

  -- the call on the string and the one on the record, made alike
  abbrev pub Same : Bool → List ℕ → List ℕ → StringRequest → Type 0
  Same listed ps ls r =
      SameCall (string_in D listed ps ls r) (answer_in D listed ps ls r) (entries_in D listed ps ls r) (answer_to (said D) listed ps ls (request_of r))

-- ---- the same list

-- the string says the record's desk, and the books are the same
pub record InStep (v : Strings) (u : World) : Type 0 where
  pub desk : said v.desk ≡ u.desk
  pub book : v.book ≡ u.book
  pub bytes : Bytes v.desk
  pub long : length v.desk ≡ desk_size

-- FROM AN ACCEPTED OPENING every list of calls on the desk string is safe, and the string keeps its length
module _ (P ps ls D : List ℕ) (y : Bytes D) (n : (open_answer P ps ls D).number ≡ 0) where
  abbrev pub plan : Plan
  plan = plan_in (words_of P)

  abbrev pub first : List ℕ
  first = open_string P ps ls D
