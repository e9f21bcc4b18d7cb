-- The claim of demand 3: a list of calls as their caller sees it, and what makes it safe.
use Rattle.std.specs.Prelude.{ℕ, ◌+◌, ◌*◌, ◌/◌, ◌≤◌, ◌<◌, ◌≡◌, ◌↔◌, ◌≢◌, Bool, true, cond, List, [], ◌∷◌, ◌++◌, map, get_or}
use Rattle.numbers.specs.Limits.{max_streams}
use Rattle.numbers.specs.Refusals.{not_sound}
use Rattle.numbers.specs.Slots.{waiting, playing, draining}
use Rattle.numbers.specs.Showings.{loop_word}
use Rattle.numbers.specs.Units.{micros}
use Rattle.plan.specs.declared.Plan.{Plan}
use Rattle.rules.specs.Scheduler.{Call, begin}
use Rattle.rules.specs.Sound.{sound}
use Rattle.rules.specs.Kinds.{kind_after}
use Rattle.rules.specs.Ledger.{Line, line_at}
use Rattle.rules.specs.Calls.{Given, is_accepted}
use Rattle.rules.specs.Calls as C
use Rattle.desk.specs.declared.Desk.{Desk}
use Rattle.desk.specs.Desk.{supply_of, order_of, rules_of, view_of, desk_of, fresh_desk}
use Rattle.trace.specs.List.{Lent, move_of, room_of, called, fair_to, World, after, opened}

-- B1: a list of calls of type X as their caller sees it
pub record Seen (X : Type 0) : Type 0 where
  -- the desk and the book after a list
  pub desk : List X → Desk
  pub book : List X → List Line
  -- the number and the bound that one more call is answered
  pub number : List X → X → ℕ
  pub bound : List X → X → ℕ
  -- a call's move, whether the lists that are lent to it are the plan's (with a scratch, the positions), and its room for fetch entries
  pub move : X → Call ℕ
  pub fair : X → Bool
  pub room : X → ℕ

-- from the opening of a plan, the calls on its record
module _ (p : Plan) where
  abbrev pub world_after : List Lent → World
  world_after xs = after p.figures.bytes (opened (fresh_desk p)) xs

  abbrev pub on_record : Seen Lent
  on_record = record {
    desk = λ xs. (world_after xs).desk;
    book = λ xs. (world_after xs).book;
    number = λ xs x. (called (world_after xs).desk x).number;
    bound = λ xs x. (called (world_after xs).desk x).bound;
    move = λ x. move_of x.request;
    fair = λ x. fair_to p x.listed x.positions x.leads;
    room = λ x. room_of x.request;
  }

module _ {X : Type 0} (p : Plan) (v : Seen X) where
  abbrev pub kind_at : List X → ℕ → ℕ
  kind_at xs i = get_or (v.desk xs).kinds i 0

  abbrev pub held_at : List X → ℕ → ℕ
  held_at xs i = get_or (v.desk xs).held i 0

  abbrev pub line_of : List X → ℕ → Line
  line_of xs i = line_at (v.book xs) i

  -- a call as the rules are given it
  abbrev pub given_in : X → Given ℕ
  given_in x = record { call = v.move x; fair = v.fair x; room = v.room x }

  -- AFTER EVERY LIST from an opening of p, a plan of either showing (T7.9), for each of the 256 slots
  pub record Safe (xs : List X) : Type 0 where
    -- 2.1: the desk is that of the rules' scheduler after the same list
    pub by_rules : v.desk xs ≡ desk_of p (C.after (supply_of p) (order_of p) (rules_of p) (C.opening (supply_of p) (order_of p)) (map given_in xs)).scheduler
    -- B3: a slot is occupied exactly where its line is open
    pub occupied_open : (i : ℕ) → i < max_streams → ((waiting ≤ kind_at xs i) × (kind_at xs i ≤ draining)) ↔ ((line_of xs i).is_open ≡ true)
    -- B4: all that was fetched for an open line was drawn or is held
    pub accounted : (i : ℕ) → i < max_streams → (line_of xs i).is_open ≡ true
        → held_at xs i + (line_of xs i).consumed ≡ (line_of xs i).fetched * p.figures.bytes
    -- B4: no buffer is overfull
    pub fits : (i : ℕ) → i < max_streams → held_at xs i ≤ p.buffer
    -- B5: after an accepted begin each playing slot holds what it may draw with the bound of that begin
    pub starts_full : (ys : List X) (x : X) → xs ≡ ys ++ (x ∷ []) → v.move x ≡ begin → v.number ys x ≡ 0
        → (i : ℕ) → i < max_streams → kind_at xs i ≡ playing → p.figures.rate * v.bound ys x / micros ≤ held_at xs i
    -- B6: an accepted call gives each slot the kind of the desk's rules; a refused call leaves it
    pub ruled_kinds : (ys : List X) (x : X) → xs ≡ ys ++ (x ∷ []) → (i : ℕ) → i < max_streams
        → kind_at xs i ≡ cond (is_accepted (v.number ys x)) (kind_after (supply_of p) (view_of (v.desk ys)) (v.move x) i) (kind_at ys i)
    -- B6: the record stays the plan's, and sound: a call with the plan's own lists is never answered 14
    pub same_plan : (v.desk xs).plan ≡ p
    pub stays_sound : sound (supply_of p) (order_of p) (view_of (v.desk xs)) ≡ true
    pub never_unsound : (x : X) → v.fair x ≡ true → v.number xs x ≢ not_sound
    -- T7.8: in a loop no slot is tail
    pub loop_never_drains : p.showing ≡ loop_word → (i : ℕ) → i < max_streams → kind_at xs i ≢ draining
