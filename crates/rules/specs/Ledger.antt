-- The ledger (01: the book; B2): what it is fed are its arguments, and no scheduler is among them.
-- Assumes nothing.
use Rattle.std.specs.Prelude.{ℕ, ◌+◌, ◌*◌, Bool, true, false, cond, ◌&&◌, ◌||◌, List, [], ◌∷◌, get_or, set, replicate, leb, eqb}
use Rattle.laws.specs.Bools.{bit}
use Rattle.laws.specs.Map.{map_from}
use Rattle.numbers.specs.Limits.{max_streams}
use Rattle.rules.specs.Scheduler.{Entry, Call, join, leave, begin, end}

-- a slot's line: open or closed, fetched, drawn and a mark
pub record Line : Type 0 where
  pub is_open : Bool
  pub fetched : ℕ
  pub consumed : ℕ
  pub marked : Bool

-- a line at the opening
abbrev pub blank : Line
blank = record { is_open = false; fetched = 0; consumed = 0; marked = false }

abbrev pub line_at : List Line → ℕ → Line
line_at ls i = get_or ls i blank

unfoldable pub opened_ledger : List Line
opened_ledger = replicate max_streams blank

-- the line after a join
abbrev pub opened_line : Line → Line
opened_line l = record { is_open = true; fetched = 0; consumed = 0; marked = l.marked }

-- after a leave
abbrev pub close_by : Bool → Line → Line
close_by true l = record { is_open = false; fetched = l.fetched; consumed = l.consumed; marked = l.marked }
close_by false l = l

-- slot i is named in the entries
unfoldable pub is_named : ℕ → List Entry → Bool
is_named i [] = false
is_named i (e ∷ es) = eqb i e.slot || is_named i es

-- after a begin
unfoldable pub marked_line : List Entry → ℕ → Line → Line
marked_line es i l = record { is_open = l.is_open; fetched = l.fetched; consumed = l.consumed; marked = is_named i es || l.marked }

-- after an end, with the draw d: who is open has drawn it, who is marked has one block more
unfoldable pub drawn_line : Line → ℕ → Line
drawn_line l d = record { is_open = l.is_open; fetched = l.fetched + bit l.marked; consumed = l.consumed + cond l.is_open d 0; marked = false }

module _ (B : ℕ) where
  -- then who was fetched for and has drawn it all closes
  unfoldable pub settled_line : Line → Line
  settled_line l = close_by (l.is_open && (leb 1 l.fetched && eqb (l.fetched * B) l.consumed)) l

  -- the ledger after a call; the flag says whether it was accepted
  unfoldable pub recorded : {A : Type 0} → List Line → Call A → Bool → List Entry → List Line
  recorded ls c false es = ls
  recorded ls (join i b) true es = set ls i (opened_line (line_at ls i))
  recorded ls (leave i) true es = set ls i (close_by true (line_at ls i))
  recorded ls begin true es = map_from (marked_line es) 0 ls
  recorded ls (end ds) true es = map_from (λ i l. settled_line (drawn_line l (get_or ds i 0))) 0 ls
