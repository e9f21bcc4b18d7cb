-- Every list is safe: the desk of a list is the rules' scheduler of the same list, call by call.
-- Assumes nothing.
use Prim.Native.Nat.{ℕ, zero, suc}
use Rattle.std.specs.Prelude.{◌≡◌, Bool, true, false, cond, not, get_or}
use Rattle.std.proofs.Math.Path.{refl, ap}
use Rattle.std.proofs.Common.{sym, ◌∙◌, arith}
use mathlib.Core.List.{List, [], ◌∷◌, map, map-append}
use Rattle.laws.specs.Bools.{clash}
use Rattle.numbers.specs.Refusals.{too_short, not_sound}
use Rattle.words.specs.Words.{with_words}
use Rattle.plan.specs.declared.Plan.{Plan}
use Rattle.plan.specs.Answer.{is_plan}
use Rattle.plan.specs.Scratch.{scratch_short}
use Rattle.rules.specs.Order.{Scheduler}
use Rattle.rules.specs.Scheduler.{Entry, begin, leads}
use Rattle.rules.specs.Sound.{sound}
use Rattle.turns.specs.Answers.{refused_changes_nothing, answer_refused}
use Rattle.turns.specs.Rows.{row_unfair}
use Rattle.rules.specs.Refusals.{verdict}
use Rattle.rules.specs.Kinds.{kind_after}
use Rattle.rules.specs.Calls.{Given, is_accepted}
use Rattle.desk.specs.declared.Desk.{Desk}
use Rattle.desk.specs.Desk.{supply_of, rules_of, order_of, Queue, view_of, desk_of, answer_of, answered, join_desk, leave_desk, begin_desk, end_desk, entry_words}
use Rattle.desk.specs.Desk.{fetch_list_after}
use Rattle.desk.specs.Records.{not_begun}
use Rattle.desk.specs.Scratch.{desk_leads, join_scratch, leave_scratch, begin_scratch, end_scratch}
use Rattle.desk.specs.Entries.{entries_in_law}
use Rattle.trace.specs.List.{Request, joins, leaves, begins, ends, Lent, move_of, room_of, Answered, answer_to, called, fair_to}
use Rattle.trace.specs.List.{World, after}
use Rattle.trace.specs.Safe.{Seen, world_after, given_in, Safe}
use Rattle.rules.specs.Order as A
use Rattle.rules.specs.Calls as C
use Rattle.safety.specs.Claim as K

-- ---- a list taken twice over, and as it is

map_twice : {A B C : Type 0} (f : B → C) (g : A → B) (xs : List A) → map f (map g xs) ≡ map (λ x. f (g x)) xs
map_twice f g [] = refl
map_twice f g (x ∷ xs) = ap (λ r. f (g x) ∷ r) (map_twice f g xs)

pub map_own : {A : Type 0} (xs : List A) → map (λ x. x) xs ≡ xs
map_own [] = refl
map_own (x ∷ xs) = ap (λ r. x ∷ r) (map_own xs)

-- the desk of the rules' scheduler after a list
abbrev pub desk_after : Plan → List (Given ℕ) → Desk
desk_after p gs = desk_of p (C.after (supply_of p) (order_of p) (rules_of p) (C.opening (supply_of p) (order_of p)) gs).scheduler

-- ---- calls of another type, seen as these

module _ {X Y : Type 0} (g : X → Y) (v : Seen Y) where
  abbrev pub seen_as : Seen X
  seen_as = record {
    desk = λ xs. v.desk (map g xs);
    book = λ xs. v.book (map g xs);
    number = λ xs x. v.number (map g xs) (g x);
    bound = λ xs x. v.bound (map g xs) (g x);
    move = λ x. v.move (g x);
    fair = λ x. v.fair (g x);
    room = λ x. v.room (g x);
  }

  pub safe_as : (p : Plan) (xs : List X) → Safe p v (map g xs) → Safe p seen_as xs
  safe_as p xs s = record {
    by_rules = s.by_rules ∙ ap (desk_after p) (map_twice (given_in p v) g xs);
    occupied_open = s.occupied_open;
    accounted = s.accounted;
    fits = s.fits;
    starts_full = λ ys x e. s.starts_full (map g ys) (g x) (ap (map g) e ∙ map-append g ys (x ∷ []));
    ruled_kinds = λ ys x e. s.ruled_kinds (map g ys) (g x) (ap (map g) e ∙ map-append g ys (x ∷ []));
    same_plan = s.same_plan;
    stays_sound = s.stays_sound;
    never_unsound = λ x. s.never_unsound (g x);
    loop_never_drains = s.loop_never_drains;
  }

-- a number that is accepted just where another is
pub accepted_zero : (m n : ℕ) → is_accepted m ≡ is_accepted n → m ≡ 0 → n ≡ 0
accepted_zero m zero e h = refl
accepted_zero zero (suc n) e h = clash refl e
accepted_zero (suc m) (suc n) e h = absurd (omega arith)

-- the same with other numbers, which accept the same calls and are the same for fair ones
pub renumbered : {X : Type 0} (p : Plan) (v : Seen X) (number : List X → X → ℕ)
    → ((xs : List X) (x : X) → is_accepted (number xs x) ≡ is_accepted (v.number xs x))
    → ((xs : List X) (x : X) → v.fair x ≡ true → number xs x ≡ v.number xs x) → (xs : List X) → Safe p v xs
    → Safe p (record { desk = v.desk; book = v.book; number = number; bound = v.bound; move = v.move; fair = v.fair; room = v.room }) xs
renumbered p v number a f xs s = record {
  by_rules = s.by_rules;
  occupied_open = s.occupied_open;
  accounted = s.accounted;
  fits = s.fits;
  starts_full = λ ys x e m n. s.starts_full ys x e m (accepted_zero _ _ (a ys x) n);
  ruled_kinds = λ ys x e i u. s.ruled_kinds ys x e i u ∙ ap (λ (t : Bool). cond t (kind_after (supply_of p) (view_of (v.desk ys)) (v.move x) i)
      (get_or (v.desk ys).kinds i 0)) (sym (a ys x));
  same_plan = s.same_plan;
  stays_sound = s.stays_sound;
  never_unsound = λ x h e. s.never_unsound x h (sym (f xs x h) ∙ e);
  loop_never_drains = s.loop_never_drains;
}

-- ---- a call as the rules are given it

module _ (p : Plan) where
  abbrev pub as_given : Bool → List ℕ → List ℕ → Request → Given ℕ
  as_given listed ps ls r = record { call = move_of r; fair = fair_to p listed ps ls; room = room_of r }

  abbrev pub given_of : Lent → Given ℕ
  given_of x = as_given x.listed x.positions x.leads x.request

  -- the rules' answer
  abbrev pub ruled : Scheduler ℕ Queue → Given ℕ → C.Answer ℕ Queue
  ruled s g = C.answer (supply_of p) (order_of p) (rules_of p) s g

  -- only a begin answers entries or a bound
  quiet : (s : Scheduler ℕ Queue) (g : Given ℕ) → (C.accepted (supply_of p) (order_of p) s g.call).entries ≡ []
      → (C.accepted (supply_of p) (order_of p) s g.call).bound ≡ 0 → ((ruled s g).entries ≡ []) × ((ruled s g).bound ≡ 0)
  unfolding C.answer
  quiet s g e b = go ((rules_of p).verdict s g).number
    where
      go : (k : ℕ) → (let a = C.answer_by (supply_of p) (order_of p) (rules_of p) k ((rules_of p).verdict s g).place s g in (a.entries ≡ []) × (a.bound ≡ 0))
      go zero = unfold C.refusals in (e, b)
      go (suc k) = (refl, refl)

  -- what is not fair is refused and changes nothing
  pub unfair : (s : Scheduler ℕ Queue) (g : Given ℕ) → g.fair ≡ false
      → ruled s g ≡ record { number = not_sound; place = 0; scheduler = s; entries = []; bound = 0 }
  unfolding C.refusals
  unfair s g e =
      answer_refused (supply_of p) (order_of p) (rules_of p) s g not_sound 0 (omega arith)
      (ap (λ (t : Bool). verdict (supply_of p) (order_of p) s t g.room g.call) e ∙ row_unfair (supply_of p) (order_of p) s g.room g.call)

  -- a call on a record answers what the rules answer to the scheduler s, but for the number of one that is not fair
  pub record RuledBy (s : Scheduler ℕ Queue) (a : Answered) (g : Given ℕ) : Type 0 where
    pub accepted : is_accepted a.number ≡ is_accepted (ruled s g).number
    pub number : g.fair ≡ true → a.number ≡ (ruled s g).number
    pub desk : a.desk ≡ desk_of p (ruled s g).scheduler
    pub entries : a.entries ≡ (ruled s g).entries
    pub bound : a.bound ≡ (ruled s g).bound

-- with the lead list: that of its view
pub listed_rules : (d : Desk) (ps ls : List ℕ) (r : Request) → RuledBy d.plan (view_of d) (answer_to d true ps ls r) (as_given d.plan true ps ls r)
unfolding answer_to join_desk leave_desk begin_desk end_desk answered answer_of C.accepted
listed_rules d ps ls (joins slot block film) =
    let q = quiet d.plan (view_of d) (as_given d.plan true ps ls (joins slot block film)) refl refl in
    record { accepted = refl; number = λ _. refl; desk = refl; entries = sym q.0; bound = sym q.1 }
listed_rules d ps ls (leaves slot) =
    let q = quiet d.plan (view_of d) (as_given d.plan true ps ls (leaves slot)) refl refl in
    record { accepted = refl; number = λ _. refl; desk = refl; entries = sym q.0; bound = sym q.1 }
listed_rules d ps ls (begins room) = record { accepted = refl; number = λ _. refl; desk = refl; entries = entries_in_law _; bound = refl }
listed_rules d ps ls (ends draws) =
    let q = quiet d.plan (view_of d) (as_given d.plan true ps ls (ends draws)) refl refl in
    record { accepted = refl; number = λ _. refl; desk = refl; entries = sym q.0; bound = sym q.1 }

-- with a scratch: that with the film's own leads
pub long_answer : (d : Desk) (ps s : List ℕ) (r : Request) → scratch_short s ≡ false → answer_to d true ps (desk_leads d) r ≡ answer_to d false ps s r
unfolding answer_to join_scratch leave_scratch begin_scratch end_scratch
long_answer d ps s (joins slot block film) e = rw e
long_answer d ps s (leaves slot) e = rw e
long_answer d ps s (begins room) e = rw e
long_answer d ps s (ends draws) e = rw e

-- with one that is too short: 13, and nothing changes
pub short_answer : (d : Desk) (ps s : List ℕ) (r : Request) → scratch_short s ≡ true
    → answer_to d false ps s r ≡ record { number = too_short; desk = d; entries = []; bound = 0 }
unfolding answer_to join_scratch leave_scratch begin_scratch end_scratch not_begun
short_answer d ps s (joins slot block film) e = rw e
short_answer d ps s (leaves slot) e = rw e
short_answer d ps s (begins room) e = rw e (λ t. record { number = too_short; desk = d; entries = entries_in_law [] t; bound = 0 })
short_answer d ps s (ends draws) e = rw e

-- and a begin the byte string that is lent for its fetches
pub fetches_kept : (d : Desk) (ps ls : List ℕ) (room : ℕ) (F : List ℕ) → ((begin_desk d ps ls room).verdict.number ≡ 0 → ⊥) → fetch_list_after d ps ls room F ≡ F
unfolding fetch_list_after entry_words with_words begin_desk answer_of
fetches_kept d ps ls room F n =
    let g : Given ℕ = record { call = begin; fair = is_plan d.plan ps ls; room = room } in
    let h : (ruled d.plan (view_of d) g).number ≡ 0 → ⊥ = n in
    let q = refused_changes_nothing (supply_of d.plan) (order_of d.plan) (rules_of d.plan) (record { scheduler = view_of d; ledger = [] }) g
    (omega arith) in
    ap (λ (es : List Entry). with_words F 0 (entry_words es)) q.1

-- ---- the same list for the rules

module _ (p : Plan) where
  abbrev pub State : Type 0
  State = C.State ℕ Queue

  -- a list of what the rules are given, as a caller would see it
  abbrev pub on_rules : Seen (Given ℕ)
  on_rules = record {
    desk = λ gs. desk_of p (K.state_after (supply_of p) (order_of p) gs).scheduler;
    book = λ gs. (K.state_after (supply_of p) (order_of p) gs).ledger;
    number = λ gs g. (K.answer_after (supply_of p) (order_of p) gs g).number;
    bound = λ gs g. (K.answer_after (supply_of p) (order_of p) gs g).bound;
    move = λ g. g.call;
    fair = λ g. g.fair;
    room = λ g. g.room;
  }

  -- the desk and the book are the rules' scheduler and ledger
  pub record Same (v : World) (u : State) : Type 0 where
    pub desk : v.desk ≡ desk_of p u.scheduler
    pub book : v.book ≡ u.ledger

  -- the list as it is seen, but for the rules' numbers
  abbrev pub numbered_by_rules : Seen Lent
  numbered_by_rules = record {
    desk = λ xs. (world_after p xs).desk;
    book = λ xs. (world_after p xs).book;
    number = λ xs x. (K.answer_after (supply_of p) (order_of p) (map (given_of p) xs) (given_of p x)).number;
    bound = λ xs x. (called (world_after p xs).desk x).bound;
    move = λ x. move_of x.request;
    fair = λ x. fair_to p x.listed x.positions x.leads;
    room = λ x. room_of x.request;
  }
