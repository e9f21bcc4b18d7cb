-- A slot after a sweep, and one turn of the loop over the slots.
-- Assumes nothing.
use Prim.Native.Nat.{ℕ, ◌+◌, ◌-◌, ◌≤◌, ◌<◌}
use mathlib.Core.Path.{◌≡◌, refl, sym, ap, ◌∙◌, subst}
use mathlib.Core.Logic.{by_cases}
use mathlib.Core.Bool.{Bool, true, false, cond, ◌&&◌}
use mathlib.Core.List.{List}
use native.Mathlib.Omega.{arith}
use native.Mathlib.Decide.{dec_lt}
use lib.ListN.{length, get_or, set}
use lib.Dec.{ltb, eqb}
use borrow.Author.Tests.{lt-ltb, ne_eqb}
use Rattle.laws.specs.Each.{each_at}
use Rattle.laws.specs.Indices.{each_of_all_from, each_from_at}
use Rattle.numbers.specs.Limits.{max_blocks}
use Rattle.numbers.specs.Slots.{free, filling, playing, draining}
use Rattle.numbers.specs.Showings.{loop_word, pairs_word}
use Rattle.card.specs.Card.{length_in}
use Rattle.placement.specs.CircleBest.{round_last, round_next}
use Rattle.placement.specs.Showing.{Showing, one, loop, pairs, after}
use Rattle.pacing.specs.Film.{is_past}
use Rattle.pacing.specs.Shelf.{name_of, film_in, block_in, film_of_name, block_of_name}
use Rattle.pacing.specs.Shown.{round_below}
use Rattle.plan.specs.Plan.{showing_of, showing_in}
use Rattle.plan.specs.Check.{shows_loop}
use Rattle.plan.specs.Names.{block_names}
use Rattle.rules.specs.Supply.{Supply}
use Rattle.rules.specs.Scheduler as S
use Rattle.rules.specs.Scheduler.{free_slot, at, leads, ended_slot, ended, most_drawn}
use Rattle.turns.specs.Facts.{Good, good_free}
use Rattle.rules.specs.Refusals.{draw_allowed, draw_held}
use Rattle.turns.specs.Slots.{fetched_full, fetched_other}
use Rattle.turns.specs.Turns.{ended_fetched, ended_last, ended_empty, ended_other, ended_to, ended_to_none, ended_to_at, ended_to_next, ended_to_rest}
use Rattle.turns.specs.Sweeps.{Drawable, drawable_of}
use Rattle.desk.specs.declared.Desk.{Desk}
use Rattle.desk.specs.Desk.{supply_of, slots_in, view_of}
use Rattle.desk.specs.View.{Wide}
use Rattle.desk.specs.Ready.{Ready, room_left}
use Rattle.desk.specs.Records.{record_of}
use Rattle.desk.specs.Slots.{with_slots, length_in_law, load_kind, load_next, load_held, store_slot, with_own}
use Rattle.ends.specs.declared.Slot.{Slot}
use Rattle.ends.specs.Ends.{Drawn, Continues, slot_in, Fair}

-- ---- the next block

-- before the last all showings go on alike
on : (x : Showing) (N b : ℕ) → b + 1 < N → after x N b ≡ b + 1
on one N b h = omega arith
on loop N b h = omega (arith, round_next N b (omega arith))
on pairs N b h = omega arith

past_last : (w N b : ℕ) → (w ≡ loop_word → ⊥) → after (showing_of w) N b ≡ b + 1
unfolding showing_of
past_last w N b n = rw (ne_eqb w loop_word n) (go (eqb w pairs_word))
  where
    go : (t : Bool) → after (cond t pairs one) N b ≡ b + 1
    go true = omega arith
    go false = omega arith

-- the name a of a slot, whose film has N blocks
module _ (N a : ℕ) (u : block_in a < N) (few : N ≤ max_blocks) where
  pub goes_on : (x : Showing) → block_in a + 1 < N → a + 1 ≡ name_of (film_in a) (after x N (block_in a))
  goes_on x h = omega (arith, on x N (block_in a) h)

  -- after the last a loop goes back, by the plan's word
  pub goes_round : (w : ℕ) → w ≡ loop_word → block_in a + 1 ≡ N → a - block_in a ≡ name_of (film_in a) (after (showing_of w) N (block_in a))
  goes_round w e h = rw (shows_loop w e) (omega (arith, round_last N (block_in a) (omega arith)))

  pub goes_past : (w : ℕ) → (w ≡ loop_word → ⊥) → a + 1 ≡ name_of (film_in a) (after (showing_of w) N (block_in a))
  goes_past w n = omega (arith, past_last w N (block_in a) n)

-- the block after one of N is at most N
after_few : (x : Showing) (N b : ℕ) → b < N → after x N b ≤ N
after_few one N b u = omega arith
after_few loop N b u = omega (arith, round_below N b u)
after_few pairs N b u = omega arith

-- in a loop the next block is never N
past_is : (x : Showing) (N b : ℕ) → b < N → is_past x N (after x N b) ≡ eqb (after x N b) N
past_is one N b u = refl
past_is pairs N b u = refl
past_is loop N b u = sym (ne_eqb _ N (λ e. omega (arith, round_below N b u)))

-- ---- one slot

module _ (p : Supply ℕ) (x : Showing) (N bytes room : ℕ) (s : Slot) (film : Continues p x s.next N bytes room) (draw : ℕ) (k : filling ≤ s.kind)
    (l : s.kind ≤ playing) where
  -- its buffer is too full
  pub swept_full : room < s.held → slot_in (record { kind = s.kind; next = s.next; held = s.held - draw }) ≡ ended_slot p (slot_in s) draw
  swept_full h = sym (ended_other p (slot_in s) draw (fetched_full p (slot_in s) (omega (arith, film.size, film.left))) (λ z. absurd (omega arith)))

  -- a block was fetched: b is the name of the next, and t tells whether it stands past the last
  module _ (h : s.held ≤ room) (u : block_in s.next < N) (b : ℕ) (q : b ≡ name_of (film_in s.next) (after x N (block_in s.next))) where
    follows : b ≡ p.next s.next
    follows = q ∙ sym film.next

    tells : (t : Bool) → eqb (block_in b) N ≡ t → p.is_end (p.next s.next) ≡ t
    tells t e = film.past u ∙ ap (λ (m : ℕ). eqb (block_in m) N) (sym follows) ∙ e

    gained : s.held - draw + bytes ≡ s.held - draw + p.B
    gained = ap (λ (m : ℕ). s.held - draw + m) (sym film.size)

    pub swept_last : eqb (block_in b) N ≡ true → slot_in (record { kind = draining; next = b; held = s.held - draw + bytes }) ≡ ended_slot p (slot_in s) draw
    swept_last e =
        (λ j. record { kind = draining; next = follows j; buffered = gained j })
        ∙ sym (ended_last p (slot_in s) draw k l (omega (arith, film.size, film.left)) (tells true e) film.some)

    pub swept_on : eqb (block_in b) N ≡ false → slot_in (record { kind = s.kind; next = b; held = s.held - draw + bytes }) ≡ ended_slot p (slot_in s) draw
    swept_on e =
        (λ j. record { kind = s.kind; next = follows j; buffered = gained j })
        ∙ sym (ended_fetched p (slot_in s) draw k l (omega (arith, film.size, film.left)) (tells false e))

module _ (p : Supply ℕ) (s : Slot) (draw : ℕ) where
  pub drained_empty : p.none ≡ 0 → s.kind ≡ draining → s.held ≡ draw → slot_in (record { kind = free; next = 0; held = 0 }) ≡ ended_slot p (slot_in s) draw
  drained_empty z k h = (λ j. record { kind = free; next = sym z j; buffered = 0 }) ∙ sym (ended_empty p (slot_in s) draw k (omega arith))

  pub drained_on : s.kind ≡ draining → draw < s.held → slot_in (record { kind = s.kind; next = s.next; held = s.held - draw }) ≡ ended_slot p (slot_in s) draw
  drained_on k h = sym (ended_other p (slot_in s) draw (fetched_other p (slot_in s) (λ a b. omega arith)) (λ _. h))

  -- a free or asked slot
  pub still : s.kind < filling → draw ≡ 0 → slot_in s ≡ ended_slot p (slot_in s) draw
  still k h =
      let n : s.held ≡ s.held - draw = omega arith in
      (λ j. record { kind = s.kind; next = s.next; buffered = n j })
      ∙ sym (ended_other p (slot_in s) draw (fetched_other p (slot_in s) (λ a b. omega arith)) (λ z. absurd (omega arith)))

-- ---- the loop

-- the first i slots are done
unfoldable pub ended_up_to : Desk → List ℕ → ℕ → Desk
ended_up_to d ds i = with_slots d (ended_to (supply_of d.plan) ds i (slots_in d))

pub ends_none : (d : Desk) → Wide d → (ds : List ℕ) → d ≡ ended_up_to d ds 0
unfolding ended_up_to
ends_none d w ds = with_own d w ∙ ap (with_slots d) (sym (ended_to_none (supply_of d.plan) ds (slots_in d)))

-- N of the film that a name names
abbrev pub own_length : Desk → ℕ → ℕ
own_length d a = length_in d.plan.figures (film_in a)

-- t is the name of block m of film i, which has N blocks
past_named : (x : Showing) (F : ℕ) (lengths : ℕ → ℕ) (i N m t : ℕ) → film_in t ≡ i → block_in t ≡ m → ltb i F ≡ true → lengths i ≡ N
    → is_past x N m ≡ eqb m N → (ltb (film_in t) F && is_past x (lengths (film_in t)) (block_in t)) ≡ eqb (block_in t) N
past_named x F lengths i N m t f g u l e = rw (f, g, u, l) e

module _ (d : Desk) (r : Ready d) (a : ℕ) where
  -- a film with blocks is one of the shelf
  pub some_film : 0 < own_length d a → film_in a < d.plan.figures.films
  some_film h = by_cases (dec_lt (film_in a) d.plan.figures.films) (λ l. l) (λ l. absurd (omega (arith, r.legal.idle (film_in a) (omega arith))))

  pub own_few : own_length d a ≤ max_blocks
  own_few = by_cases (dec_lt (film_in a) d.plan.figures.films)
      (λ l. (r.legal.blocks (film_in a) l).1)
      (λ l. omega (arith, r.legal.idle (film_in a) (omega arith)))

  past_of : block_in a < own_length d a → (supply_of d.plan).is_end ((supply_of d.plan).next a) ≡ eqb (block_in ((supply_of d.plan).next a)) (own_length d a)
  unfolding supply_of
  past_of u =
      let f = d.plan.figures in
      let x = showing_in d.plan in
      let N = own_length d a in
      let m = after x N (block_in a) in
      past_named x f.films (length_in f) (film_in a) N m (name_of (film_in a) m) (film_of_name (film_in a) m)
      (block_of_name (film_in a) m (omega (arith, after_few x N (block_in a) u, own_few)))
      (lt-ltb (film_in a) f.films (some_film (omega arith))) refl (past_is x N (block_in a) u)

  pub film_of_law : Continues (supply_of d.plan) (showing_in d.plan) a (own_length d a) d.plan.figures.bytes (d.plan.buffer - d.plan.figures.bytes)
  unfolding supply_of
  film_of_law = record {
    start = refl;
    next = refl;
    past = past_of;
    some = r.legal.bytes.0;
    size = refl;
    left = room_left d r;
  }

-- as many draws as streams
pub drawn_count : (d : Desk) (ds : List ℕ) → Drawn d ds → length ds ≡ d.plan.streams
unfolding supply_of
drawn_count d ds o = o.1

-- slot i of a record
abbrev pub slot_at : Desk → ℕ → Slot
slot_at e i = record { kind = get_or e.kinds i 0; next = get_or e.next i 0; held = get_or e.held i 0 }

module _ (d : Desk) (w : Wide d) (r : Ready d) (ds : List ℕ) (o : Drawn d ds) (i : ℕ) (l : i < 256) (e : Desk) (q : e ≡ ended_up_to d ds i) where
  -- slot i is as it was
  pub slot_now : at (supply_of d.plan) (slots_in d) i ≡ slot_in (slot_at e i)
  unfolding ended_up_to
  slot_now =
      let p = supply_of d.plan in
      let ts = ended_to p ds i (slots_in d) in
      sym (ended_to_at p ds i (slots_in d))
      ∙ λ j. record { kind = sym (load_kind d ts e q i) j; next = sym (load_next d ts e q i) j; buffered = sym (load_held d ts e q i) j }

  drawable : Drawable (supply_of d.plan) (most_drawn (supply_of d.plan) (slots_in d)) (at (supply_of d.plan) (slots_in d) i) (get_or ds i 0)
  unfolding view_of
  drawable =
      let p = supply_of d.plan in
      let m = most_drawn p (slots_in d) in
      let u : i < length (slots_in d) = omega (arith, length_in_law d w) in
      drawable_of p m ds i (at p (slots_in d) i)
      (each_from_at _ (free_slot p) (slots_in d) i (each_of_all_from (draw_allowed p m ds) 0 (slots_in d) o.2) u)
      (each_from_at _ (free_slot p) (slots_in d) i (each_of_all_from (draw_held p ds) 0 (slots_in d) o.3) u)

  good : Good (supply_of d.plan) (leads (supply_of d.plan) (slots_in d)) (at (supply_of d.plan) (slots_in d) i)
  unfolding view_of
  good = let p = supply_of d.plan in each_at (Good p (leads p (slots_in d))) (slots_in d) i (free_slot p) r.sound.slots (good_free p _)

  pub fair_now : Fair (own_length d (slot_at e i).next) (slot_at e i) (get_or ds i 0)
  unfolding supply_of
  fair_now =
      let k = ap (λ (s : S.Slot ℕ). s.kind) slot_now in
      let n = ap (λ (s : S.Slot ℕ). s.next) slot_now in
      let h = ap (λ (s : S.Slot ℕ). s.buffered) slot_now in
      record {
        drawn = omega (arith, drawable.held, h);
        none = λ z. drawable.still (omega (arith, k));
        kinds = omega (arith, good.kinds, k);
        named = λ a b. subst (λ (y : ℕ). block_in y < own_length d y) n
            (block_names (showing_in d.plan) d.plan.figures _ (good.named (omega (arith, k)) (omega (arith, k)))).1;
        few = own_few d r (slot_at e i).next;
      }

  -- one slot more
  pub ends_turn : (draw : ℕ) → draw ≡ get_or ds i 0 → (after : Slot)
      → ((p : Supply ℕ) → Continues p (showing_in d.plan) (slot_at e i).next (own_length d (slot_at e i).next) d.plan.figures.bytes
      (d.plan.buffer - d.plan.figures.bytes) → slot_in after ≡ ended_slot p (slot_in (slot_at e i)) draw)
      → record_of e.plan e.phase (set e.kinds i after.kind) (set e.next i after.next) (set e.held i after.held) e.places
      ≡ ended_up_to d ds (i + 1)
  unfolding ended_up_to
  ends_turn draw g after h =
      let p = supply_of d.plan in
      let v = slot_in after in
      let u : ended_slot p (at p (slots_in d) i) (get_or ds i 0) ≡ v =
      ap (ended_slot p (at p (slots_in d) i)) (sym g) ∙ ap (λ (s : S.Slot ℕ). ended_slot p s draw) slot_now ∙ sym (h p (film_of_law d r (slot_at e i).next))
      in
      store_slot d (ended_to p ds i (slots_in d)) e q i v
      ∙ ap (with_slots d) (ended_to_next p ds i (slots_in d) v (omega (arith, length_in_law d w)) u)

-- the slots from n on stay
pub ends_all : (d : Desk) → Ready d → (ds : List ℕ) → Drawn d ds → (e : Desk) → e ≡ ended_up_to d ds d.plan.streams
    → e ≡ with_slots d (ended (supply_of d.plan) (slots_in d) ds)
unfolding ended_up_to view_of supply_of
ends_all d r ds o e q =
    q ∙ ap (with_slots d) (ended_to_rest (supply_of d.plan) ds d.plan.streams (slots_in d) r.sound.unused (omega (arith, o.1)))
