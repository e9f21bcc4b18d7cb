-- Laws of what specs/FetchLaws defines.
use Prim.Native.Nat.{ℕ, zero, ◌+◌, ◌*◌, ◌-◌, ◌≤◌, ◌<◌}
use Rattle.std.specs.Prelude.{◌≡◌, ◌⊎◌, ◌||◌, length, get_or}
use Rattle.std.proofs.Math.Path.{refl, sym, ap, subst}
use Rattle.std.proofs.Common.{◌∙◌}
use Rattle.std.proofs.Math.Logic.{inl, inr}
use Rattle.std.proofs.Math.Bool.{Bool, true}
use mathlib.Core.List.{List, ◌∷◌}
use native.Mathlib.Omega.{arith}
use Rattle.std.proofs.Math.Dec.{eqb}
use borrow.Author.Tests.{leb-true, le-leb, eqb-true}
use Rattle.laws.specs.Bools.{and_left, and_right, and_both, or_cases}
use Rattle.laws.specs.Each.{each_at, both_at}
use Rattle.numbers.specs.Slots.{filling, playing}
use Rattle.card.specs.Card.{total_positions, length_in, blocks_of}
use Rattle.legality.specs.Room.{fault_room}
use Rattle.placement.specs.Showing.{one, visits_of, laying, first_place, other_places}
use Rattle.placement.proofs.Shelf.{film_room}
use Rattle.pacing.specs.Shelf.{film_in, block_in}
use Rattle.plan.specs.declared.Plan.{Plan}
use Rattle.plan.specs.Plan.{showing_in, free_in, position_in}
use Rattle.plan.proofs.Check.{checked}
use Rattle.plan.specs.Names.{Named}
use Rattle.rules.specs.Scheduler.{Entry, begin, free_slot, at, leads, reads, is_fetched, entries}
use Rattle.rules.specs.Order.{Scheduler}
use Rattle.turns.specs.Facts.{Good, good_free, sound_says}
use Rattle.turns.specs.Orderly.{Kept, kept_refl}
use Rattle.turns.specs.Slots.{fetched_kind}
use Rattle.turns.specs.Verdicts.{accepted_was_sound}
use Rattle.rules.specs.Calls.{Given}
use Rattle.turns.specs.Answers.{verdict_zero, answer_accepted}
use Rattle.desk.specs.declared.Desk.{Desk}
use Rattle.desk.specs.Desk.{visits_in, supply_of, order_of, rules_of, Queue, view_of, desk_of, answer_of, begin_desk}
use Rattle.desk.specs.Promise.{supply_named, order_orderly}
use Rattle.desk.specs.Entries.{entries_in, entries_in_law}
use Rattle.trace.specs.SlotLaws.{kind_at, held_at, next_at_law}
use Rattle.trace.specs.Opening.{fair_of}
use Rattle.trace.specs.Answers.{NeedsBlock, place_of, Fetched}
use Rattle.trace.specs.FetchLaws.{Apart, places_apart, each_entry, only_entry, entry_order, places_count, places_at_law, below, given as given_in_specs}
use Rattle.rules.specs.Calls as C

-- ---- a begin

module _ (q : Plan) (s : Scheduler ℕ Queue) where
  needs_fetched : (i : ℕ) → NeedsBlock (desk_of q s) i → is_fetched (supply_of q) (at (supply_of q) s.slots i) ≡ true
  unfolding is_fetched reads desk_of supply_of
  needs_fetched i (k, h) =
      let x = at (supply_of q) s.slots i in
      and_both (kind k) (le-leb (x.buffered + q.figures.bytes) q.buffer (omega (arith, held_at q s i)))
    where
      kind : (get_or (desk_of q s).kinds i 0 ≡ filling) ⊎ (get_or (desk_of q s).kinds i 0 ≡ playing)
          → (eqb (at (supply_of q) s.slots i).kind filling || eqb (at (supply_of q) s.slots i).kind playing) ≡ true
      kind (inl e) = rw (sym (kind_at q s i) ∙ e)
      kind (inr e) = rw (sym (kind_at q s i) ∙ e)

  fetched_needs : (i : ℕ) → is_fetched (supply_of q) (at (supply_of q) s.slots i) ≡ true → NeedsBlock (desk_of q s) i
  unfolding is_fetched reads desk_of supply_of
  fetched_needs i e =
      let x = at (supply_of q) s.slots i in
      let r : Bool = eqb x.kind filling || eqb x.kind playing in (
        kind (or_cases (eqb x.kind filling) _ (and_left r _ e)),
        omega (arith, held_at q s i, leb-true (x.buffered + q.figures.bytes) q.buffer (and_right r _ e)),
      )
    where
      kind : (eqb (at (supply_of q) s.slots i).kind filling ≡ true) ⊎ (eqb (at (supply_of q) s.slots i).kind playing ≡ true)
          → (get_or (desk_of q s).kinds i 0 ≡ filling) ⊎ (get_or (desk_of q s).kinds i 0 ≡ playing)
      kind (inl t) = inl (kind_at q s i ∙ eqb-true (at (supply_of q) s.slots i).kind filling t)
      kind (inr t) = inr (kind_at q s i ∙ eqb-true (at (supply_of q) s.slots i).kind playing t)

  -- the plan has room for the films, and slots that are fetched for read a block of one
  module _ (room : visits_in q * blocks_of q.figures ≤ total_positions q.figures) (named : (i : ℕ) → is_fetched (supply_of q) (at (supply_of q) s.slots i) ≡ true
      → Named q.figures (at (supply_of q) s.slots i).next) where
    -- the visits to the block of name a are at different positions
    named_apart : (a : ℕ) → Named q.figures a
        → Apart (first_place (showing_in q) (position_in (showing_in q) q.figures (film_in a)) (block_in a)
        ∷ other_places (showing_in q) (position_in (showing_in q) q.figures (film_in a)) (block_in a))
    named_apart a n =
        let x = showing_in q in
        let f = q.figures in
        places_apart x (free_in x f (film_in a)) (length_in f (film_in a)) (block_in a)
        (film_room x (total_positions f) (length_in f) f.films room (film_in a) n.0) n.1

    slots_fetched : Fetched (desk_of q s) (entries (supply_of q) s.slots)
    unfolding supply_of desk_of
    slots_fetched =
        let x = showing_in q in
        let f = q.figures in
        record {
          each = λ i h v u. let a = (at (supply_of q) s.slots i).next in
              let l = position_in x f (film_in a) in
              let (k, m, e) = each_entry (supply_of q) s.slots i v (needs_fetched i h) (omega (arith, places_count l (block_in a) x)) in (
                k,
                m,
                ap (λ (x : Entry). x.slot) e,
                ap (λ (x : Entry). x.position) e ∙ places_at_law l (block_in a) x v u
                    ∙ ap (λ (a : ℕ). place_of q a v) (sym (next_at_law q s i)),
              );
          only = λ k m. let (i, h, (v, u, e)) = only_entry (supply_of q) s.slots k m in
              let a = (at (supply_of q) s.slots i).next in
              let l = position_in x f (film_in a) in
              let w : v < visits_of x = omega (arith, places_count l (block_in a) x) in
              subst (λ (e : Entry). NeedsBlock (desk_of q s) e.slot × (e.block ≡ block_in (get_or (desk_of q s).next e.slot 0))
              × ((v : ℕ) × (v < visits_of x) × (e.position ≡ place_of q (get_or (desk_of q s).next e.slot 0) v)))
              (sym e) (
                fetched_needs i h,
                ap block_in (sym (next_at_law q s i)),
                (v, w, places_at_law l (block_in a) x v w ∙ ap (λ (a : ℕ). place_of q a v) (sym (next_at_law q s i))),
              );
          order = entry_order (supply_of q) s.slots (λ j h. named_apart _ (named j h));
        }

module _ (d : Desk) (ps ls : List ℕ) (room : ℕ) (n : (begin_desk d ps ls room).verdict.number ≡ 0) where
  abbrev given : Given ℕ
  given = given_in_specs d ps ls room n

  judged : ((rules_of d.plan).verdict (view_of d) given).number ≡ 0
  unfolding begin_desk answer_of
  judged = verdict_zero (supply_of d.plan) (order_of d.plan) (rules_of d.plan) (view_of d) given n

  accepted : answer_of d ps ls room begin ≡ C.accepted (supply_of d.plan) (order_of d.plan) (view_of d) begin
  unfolding answer_of C.refusals
  accepted = answer_accepted (supply_of d.plan) (order_of d.plan) (rules_of d.plan) (view_of d) given judged

  begin_entries : (answer_of d ps ls room begin).entries ≡ entries (supply_of d.plan) (answer_of d ps ls room begin).scheduler.slots
  unfolding C.accepted
  begin_entries =
      ap (λ (x : C.Answer ℕ Queue). x.entries) accepted ∙ sym (ap (λ (x : C.Answer ℕ Queue). entries (supply_of d.plan) x.scheduler.slots) accepted)

  -- the plan passed the check, so there is room for the films
  begin_room : visits_in d.plan * blocks_of d.plan.figures ≤ total_positions d.plan.figures
  begin_room = fault_room (visits_in d.plan) d.plan.figures (checked d.plan ps ls (fair_of d.plan (view_of d) given judged)).clear

  -- and the record was sound; a begin moves no slot's next block
  begin_named : (i : ℕ) → (let p = supply_of d.plan in
      let s = at p (answer_of d ps ls room begin).scheduler.slots i in
      is_fetched p s ≡ true → Named d.plan.figures s.next)
  unfolding C.accepted C.refusals
  begin_named i =
      let p = supply_of d.plan in
      let o = order_of d.plan in
      let ss = (view_of d).slots in
      let ts = (o.begins (view_of d).queue ss).slots in
      let sound = sound_says p (supply_named d.plan) o (view_of d) (accepted_was_sound p (supply_named d.plan) o (view_of d) _ room begin judged) in
      let kept = ((order_orderly d.plan).began (view_of d).queue ss sound.slots).kept in
      let k = both_at Kept ss ts i (free_slot p) (free_slot p) kept (kept_refl (free_slot p)) in
      let g = each_at (Good p (leads p ss)) ss i (free_slot p) sound.slots (good_free p (leads p ss)) in
      rw accepted (λ f. let now = fetched_kind p (at p ts i) f in
      below d.plan _ _ k.next (g.named (omega (arith, k.occupied, now)) (omega (arith, k.rises, now))))

  -- THE FETCHES OF AN ACCEPTED BEGIN
  pub begin_fetched : Fetched (begin_desk d ps ls room).desk (entries_in (begin_desk d ps ls room).fetches)
  unfolding begin_desk
  begin_fetched =
      let a = answer_of d ps ls room begin in
      subst (λ (es : List Entry). Fetched (desk_of d.plan a.scheduler) es) (sym (entries_in_law a.entries ∙ begin_entries))
      (slots_fetched d.plan a.scheduler begin_room begin_named)
