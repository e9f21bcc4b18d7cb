-- The scheduler's definitions in the words of loops over the slots: for each the start, one turn at slot i and the end, and what a slot
-- comes to by its numbers.
-- Assumes nothing.
use Prim.Native.Nat.{ℕ, zero, suc, ◌+◌, ◌-◌, ◌*◌, ◌≤◌, ◌<◌, min}
use Rattle.std.specs.Prelude.{◌≡◌, ◌≢◌, Bool, ◌&&◌, length, get_or, set, take}
use Rattle.std.proofs.Math.Path.{refl, sym, ap}
use Rattle.std.proofs.Common.{◌∙◌, add-one}
use Rattle.std.proofs.Math.Logic.{by_cases}
use Rattle.std.proofs.Math.Bool.{true, false, cond}
use mathlib.Core.List.{List, [], ◌∷◌}
use native.Mathlib.Omega.{arith}
use Rattle.std.proofs.Math.Decide.{dec_lt}
use Rattle.std.proofs.Math.ListN.{get_or-map, get_or-eq_default}
use Rattle.std.proofs.Math.Dec.{leb, eqb}
use borrow.Author.Tests.{leb-true, eqb-true, eq-eqb, ne_eqb, le-leb, lt-leb}
use Rattle.laws.specs.Bools.{bit, implies, is_false, bool_ext, and_left, and_right, and_both}
use Rattle.laws.specs.Map.{map_to, map_to_none, get_d_map_to, map_to_store}
use Rattle.laws.specs.Runs.{sum_by, all_by}
use Rattle.laws.specs.Sums.{sum_none, sum_next, sum_rest}
use Rattle.laws.specs.Each.{each_at, each_by}
use Rattle.laws.specs.Indices.{map_from_at, map_from_map, map_to_rest, all_from, lowest_from, all_passed, first_failed}
use Rattle.numbers.specs.Units.{parts}
use Rattle.rules.specs.Supply.{Supply, Named}
use Rattle.numbers.specs.Slots.{free, waiting, filling, playing, draining}
use Rattle.rules.specs.Scheduler.{Slot, free_slot, at}
use Rattle.rules.specs.Scheduler.{lead_of, leads, holds, playing_slot, filling_slot, start_by, started_slot, started, players_hold}
use Rattle.rules.specs.Scheduler.{granted, is_fetched, time_of, times, fetch_count}
use Rattle.rules.specs.Scheduler.{swept_by, release_by, released, ended_slot, ended, draw_limit}
use Rattle.rules.specs.Order.{Scheduler, Order}
use Rattle.rules.specs.Sound.{sound_slot, sound}
use Rattle.turns.specs.Facts.{Good, good_free, FreeFrom, Sound, good_of_sound, sound_says, says_sound}
use Rattle.rules.specs.Refusals.{draw_allowed, draw_held}
use Rattle.turns.specs.Slots.{reading_lead, other_lead, fetched_yes, fetched_other, fetched_time, unfetched_time, holds_yes, holds_no}

module _ {A : Type 0} (p : Supply A) where
  -- ---- leads, times and count: added up from slot 0

  module _ (ss : List (Slot A)) where
    pub leads_none : leads p (take 0 ss) ≡ 0
    unfolding leads
    leads_none = sum_none (lead_of p) ss

    pub leads_next_law : (i : ℕ) → i < length ss → 2 ≤ (at p ss i).kind → (at p ss i).kind ≤ 3
        → leads p (take (i + 1) ss) ≡ leads p (take i ss) + p.lead (at p ss i).next
    unfolding leads
    leads_next_law i h k l = omega (arith, sum_next (lead_of p) (free_slot p) ss i h, reading_lead p (at p ss i) k l)

    pub leads_skip : (i : ℕ) → i < length ss → (2 ≤ (at p ss i).kind → (at p ss i).kind ≤ 3 → ⊥) → leads p (take (i + 1) ss) ≡ leads p (take i ss)
    unfolding leads
    leads_skip i h k = omega (arith, sum_next (lead_of p) (free_slot p) ss i h, other_lead p (at p ss i) k)

    pub times_none : times p (take 0 ss) ≡ 0
    unfolding times
    times_none = sum_none (time_of p) ss

    pub times_next : (i : ℕ) → i < length ss → is_fetched p (at p ss i) ≡ true → times p (take (i + 1) ss) ≡ times p (take i ss) + p.time (at p ss i).next
    unfolding times
    times_next i h e = omega (arith, sum_next (time_of p) (free_slot p) ss i h, fetched_time p (at p ss i) e)

    pub times_skip : (i : ℕ) → i < length ss → is_fetched p (at p ss i) ≡ false → times p (take (i + 1) ss) ≡ times p (take i ss)
    unfolding times
    times_skip i h e = omega (arith, sum_next (time_of p) (free_slot p) ss i h, unfetched_time p (at p ss i) e)

    abbrev one : Slot A → ℕ
    one s = bit (is_fetched p s)

    pub fetches_none : fetch_count p (take 0 ss) ≡ 0
    unfolding fetch_count
    fetches_none = sum_none one ss

  -- ---- every playing slot holds the mark

  -- the least that a playing slot holds, top where none plays
  unfoldable pub least_held : ℕ → List (Slot A) → ℕ
  least_held top [] = top
  least_held top (s ∷ ss) = cond (eqb s.kind playing) (min s.buffered (least_held top ss)) (least_held top ss)

  pub least_none : (top : ℕ) (ss : List (Slot A)) → least_held top (take 0 ss) ≡ top
  unfolding least_held
  least_none top ss = refl

  least_turn : (top : ℕ) (ss : List (Slot A)) (i : ℕ) → i < length ss
      → least_held top (take (suc i) ss) ≡ cond (eqb (at p ss i).kind playing) (min (least_held top (take i ss)) (at p ss i).buffered)
      (least_held top (take i ss))
  unfolding least_held
  least_turn top [] i l = absurd (omega arith)
  least_turn top (s ∷ ss) zero l = go (eqb s.kind playing)
    where
      go : (t : Bool) → cond t (min s.buffered top) top ≡ cond t (min top s.buffered) top
      go true = omega arith
      go false = refl
  least_turn top (s ∷ ss) (suc i) l =
      rw (least_turn top ss i (omega arith)) (go (eqb s.kind playing) (eqb (at p ss i).kind playing) (least_held top (take i ss)) (at p ss i).buffered)
    where
      go : (t x : Bool) (r h : ℕ) → cond t (min s.buffered (cond x (min r h) r)) (cond x (min r h) r) ≡ cond x
          (min (cond t (min s.buffered r) r) h) (cond t (min s.buffered r) r)
      go true true r h = omega arith
      go true false r h = refl
      go false true r h = refl
      go false false r h = refl

  pub least_next : (top : ℕ) (ss : List (Slot A)) (i : ℕ) → i < length ss → (at p ss i).kind ≡ playing
      → least_held top (take (i + 1) ss) ≡ min (least_held top (take i ss)) (at p ss i).buffered
  least_next top ss i l k =
      ap (λ (m : ℕ). least_held top (take m ss)) (add-one i) ∙ least_turn top ss i l
      ∙ ap (λ (t : Bool). cond t (min (least_held top (take i ss)) (at p ss i).buffered) (least_held top (take i ss))) (eq-eqb (at p ss i).kind playing k)

  pub least_skip : (top : ℕ) (ss : List (Slot A)) (i : ℕ) → i < length ss → (at p ss i).kind ≢ playing
      → least_held top (take (i + 1) ss) ≡ least_held top (take i ss)
  least_skip top ss i l k =
      ap (λ (m : ℕ). least_held top (take m ss)) (add-one i) ∙ least_turn top ss i l
      ∙ ap (λ (t : Bool). cond t (min (least_held top (take i ss)) (at p ss i).buffered) (least_held top (take i ss))) (ne_eqb (at p ss i).kind playing k)

  -- every playing slot holds x where the least does
  pub least_holds : (top x : ℕ) (ss : List (Slot A)) → x ≤ parts * top → players_hold p x ss ≡ leb x (parts * least_held top ss)
  unfolding players_hold all_by least_held holds
  least_holds top x [] h = sym (le-leb x (parts * top) h)
  least_holds top x (s ∷ ss) h = rw (least_holds top x ss h) (go (eqb s.kind playing) (least_held top ss))
    where
      both : (a b : ℕ) → (leb x (parts * a) && leb x (parts * b)) ≡ leb x (parts * min a b)
      both a b =
          bool_ext (leb x (parts * a) && leb x (parts * b)) (leb x (parts * min a b))
          (λ e. le-leb x (parts * min a b) (omega (
            arith,
            leb-true x (parts * a) (and_left (leb x (parts * a)) _ e),
            leb-true x (parts * b) (and_right (leb x (parts * a)) _ e),
          )))
          (λ e. let l = leb-true x (parts * min a b) e in and_both (le-leb x (parts * a) (omega arith)) (le-leb x (parts * b) (omega arith)))

      go : (t : Bool) (r : ℕ) → (implies t (leb x (parts * s.buffered)) && leb x (parts * r)) ≡ leb x (parts * cond t (min s.buffered r) r)
      go true r = both s.buffered r
      go false r = refl

  -- ---- where the slots from m on are free, the loops above may stop at m

  module _ (m : ℕ) (ss : List (Slot A)) (u : FreeFrom p m ss) where
    pub leads_rest : leads p (take m ss) ≡ leads p ss
    unfolding leads
    leads_rest = sum_rest (lead_of p) (free_slot p) m ss (λ j l h. other_lead p (at p ss j) (λ a b. omega (arith, u j l)))

    pub times_rest : times p (take m ss) ≡ times p ss
    unfolding times
    times_rest = sum_rest (time_of p) (free_slot p) m ss (λ j l h. unfetched_time p (at p ss j) (fetched_other p (at p ss j) (λ a b. omega (arith, u j l))))

    pub fetches_rest : fetch_count p (take m ss) ≡ fetch_count p ss
    unfolding fetch_count
    fetches_rest = sum_rest (λ s. bit (is_fetched p s)) (free_slot p) m ss (λ j l h. ap bit (fetched_other p (at p ss j) (λ a b. omega (arith, u j l))))

  pub least_rest : (top m : ℕ) (ss : List (Slot A)) → FreeFrom p m ss → least_held top (take m ss) ≡ least_held top ss
  unfolding least_held
  least_rest top zero [] u = refl
  least_rest top (suc m) [] u = refl
  least_rest top zero (s ∷ ss) u = rw (u 0 (omega arith)) (least_rest top zero ss (λ i l. u (suc i) (omega arith)))
  least_rest top (suc m) (s ∷ ss) u =
      ap (λ (r : ℕ). cond (eqb s.kind playing) (min s.buffered r) r) (least_rest top m ss (λ i l. u (suc i) (omega arith)))

  -- ---- begin: filling slots start to play, x being the mark

  pub starts_playing : (x : ℕ) (s : Slot A) → s.kind ≡ filling → x ≤ parts * s.buffered
      → started_slot p x s ≡ playing_slot p s
  unfolding started_slot
  starts_playing x s k h = rw (eq-eqb s.kind filling k, holds_yes p x s h)

  pub starts_not : (x : ℕ) (s : Slot A) → (s.kind ≡ filling → parts * s.buffered < x) → started_slot p x s ≡ s
  unfolding started_slot
  starts_not x s h = go (eqb s.kind filling) refl
    where
      go : (t : Bool) → eqb s.kind filling ≡ t → start_by p (t && holds p x s) s ≡ s
      go true e = rw (holds_no p x s (h (eqb-true s.kind filling e)))
      go false e = refl

  -- the first i slots are done
  unfoldable pub started_to : ℕ → ℕ → List (Slot A) → List (Slot A)
  started_to x i ss = map_to (λ j s. started_slot p x s) 0 i ss

  pub started_to_none : (x : ℕ) (ss : List (Slot A)) → started_to x 0 ss ≡ ss
  unfolding started_to
  started_to_none x ss = map_to_none (λ j s. started_slot p x s) 0 ss

  -- the loop may stop where the slots from i on are free
  pub started_to_rest : (x i : ℕ) (ss : List (Slot A)) → FreeFrom p i ss → started_to x i ss ≡ started p x ss
  unfolding started_to started
  started_to_rest x i ss u =
      map_to_rest (λ j s. started_slot p x s) (free_slot p) i ss (λ j l h. starts_not x (at p ss j) (λ k. absurd (omega (arith, u j l))))
      ∙ map_from_map (started_slot p x) 0 ss

  pub started_at : (x : ℕ) (ss : List (Slot A)) (i : ℕ) → at p (started p x ss) i ≡ started_slot p x (at p ss i)
  unfolding started started_slot
  started_at x ss i = get_or-map (started_slot p x) ss i (free_slot p)

  -- their leads counted before
  started_lead : (x : ℕ) (s : Slot A) → lead_of p (started_slot p x s) ≡ lead_of p s
  unfolding started_slot
  started_lead x s = go (eqb s.kind filling && holds p x s) refl
    where
      go : (t : Bool) → (eqb s.kind filling && holds p x s) ≡ t → lead_of p (start_by p t s) ≡ lead_of p s
      go true e =
          let k = eqb-true s.kind filling (and_left (eqb s.kind filling) _ e) in
          reading_lead p (start_by p true s) (omega arith) (omega arith) ∙ sym (reading_lead p s (omega arith) (omega arith))
      go false e = refl

  pub started_leads : (x : ℕ) (ss : List (Slot A)) → leads p (started p x ss) ≡ leads p ss
  unfolding started leads sum_by
  started_leads x [] = refl
  started_leads x (s ∷ ss) = omega (arith, started_lead x s, started_leads x ss)

  -- ---- begin: an asked slot is granted

  -- the lead of one that is granted joins the others
  pub granted_leads : (ss : List (Slot A)) (i : ℕ) → (at p ss i).kind ≡ waiting → leads p (granted p ss i) ≡ leads p ss + p.lead (at p ss i).next
  unfolding leads sum_by granted
  granted_leads [] i k = absurd (omega arith)
  granted_leads (s ∷ ss) zero k =
      omega (arith, other_lead p s (λ a b. omega arith), reading_lead p (filling_slot p s) (omega arith) (omega arith))
  granted_leads (s ∷ ss) (suc i) k = omega (arith, granted_leads ss i k)

  -- granting changes no playing slot, so the test and the least may be taken before the loop
  pub granted_players : (x : ℕ) (ss : List (Slot A)) (i : ℕ) → (at p ss i).kind ≡ waiting → players_hold p x (granted p ss i) ≡ players_hold p x ss
  unfolding players_hold all_by granted
  granted_players x [] i k = refl
  granted_players x (s ∷ ss) zero k = rw k
  granted_players x (s ∷ ss) (suc i) k = ap (λ (t : Bool). implies (eqb s.kind playing) (holds p x s) && t) (granted_players x ss i k)

  -- ---- end

  pub ended_at : (ss : List (Slot A)) (ds : List ℕ) (i : ℕ) → i < length ss → at p (ended p ss ds) i ≡ ended_slot p (at p ss i) (get_or ds i 0)
  unfolding ended
  ended_at ss ds i l = map_from_at (λ j s. ended_slot p s (get_or ds j 0)) ss i (free_slot p) l

  -- a slot that was fetched for, with a block left or none
  pub ended_fetched : (s : Slot A) (d : ℕ) → 2 ≤ s.kind → s.kind ≤ 3 → s.buffered + p.B ≤ p.buffer → p.is_end (p.next s.next) ≡ false
      → ended_slot p s d ≡ record { kind = s.kind; next = p.next s.next; buffered = s.buffered - d + p.B }
  unfolding ended_slot swept_by released
  ended_fetched s d k l r e = rw (fetched_yes p s k l r, e, ne_eqb s.kind draining (λ z. omega arith))

  pub ended_last : (s : Slot A) (d : ℕ) → 2 ≤ s.kind → s.kind ≤ 3 → s.buffered + p.B ≤ p.buffer → p.is_end (p.next s.next) ≡ true → 0 < p.B
      → ended_slot p s d ≡ record { kind = draining; next = p.next s.next; buffered = s.buffered - d + p.B }
  unfolding ended_slot swept_by released
  ended_last s d k l r e h = rw (fetched_yes p s k l r, e, ne_eqb (s.buffered - d + p.B) 0 (λ z. omega arith))

  -- one that was not: a tail that comes to 0, and any other
  pub ended_empty : (s : Slot A) (d : ℕ) → s.kind ≡ draining → s.buffered ≤ d → ended_slot p s d ≡ free_slot p
  unfolding ended_slot swept_by released
  ended_empty s d k h = let z : s.buffered - d ≡ 0 = omega arith in rw (fetched_other p s (λ a b. omega arith), k, z)

  pub ended_other : (s : Slot A) (d : ℕ) → is_fetched p s ≡ false → (s.kind ≡ draining → d < s.buffered)
      → ended_slot p s d ≡ record { kind = s.kind; next = s.next; buffered = s.buffered - d }
  unfolding ended_slot swept_by released
  ended_other s d f h = rw f (go (eqb s.kind draining) refl)
    where
      t : Slot A
      t = record { kind = s.kind; next = s.next; buffered = s.buffered - d }

      go : (x : Bool) → eqb s.kind draining ≡ x → release_by p (x && eqb (s.buffered - d) 0) t ≡ t
      go true e = rw (ne_eqb (s.buffered - d) 0 (λ z. omega (arith, h (eqb-true s.kind draining e))))
      go false e = refl

  -- a free slot with no draw stays as it is
  pub ended_free : (s : Slot A) → s.kind ≡ free → ended_slot p s 0 ≡ s
  ended_free s k = ended_other s 0 (fetched_other p s (λ a b. omega arith)) (λ z. absurd (omega arith))
      ∙ λ i. record { kind = s.kind; next = s.next; buffered = whole i }
    where
      whole : s.buffered - 0 ≡ s.buffered
      whole = omega arith

  -- the first i slots are done
  unfoldable pub ended_to : List ℕ → ℕ → List (Slot A) → List (Slot A)
  ended_to ds i ss = map_to (λ j s. ended_slot p s (get_or ds j 0)) 0 i ss

  pub ended_to_none : (ds : List ℕ) (ss : List (Slot A)) → ended_to ds 0 ss ≡ ss
  unfolding ended_to
  ended_to_none ds ss = map_to_none (λ j s. ended_slot p s (get_or ds j 0)) 0 ss

  -- slot i is still as it was
  pub ended_to_at : (ds : List ℕ) (i : ℕ) (ss : List (Slot A)) → at p (ended_to ds i ss) i ≡ at p ss i
  unfolding ended_to
  ended_to_at ds i ss = get_d_map_to (λ j s. ended_slot p s (get_or ds j 0)) 0 i ss (free_slot p)

  -- v is what the laws above say of slot i
  pub ended_to_next : (ds : List ℕ) (i : ℕ) (ss : List (Slot A)) (v : Slot A) → i < length ss → ended_slot p (at p ss i) (get_or ds i 0) ≡ v
      → set (ended_to ds i ss) i v ≡ ended_to ds (i + 1) ss
  unfolding ended_to
  ended_to_next ds i ss v l e = map_to_store (λ j s. ended_slot p s (get_or ds j 0)) i ss (free_slot p) v l (sym e)

  -- the loop may stop where the slots from i on are free and without a draw
  pub ended_to_rest : (ds : List ℕ) (i : ℕ) (ss : List (Slot A)) → FreeFrom p i ss → length ds ≤ i → ended_to ds i ss ≡ ended p ss ds
  unfolding ended_to ended
  ended_to_rest ds i ss u l =
      map_to_rest (λ j s. ended_slot p s (get_or ds j 0)) (free_slot p) i ss
      (λ j m h. ap (ended_slot p (at p ss j)) (get_or-eq_default ds 0 {n = j} (omega arith)) ∙ ended_free (at p ss j) (u j m))

  -- ---- draws

  pub allowed_yes : (m : ℕ) (ds : List ℕ) (i : ℕ) (s : Slot A) → get_or ds i 0 ≤ draw_limit p m s → draw_allowed p m ds i s ≡ true
  unfolding draw_allowed
  allowed_yes m ds i s h = le-leb (get_or ds i 0) (draw_limit p m s) h

  pub allowed_no : (m : ℕ) (ds : List ℕ) (i : ℕ) (s : Slot A) → draw_limit p m s < get_or ds i 0 → draw_allowed p m ds i s ≡ false
  unfolding draw_allowed
  allowed_no m ds i s h = lt-leb (get_or ds i 0) (draw_limit p m s) h

  pub held_yes : (ds : List ℕ) (i : ℕ) (s : Slot A) → get_or ds i 0 ≤ s.buffered → draw_held p ds i s ≡ true
  unfolding draw_held
  held_yes ds i s h = le-leb (get_or ds i 0) s.buffered h

  pub held_no : (ds : List ℕ) (i : ℕ) (s : Slot A) → s.buffered < get_or ds i 0 → draw_held p ds i s ≡ false
  unfolding draw_held
  held_no ds i s h = lt-leb (get_or ds i 0) s.buffered h

  -- the loop over the draws, to its end or to the first that fails; past the last draw all pass
  module _ (ss : List (Slot A)) (ds : List ℕ) (m : ℕ) where
    past_draw : (j : ℕ) → length ds ≤ j → get_or ds j 0 ≡ 0
    past_draw j l = get_or-eq_default ds 0 l

    pub draws_allowed : ((j : ℕ) → j < length ds → get_or ds j 0 ≤ draw_limit p m (at p ss j)) → all_from (draw_allowed p m ds) 0 ss ≡ true
    draws_allowed h =
        all_passed (draw_allowed p m ds) (free_slot p) ss
        (λ j l. allowed_yes m ds j (at p ss j) (by_cases (dec_lt j (length ds)) (λ u. h j u) (λ u. omega (arith, past_draw j (omega arith)))))

    pub draw_excess : (i : ℕ) → i < length ss → ((j : ℕ) → j < i → get_or ds j 0 ≤ draw_limit p m (at p ss j)) → draw_limit p m (at p ss i) < get_or ds i 0
        → (all_from (draw_allowed p m ds) 0 ss ≡ false) × (lowest_from (draw_allowed p m ds) 0 ss ≡ i)
    draw_excess i l h e = first_failed (draw_allowed p m ds) (free_slot p) ss i l (λ j u. allowed_yes m ds j (at p ss j) (h j u))
        (allowed_no m ds i (at p ss i) e)

    pub draws_held : ((j : ℕ) → j < length ds → get_or ds j 0 ≤ (at p ss j).buffered) → all_from (draw_held p ds) 0 ss ≡ true
    draws_held h =
        all_passed (draw_held p ds) (free_slot p) ss
        (λ j l. held_yes ds j (at p ss j) (by_cases (dec_lt j (length ds)) (λ u. h j u) (λ u. omega (arith, past_draw j (omega arith)))))

    pub draw_overdrawn : (i : ℕ) → i < length ss → ((j : ℕ) → j < i → get_or ds j 0 ≤ (at p ss j).buffered) → (at p ss i).buffered < get_or ds i 0
        → (all_from (draw_held p ds) 0 ss ≡ false) × (lowest_from (draw_held p ds) 0 ss ≡ i)
    draw_overdrawn i l h e = first_failed (draw_held p ds) (free_slot p) ss i l (λ j u. held_yes ds j (at p ss j) (h j u)) (held_no ds i (at p ss i) e)

  -- ---- soundness

  module _ (names : Named p) where
    -- the loop over the slots, to its end or to one that fails
    module _ {Q : Type 0} (o : Order A Q) (d : Scheduler A Q) where
      pub sound_yes : d.phase ≤ 1 → ((j : ℕ) → j < length d.slots → sound_slot p (leads p d.slots) (at p d.slots j) ≡ true)
          → ((j : ℕ) → p.n ≤ j → j < length d.slots → (at p d.slots j).kind ≡ free) → o.queue_sound d.queue d.slots ≡ true → sound p o d ≡ true
      sound_yes h g u q =
          let ss = d.slots in
          let L = leads p ss in
          says_sound p names o d
          (record {
            phase = h;
            slots = each_by (Good p L) ss (free_slot p) (λ j l. good_of_sound p names L (at p ss j) (g j l));
            unused = λ j l. by_cases (dec_lt j (length ss)) (u j l)
                (λ z. ap (λ (s : Slot A). s.kind) (get_or-eq_default ss (free_slot p) {n = j} (omega arith)));
            queue = q;
          })

      pub sound_no : (Sound p o d → ⊥) → sound p o d ≡ false
      sound_no h = is_false (sound p o d) (λ e. h (sound_says p names o d e))

    -- what soundness says of slot j
    pub sound_at : {Q : Type 0} (o : Order A Q) (d : Scheduler A Q) → Sound p o d → (j : ℕ) → Good p (leads p d.slots) (at p d.slots j)
    sound_at o d h j = each_at (Good p (leads p d.slots)) d.slots j (free_slot p) h.slots (good_free p _)
