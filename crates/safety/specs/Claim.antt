-- The claim about every list of calls, for every lawful supply (B3 to B6).
-- Assumes nothing.
use Prim.Native.Nat.{ℕ, zero, suc, ◌+◌, ◌*◌, ◌/◌, ◌≤◌, ◌<◌}
use Rattle.std.specs.Prelude.{◌≡◌, ◌≢◌, ◌↔◌, Bool, true, length, eqb}
use Rattle.std.proofs.Math.Path.{refl}
use Rattle.std.proofs.Common.{sym, ◌∙◌, subst, arith, ltb-true, lt-ltb}
use Rattle.std.proofs.Math.Bool.{cond}
use mathlib.Core.List.{List, [], ◌∷◌, ◌++◌}
use Rattle.laws.specs.Each.{each_at, both_at}
use Rattle.numbers.specs.Units.{micros}
use Rattle.numbers.specs.Limits.{max_streams}
use Rattle.numbers.specs.Refusals.{not_sound}
use Rattle.rules.specs.Supply.{Supply, Lawful, Named}
use Rattle.numbers.specs.Slots.{free, playing}
use Rattle.rules.specs.Scheduler.{Slot, Call, begin, free_slot, at, leads}
use Rattle.rules.specs.Order.{Scheduler, Order, by_place, opened}
use Rattle.rules.specs.Sound.{sound}
use Rattle.turns.specs.Facts.{Good, good_free, replicate_free, Sound, sound_says, says_sound}
use Rattle.turns.specs.Orderly.{Orderly}
use Rattle.turns.specs.ByPlace.{by_place_orderly}
use Rattle.rules.specs.Refusals.{verdict}
use Rattle.rules.specs.Ledger.{Line, blank, line_at}
use Rattle.rules.specs.Calls.{Given, Answer, State, is_accepted, refusals, accepted, opening, answer_by, answer, turn, after}
use Rattle.safety.specs.Safety.{accepted_keeps}
use Rattle.safety.specs.Accounts.{Agree, agree_free}
use Rattle.rules.specs.Kinds.{kind_after}
use Rattle.safety.specs.KindLaws.{kinds_by_rules}
use Rattle.turns.specs.Verdicts.{refusals_strict, accepted_was_sound, sound_never_unsound}
use Rattle.turns.specs.Answers.{accepted_zero, after_last, answer_number, answer_accepted, verdict_zero}
use Rattle.safety.specs.Lists.{InStep, every_list_in_step, sweep_starts}

module _ {A Q : Type 0} (p : Supply A) (o : Order A Q) where
  -- the scheduler and the ledger after a list from the opening
  abbrev pub state_after : List (Given A) → State A Q
  state_after xs = after p o (refusals p o) (opening p o) xs

  -- slot i and its line; past the last slot they read as free and closed
  abbrev pub slot_after : List (Given A) → ℕ → Slot A
  slot_after xs i = at p (state_after xs).scheduler.slots i

  abbrev pub line_after : List (Given A) → ℕ → Line
  line_after xs i = line_at (state_after xs).ledger i

  -- what one more call is answered
  abbrev pub answer_after : List (Given A) → Given A → Answer A Q
  answer_after xs x = answer p o (refusals p o) (state_after xs).scheduler x

  -- the rule gives the kind of a slot after an accepted call
  pub record Safe (rule : Scheduler A Q → Call A → ℕ → ℕ) (xs : List (Given A)) : Type 0 where
    -- D1
    pub all_slots : length (state_after xs).scheduler.slots ≡ max_streams
    pub opens_free : (i : ℕ) → (slot_after [] i).kind ≡ free
    -- B3
    pub occupied_open : (i : ℕ) → ((1 ≤ (slot_after xs i).kind) × ((slot_after xs i).kind ≤ 4)) ↔ ((line_after xs i).is_open ≡ true)
    -- B4
    pub accounted : (i : ℕ) → (line_after xs i).is_open ≡ true
        → (slot_after xs i).buffered + (line_after xs i).consumed ≡ (line_after xs i).fetched * p.B
    pub fits : (i : ℕ) → (slot_after xs i).buffered ≤ p.buffer
    -- B5
    pub starts_full : (ys : List (Given A)) (x : Given A) → xs ≡ ys ++ (x ∷ []) → x.call ≡ begin → (answer_after ys x).number ≡ 0
        → (i : ℕ) → (slot_after xs i).kind ≡ playing → p.c * (answer_after ys x).bound / micros ≤ (slot_after xs i).buffered
    -- B6; a refused call leaves the kind
    pub ruled : (ys : List (Given A)) (x : Given A) → xs ≡ ys ++ (x ∷ []) → (i : ℕ) → i < max_streams
        → (slot_after xs i).kind ≡ cond (is_accepted (answer_after ys x).number) (rule (state_after ys).scheduler x.call i) (slot_after ys i).kind
    -- the record is sound, so that a call with fair lists is never answered 14
    pub stays_sound : sound p o (state_after xs).scheduler ≡ true
    pub never_unsound : (x : Given A) → x.fair ≡ true → (answer_after xs x).number ≢ not_sound

module _ {A : Type 0} (p : Supply A) (ok : Lawful p) (names : Named p) where
  -- ---- one call on any record

  module _ {Q : Type 0} (o : Order A Q) (orderly : Orderly p o) where
    -- an accepted call leaves a sound record, whatever record it was given: one that is not sound is refused
    pub accepted_stays_sound : (d : Scheduler A Q) (x : Given A) → (answer p o (refusals p o) d x).number ≡ 0
        → sound p o (answer p o (refusals p o) d x).scheduler ≡ true
    unfolding refusals
    accepted_stays_sound d x e =
        let z = verdict_zero p o (refusals p o) d x e in
        let s = sound_says p names o d (accepted_was_sound p names o d x.fair x.room x.call z) in
        rw (answer_accepted p o (refusals p o) d x z)
        (says_sound p names o _ (accepted_keeps p ok o orderly d x.call s ((refusals_strict p names o).strict d x z)))

    -- ---- every list

    -- what each list keeps
    kept : (xs : List (Given A)) → InStep p ok o orderly (state_after p o xs)
    kept xs = every_list_in_step p ok o orderly (refusals p o) (refusals_strict p names o) xs

    abbrev Starts : List (Given A) → Given A → List (Given A) → Type 0
    Starts ys x xs =
        x.call ≡ begin → (answer_after p o ys x).number ≡ 0
        → (i : ℕ) → (slot_after p o xs i).kind ≡ playing → p.c * (answer_after p o ys x).bound / micros ≤ (slot_after p o xs i).buffered

    starts : (ys : List (Given A)) (x : Given A) → Starts ys x (ys ++ (x ∷ []))
    unfolding turn refusals
    starts ys x m a i =
        let b : ℕ = p.c * (answer_after p o ys x).bound / micros in
        let ts : List (Slot A) = (answer_after p o ys x).scheduler.slots in
        rw (after_last p o (refusals p o) (opening p o) ys x)
        (each_at (λ s. s.kind ≡ playing → b ≤ s.buffered) ts i (free_slot p)
        (sweep_starts p ok o orderly (refusals p o) (refusals_strict p names o) (state_after p o ys).scheduler x (kept ys).sound m a)
        (λ z. absurd (omega arith)))

    whole : (xs : List (Given A)) → sound p o (state_after p o xs).scheduler ≡ true
    whole xs = says_sound p names o (state_after p o xs).scheduler (kept xs).sound

    never : (xs : List (Given A)) (x : Given A) → x.fair ≡ true → (answer_after p o xs x).number ≢ not_sound
    unfolding refusals
    never xs x f e =
        let d = (state_after p o xs).scheduler in
        sound_never_unsound p names o d x.room x.call (whole xs)
        (subst (λ (t : Bool). (verdict p o d t x.room x.call).number ≡ not_sound) f (sym (answer_number p o (refusals p o) d x) ∙ e))

    abbrev Ruled : (Scheduler A Q → Call A → ℕ → ℕ) → List (Given A) → Given A → List (Given A) → Type 0
    Ruled rule ys x xs =
        (i : ℕ) → i < max_streams
        → (slot_after p o xs i).kind ≡ cond (is_accepted (answer_after p o ys x).number) (rule (state_after p o ys).scheduler x.call i)
        (slot_after p o ys i).kind

    -- k is the kind of slot i if the call is accepted
    answer_kind : (d : Scheduler A Q) (x : Given A) (i k : ℕ) → (at p (accepted p o d x.call).scheduler.slots i).kind ≡ k
        → (let a = answer p o (refusals p o) d x in (at p a.scheduler.slots i).kind ≡ cond (is_accepted a.number) k (at p d.slots i).kind)
    unfolding answer refusals
    answer_kind d x i k h = go (verdict p o d x.fair x.room x.call).number
      where
        go : (m : ℕ)
            → (let a = answer_by p o (refusals p o) m (verdict p o d x.fair x.room x.call).place d x in
            (at p a.scheduler.slots i).kind ≡ cond (is_accepted a.number) k (at p d.slots i).kind)
        go zero = rw (accepted_zero p o (refusals p o) d x.call) h
        go (suc m) = refl

    follows : (rule : Scheduler A Q → Call A → ℕ → ℕ)
        → ((d : Scheduler A Q) (c : Call A) (i : ℕ) → Sound p o d → i < length d.slots → (at p (accepted p o d c).scheduler.slots i).kind ≡ rule d c i)
        → (ys : List (Given A)) (x : Given A) → Ruled rule ys x (ys ++ (x ∷ []))
    unfolding turn
    follows rule by_rule ys x i l =
        let d = (state_after p o ys).scheduler in
        rw (after_last p o (refusals p o) (opening p o) ys x)
        (answer_kind d x i (rule d x.call i) (by_rule d x.call i (kept ys).sound (omega (arith, (kept ys).long))))

    opens : (i : ℕ) → (slot_after p o [] i).kind ≡ free
    unfolding after opening opened
    opens i = replicate_free p max_streams i

    -- in any orderly order, with any rule that accepted calls follow over a sound record
    pub orderly_list_safe : (rule : Scheduler A Q → Call A → ℕ → ℕ)
        → ((d : Scheduler A Q) (c : Call A) (i : ℕ) → Sound p o d → i < length d.slots → (at p (accepted p o d c).scheduler.slots i).kind ≡ rule d c i)
        → (xs : List (Given A)) → Safe p o rule xs
    orderly_list_safe rule by_rule xs = record {
      all_slots = (kept xs).long;
      opens_free = opens;
      occupied_open = λ i. (
        λ k. (line i).opens ∙ lt-ltb 0 (slot_after p o xs i).kind (omega (arith, k.0)),
        λ e. (ltb-true 0 (slot_after p o xs i).kind (sym (line i).opens ∙ e), (slot i).kinds),
      );
      accounted = λ i. (line i).sums;
      fits = λ i. (slot i).fits;
      starts_full = λ ys x e. subst (Starts ys x) (sym e) (starts ys x);
      ruled = λ ys x e. subst (Ruled rule ys x) (sym e) (follows rule by_rule ys x);
      stays_sound = whole xs;
      never_unsound = λ x. never xs x;
    }
      where
        line : (i : ℕ) → Agree p (eqb (state_after p o xs).scheduler.phase 1) (slot_after p o xs i) (line_after p o xs i)
        line i =
            let v = state_after p o xs in
            let t : Bool = eqb v.scheduler.phase 1 in
            both_at (Agree p t) v.scheduler.slots v.ledger i (free_slot p) blank (kept xs).agrees (agree_free p t)

        slot : (i : ℕ) → Good p (leads p (state_after p o xs).scheduler.slots) (slot_after p o xs i)
        slot i = let ss = (state_after p o xs).scheduler.slots in
            each_at (Good p (leads p ss)) ss i (free_slot p) (kept xs).sound.slots (good_free p (leads p ss))

  -- every list is safe: the order of asking, and its rules for the kinds
  pub every_list_safe : (xs : List (Given A)) → Safe p (by_place p) (kind_after p) xs
  every_list_safe = orderly_list_safe (by_place p) (by_place_orderly p) (kind_after p) (kinds_by_rules p)
