-- What every list of calls keeps, over any lawful supply, any orderly order and any strict rules.
-- Assumes nothing.
use Prim.Native.Nat.{ℕ, zero, suc, ◌*◌, ◌/◌, ◌≤◌, ◌<◌}
use Rattle.std.specs.Prelude.{◌≡◌, Bool, false, length, replicate}
use Rattle.std.proofs.Math.Path.{refl, subst}
use Rattle.std.proofs.Common.{sym, ap, ◌∙◌, arith}
use mathlib.Core.List.{List, [], ◌∷◌}
use Rattle.std.proofs.Math.ListN.{length-replicate}
use Rattle.laws.specs.Each.{Each, each_replicate, both_replicate}
use Rattle.numbers.specs.Units.{micros}
use Rattle.numbers.specs.Limits.{max_streams}
use Rattle.rules.specs.Supply.{Supply, Lawful}
use Rattle.numbers.specs.Slots.{playing}
use Rattle.rules.specs.Scheduler.{Call, join, leave, begin, end, free_slot, leads, bound, most_drawn}
use Rattle.rules.specs.Order.{Scheduler, Order, opened}
use Rattle.turns.specs.Facts.{Good, good_free, replicate_free, Sound}
use Rattle.turns.specs.Orderly.{Orderly}
use Rattle.rules.specs.Ledger.{blank, opened_ledger, recorded}
use Rattle.rules.specs.Calls.{State, Rules, Allowed, is_accepted, accepted, refused, opening, answer_by, answer, turn, after}
use Rattle.turns.specs.Strict.{Strict}
use Rattle.turns.specs.Answers.{accepted_zero, verdict_zero, answer_accepted}
use Rattle.safety.specs.Safety.{accepted_keeps, accepted_length, players_hold_draw}
use Rattle.safety.specs.Accounts.{Agree, agree_free, Agrees, recorded_keeps}

module _ {A Q : Type 0} (p : Supply A) (ok : Lawful p) (o : Order A Q) (orderly : Orderly p o) where
  pub record InStep (v : State A Q) : Type 0 where
    pub long : length v.scheduler.slots ≡ max_streams
    pub sound : Sound p o v.scheduler
    pub agrees : Agrees p ok o orderly v.scheduler v.ledger

  pub opening_in_step : InStep (opening p o)
  unfolding opening opened opened_ledger
  opening_in_step = record {
    long = length-replicate max_streams (free_slot p);
    sound = record {
      phase = omega arith;
      slots = each_replicate (Good p (leads p (replicate max_streams (free_slot p)))) max_streams (free_slot p) (good_free p _);
      unused = λ i l. replicate_free p max_streams i;
      queue = orderly.queue_opened;
    };
    agrees = both_replicate (Agree p false) max_streams (free_slot p) blank (agree_free p false);
  }

  module _ {X : Type 0} (u : Rules A Q X) (us : Strict p o u) where
    pub turn_keeps : (v : State A Q) (x : X) → InStep v → InStep (turn p o u v x)
    unfolding turn answer recorded
    turn_keeps v x h = go (u.verdict v.scheduler x).number refl
      where
        go : (k : ℕ) → (u.verdict v.scheduler x).number ≡ k
            → (let a = answer_by p o u k (u.verdict v.scheduler x).place v.scheduler x in
            InStep (record { scheduler = a.scheduler; ledger = recorded p.B v.ledger (u.move x) (is_accepted a.number) a.entries }))
        go zero e =
            let d = v.scheduler in
            let c : Call A = u.move x in
            let a = us.strict d x e in
            record {
              long = accepted_length p ok o orderly d c h.sound ∙ h.long;
              sound = accepted_keeps p ok o orderly d c h.sound a;
              agrees = subst (λ (t : Bool). Agrees p ok o orderly (accepted p o d c).scheduler (recorded p.B v.ledger c t (accepted p o d c).entries))
                  (sym (ap is_accepted (accepted_zero p o u d c))) (recorded_keeps p ok o orderly d c v.ledger h.sound a h.agrees);
            }
        go (suc k) e = h

    pub after_keeps : (xs : List X) (v : State A Q) → InStep v → InStep (after p o u v xs)
    unfolding after
    after_keeps [] v h = h
    after_keeps (x ∷ xs) v h = after_keeps xs (turn p o u v x) (turn_keeps v x h)

    -- after every list the record is sound and the ledger in step
    pub every_list_in_step : (xs : List X) → InStep (after p o u (opening p o) xs)
    every_list_in_step xs = after_keeps xs (opening p o) opening_in_step

    -- after an accepted begin each playing slot holds what the sweep may draw
    pub sweep_starts : (d : Scheduler A Q) (x : X) → Sound p o d → u.move x ≡ begin → (answer p o u d x).number ≡ 0
        → Each (λ s. s.kind ≡ playing → p.c * (answer p o u d x).bound / micros ≤ s.buffered) (answer p o u d x).scheduler.slots
    unfolding accepted most_drawn
    sweep_starts d x h m e =
        let z = verdict_zero p o u d x e in
        let a = subst (λ (c : Call A). Allowed p o d c) m (us.strict d x z) in
        let k = accepted_keeps p ok o orderly d begin h a in
        rw (answer_accepted p o u d x z, m) (players_hold_draw p ok (o.begins d.queue d.slots).slots k.unused k.slots)
