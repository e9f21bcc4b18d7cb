use Rattle.std.proofs.Common.{◌≡◌, ℕ, ◌<◌, List, length, get_or, take, refl, sym, ◌∙◌, arith}
use Rattle.std.proofs.lemmas.List.{get_or-take, length-take, length_push}
use Rattle.std.proofs.lemmas.Slice.Zip.{zip_turn, zip_end}
use Rattle.numbers.specs.Numbered.{number_some, refused_is, accepted_is}
use Rattle.card_field.specs.RangeLaws.{positions_range}
use Rattle.card.specs.Card.{fault_with}
use Rattle.card.proofs.JudgeWays.{zones_done, zones_few, zones_slow, zones_more, handed_zone}
use Rattle.card.proofs.judge.fault_of_zones.Goals as goal

-- the positions and the time of this turn are the zone's
record Here (zones : ℕ) (positions times : List ℕ) (i count time : ℕ) : Type 0 where
  more : i < zones
  size : count ≡ get_or positions i 0
  pace : time ≡ get_or times i 0

here : (zones : ℕ) (positions times : List ℕ) (i count time : ℕ)
    → (i < length (take zones positions)) × (i < length times) × ((d : ℕ) → count ≡ get_or (take zones positions) i d) × ((d : ℕ) → time ≡ get_or times i d)
    → Here zones positions times i count time
here zones positions times i count time turn =
    let more : i < zones = omega (arith, turn.0, length-take zones positions) in
    record { more = more; size = turn.2 0 ∙ get_or-take zones positions i 0 more; pace = turn.3 0 }

pub returns-in_err-fault : goal.returns-in_err-fault
unfolding fault_with
returns-in_err-fault c =
    let l = c.loop-count in
    let h = here _ _ _ _ _ _ (zip_turn (take c.args.zones c.args.positions.now) c.args.times.now l.yielded c.into_iter-count-iterator.result l.count-iterator
    c.next.new.self c.next.result (cc) (cc) l.yielded_by _ c.in-Some.is c.next.ensures.steps) in
    λ k x os. handed_zone k _ _ _ c.from_residual.ensures.1 ∙ zones_few k _ _ _ _ _ (omega (arith, h.more)) (rw h.size at (refused_is c.in_err-fault.was c.fault.ensures)) (number_some _) ∙ l.invariant.same k x os

pub overflow_add-total : goal.overflow_add-total
overflow_add-total c = let h = positions_range _ _ (sym (accepted_is c.in_ok-fault.was c.fault.ensures)) in omega arith

pub returns-in_err-fault_of_time : goal.returns-in_err-fault_of_time
unfolding fault_with
returns-in_err-fault_of_time c =
    let l = c.loop-count in
    let h = here _ _ _ _ _ _ (zip_turn (take c.args.zones c.args.positions.now) c.args.times.now l.yielded c.into_iter-count-iterator.result l.count-iterator
    c.next.new.self c.next.result (cc) (cc) l.yielded_by _ c.in-Some.is c.next.ensures.steps) in
    λ k x os. handed_zone k _ _ _ c.from_residual-in_err-fault_of_time.ensures.1 ∙ zones_slow k _ _ _ _ _ (omega (arith, h.more)) (rw h.size at (accepted_is c.in_ok-fault.was c.fault.ensures)) refl
    (rw h.pace at (refused_is c.in_err-fault_of_time.was c.fault_of_time.ensures)) (number_some _)
    ∙ l.invariant.same k x os

pub loop-count-preserved : goal.loop-count-preserved
loop-count-preserved c =
    let l = c.loop-count in
    let h = here _ _ _ _ _ _ (zip_turn (take c.args.zones c.args.positions.now) c.args.times.now l.yielded c.into_iter-count-iterator.result l.count-iterator
    c.next.new.self c.next.result (cc) (cc) l.yielded_by _ c.in-Some.is c.next.ensures.steps) in
    let more = length_push l.yielded (c.in-Some.field-0-0, c.in-Some.field-0-1) in
    record {
      few = (positions_range _ _ (sym (accepted_is c.in_ok-fault.was c.fault.ensures))).1;
      same = λ k x os. rw (more, h.size, h.pace) (
          zones_more k _ _ _ _ _ _ (omega (arith, h.more)) (rw h.size at (accepted_is c.in_ok-fault.was c.fault.ensures)) refl
          (rw h.pace at (accepted_is c.in_ok-fault_of_time.was c.fault_of_time.ensures)) refl
          ∙ l.invariant.same k x os
          );
    }

pub returns : goal.returns
unfolding fault_with
returns c =
    let l = c.loop-count in
    let long = zip_end (take c.args.zones c.args.positions.now) c.args.times.now l.yielded c.into_iter-count-iterator.result l.count-iterator c.next.new.self c.next.result (cc) (cc) l.yielded_by c.in-None.is c.next.ensures.steps in
    λ k x os. zones_done k _ _ _ _ _ (omega (arith, long)) ∙ l.invariant.same k x os
