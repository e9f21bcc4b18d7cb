use Rattle.std.proofs.Common.{ℕ, ◌+◌, ◌*◌, ◌≡◌, ◌≤◌, List, get_or, ap, ap₂, ◌∙◌, arith}
use native.Mathlib.Nat.{mul-le-mul}
use Rattle.std.proofs.Math.ListN.{set, length-set}
use Rattle.words.specs.Words.{words_of}
use Rattle.numbers.specs.Slots.{filling}
use Rattle.rules.specs.Arrays.{slots_of}
use Rattle.turns.specs.Served.{dropped_by}
use Rattle.desk_layout.specs.Layout.{desk_in}
use Rattle.grants.specs.Grants.{leads_by_slot, served_to}
use Rattle.grants.proofs.Granting.{none_granted, all_granted, next_waits, next_granted}
use Rattle.grants.proofs.Tried.{tried_lead}
use Rattle.grants.proofs.grant_asked.Invariants.{most_cost, Granting}
use Rattle.grants.proofs.grant_asked.Goals as goal

-- the slot and the cost as the code has them
as_found : {kinds₀ line : List ℕ} {count : ℕ} {g : ℕ → ℕ} {rate floor level : ℕ} (kinds : List ℕ) (mark : ℕ) {granted i j x y : ℕ} → i ≡ j → x ≡ y
    → Granting kinds₀ line count g rate floor level (set kinds j filling) (mark + y) granted
    → Granting kinds₀ line count g rate floor level (set kinds i filling) (mark + x) granted
as_found kinds mark e q h = rw (e, q) h

-- nobody asks
pub returns-then-count-eq0 : goal.returns-then-count-eq0
returns-then-count-eq0 c = λ p n xs hs qs w a o.
    all_granted p _ _ _ _ n _ xs hs qs _ _ w a o _ _ 0 (none_granted p _ _ _ _ n _ xs hs qs _ _ w a o) (omega arith)

pub loop-granted-init : goal.loop-granted-init
loop-granted-init c = record {
  long = c.requires.1;
  most = omega (arith, c.requires.5);
  so_far = λ p n xs hs qs w a o. none_granted p _ _ _ _ n _ xs hs qs _ _ w a o;
}

pub returns-then-level-mark : goal.returns-then-level-mark
returns-then-level-mark c = λ p n xs hs qs w a o.
    let b = c.args in
    let d = desk_in (words_of b.desk.now) in
    let l = c.loop-granted in
    let i = get_or b.line.now (l.granted + 1) 0 in
    let rate = d.plan.figures.rate in
    let own = leads_by_slot b.listed d b.positions.now b.leads.now i in
    let cost : c.product-mark.result ≡ rate * own =
    c.product-mark.ensures
    ∙ ap₂ (λ (r m : ℕ). r * m) c.rate_in-rate.ensures
    (c.next_lead-lead.ensures
    ∙ tried_lead b.listed d b.positions.now b.leads.now c.zone_sizes-sizes.ensures c.zone_times-times.ensures c.slot_at-slot.ensures.0)
    in
    let small : rate * own ≤ most_cost = mul-le-mul c.requires.4 (c.requires.3.small (l.granted + 1) (omega arith) (omega arith)) in
    next_waits p _ _ _ _ n _ xs hs qs _ _ w a o l.kinds l.invariant.long l.mark l.granted (l.invariant.so_far p n xs hs qs w a o)
    (omega arith) (omega (arith, c.slot_at-slot.ensures)) (omega (arith, c.requires.2)) (omega arith)

pub loop-granted-preserved : goal.loop-granted-preserved
loop-granted-preserved c =
    let b = c.args in
    let d = desk_in (words_of b.desk.now) in
    let l = c.loop-granted in
    let i = get_or b.line.now (l.granted + 1) 0 in
    let rate = d.plan.figures.rate in
    let own = leads_by_slot b.listed d b.positions.now b.leads.now i in
    let cost : c.product-mark.result ≡ rate * own =
    c.product-mark.ensures
    ∙ ap₂ (λ (r m : ℕ). r * m) c.rate_in-rate.ensures
    (c.next_lead-lead.ensures
    ∙ tried_lead b.listed d b.positions.now b.leads.now c.zone_sizes-sizes.ensures c.zone_times-times.ensures c.slot_at-slot.ensures.0)
    in
    let small : rate * own ≤ most_cost = mul-le-mul c.requires.4 (c.requires.3.small (l.granted + 1) (omega arith) (omega arith)) in
    as_found l.kinds l.mark c.slot_at-slot.ensures.0 cost (record {
      long = length-set l.kinds i filling ∙ l.invariant.long;
      most = omega arith;
      so_far = λ p n xs hs qs w a o.
          next_granted p _ _ _ _ n _ xs hs qs _ _ w a o l.kinds l.invariant.long l.mark l.granted (l.invariant.so_far p n xs hs qs w a o)
          (omega arith) (omega (arith, c.slot_at-slot.ensures)) (omega (arith, c.requires.2)) (omega arith);
    })

pub returns : goal.returns
returns c = λ p n xs hs qs w a o.
    let l = c.loop-granted in
    let e : l.granted ≡ c.args.count = omega arith in
    all_granted p _ _ _ _ n _ xs hs qs _ _ w a o l.kinds l.mark l.granted (l.invariant.so_far p n xs hs qs w a o) e
    ∙ ap (λ (m : ℕ). served_to (slots_of p l.kinds xs hs) (dropped_by m qs)) e
