-- Laws of what specs/Opening defines.
use Rattle.std.specs.Prelude.{ℕ, ◌≡◌, true, List}
use Rattle.std.proofs.Common.{ap, ◌∙◌}
use Rattle.legality.specs.Legality.{Wide}
use Rattle.plan.specs.declared.Plan.{Plan}
use Rattle.plan.proofs.Check.{checked}
use Rattle.rules.specs.Sound.{sound}
use Rattle.rules.specs.Refusals.{verdict}
use Rattle.rules.specs.Calls.{Given}
use Rattle.turns.specs.Answers.{verdict_zero}
use Rattle.desk.specs.declared.Desk.{Desk}
use Rattle.desk.specs.Desk.{supply_of, rules_of, order_of, view_of, open_desk, fresh_desk}
use Rattle.desk.specs.Promise.{order_orderly, supply_named}
use Rattle.trace.specs.List.{Lent, called}
use Rattle.trace.specs.Safe.{Safe, on_record}
use Rattle.trace.specs.SafeLists.{given_of}
use Rattle.trace.proofs.SafeLists.{list_safe, called_ruled}
use Rattle.trace.specs.Opening.{checked_lawful, opened_checked, fair_of, fair_lawful}
use Rattle.rules.specs.Calls as C
use Rattle.safety.specs.Claim as K

-- EVERY LIST FROM AN ACCEPTED OPENING
pub opening_safe : (p : Plan) (ps ls : List ℕ) → Wide p.figures → (open_desk p ps ls).verdict.number ≡ 0
    → ((open_desk p ps ls).desk ≡ fresh_desk p) × ((xs : List Lent) → Safe p (on_record p) xs)
unfolding open_desk
opening_safe p ps ls w e = let q = opened_checked p ps ls e in (rw q, list_safe p (checked_lawful p ps ls w q))

-- ANY RECORD: an accepted call leaves a sound one
pub accepted_sound : (d : Desk) (x : Lent) → Wide d.plan.figures → (called d x).number ≡ 0
    → sound (supply_of d.plan) (order_of d.plan) (view_of (called d x).desk) ≡ true
accepted_sound d x w e =
    let p = supply_of d.plan in
    let g : Given ℕ = given_of d.plan x in
    let (n, r) = called_ruled d x e in
    let f = fair_of d.plan (view_of d) g (verdict_zero p (order_of d.plan) (rules_of d.plan) (view_of d) g n) in
    ap (sound p (order_of d.plan)) r
    ∙ K.accepted_stays_sound p (fair_lawful d.plan x.listed x.positions x.leads w f) (supply_named d.plan) (order_of d.plan)
    (order_orderly d.plan) (view_of d) g n
