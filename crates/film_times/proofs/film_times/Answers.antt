use Rattle.std.proofs.Common.{◌≡◌, ℕ, ◌+◌, ◌-◌, ◌≤◌, ◌<◌, List, [], ◌∷◌, ◌++◌, map, take, length, refl, sym, ap, ◌∙◌, add-one, arith}
use mathlib.Core.List.{map-append}
use lib.ListN.{set, length-set}
use lib.Seq.{take-suc-set}
use Rattle.laws.specs.Each.{each_set, each_replicate}
use Rattle.laws.specs.Members.{upto, upto_more}
use Rattle.numbers.specs.Limits.{max_time}
use Rattle.card.specs.declared.Figures.{Figures}
use Rattle.card.specs.Card.{total_positions, length_in}
use Rattle.plan.specs.Plan.{time_on}
use Rattle.plan.specs.Legal.{total_is, total_zones, legal_zoned, time_small}
use Rattle.layings.specs.Layings.{film_positions}
use Rattle.layings.specs.Times.{single_blocks}
use Rattle.film_times.proofs.film_times.Goals as goal

-- one position more
taken-next : (f : Figures) (times : List ℕ) (i t : ℕ) → i < length times → (let a = total_positions f - length_in f 0 in
    t ≡ time_on f (a + i) → take i times ≡ map (time_on f) (upto a i) → take (i + 1) (set times i t) ≡ map (time_on f) (upto a (i + 1)))
taken-next f times i t h e taken =
    let a = total_positions f - length_in f 0 in
    rw (add-one i)
    (take-suc-set times i t h
    ∙ ap (λ (vs : List ℕ). vs ++ (t ∷ [])) taken
    ∙ ap (λ (v : ℕ). map (time_on f) (upto a i) ++ (v ∷ [])) e
    ∙ sym (ap (map (time_on f)) (upto_more a i) ∙ map-append (time_on f) (upto a i) ((a + i) ∷ [])))

pub sum_positions-total-requires : goal.sum_positions-total-requires
sum_positions-total-requires c = (legal_zoned c.args.figures c.requires.0, c.requires.0.zones.1)

pub loop-i-init : goal.loop-i-init
unfolding upto
loop-i-init c = record { long = refl; small = each_replicate (λ (t : ℕ). t ≤ max_time) 8 0 (omega arith); taken = refl }

pub overflow_sub-total : goal.overflow_sub-total
overflow_sub-total c =
    let f = c.args.figures in
    let all = c.sum_positions-total.ensures ∙ total_zones f c.requires.0 in
    omega (arith, all, c.requires.0.room, single_blocks f c.requires.1)

pub time_at-requires : goal.time_at-requires
time_at-requires c =
    let f = c.args.figures in
    let all = c.sum_positions-total.ensures ∙ total_zones f c.requires.0 in
    (legal_zoned f c.requires.0, omega (arith, all, c.loop-i-test.true, c.requires.0.room, single_blocks f c.requires.1, total_is f c.requires.0))

pub loop-i-preserved : goal.loop-i-preserved
loop-i-preserved c =
    let l = c.loop-i in
    let f = c.args.figures in
    let all = c.sum_positions-total.ensures ∙ total_zones f c.requires.0 in
    let u : l.i < length_in f 0 = c.loop-i-test.true in
    let e : c.time_at.result ≡ time_on f (total_positions f - length_in f 0 + l.i) = c.time_at.ensures
    ∙ ap (λ (p : ℕ). time_on f (p - length_in f 0 + l.i)) all in
    let low = time_small f c.requires.0 (total_positions f - length_in f 0 + l.i) (omega (arith, u, c.requires.0.room, single_blocks f c.requires.1)) in
    record {
      long = length-set l.times l.i _ ∙ l.invariant.long;
      small = each_set (λ (t : ℕ). t ≤ max_time) l.times l.i _ l.invariant.small (rw e low);
      taken = taken-next f l.times l.i _ (omega (arith, u, c.requires.2, l.invariant.long)) e l.invariant.taken;
    }

pub returns-clause-times : goal.returns-clause-times
unfolding film_positions
returns-clause-times c =
    let l = c.loop-i in
    let e : l.i ≡ length_in c.args.figures 0 = omega (arith, l.auto.i-end, c.loop-i-test.false) in
    rw e at l.invariant.taken
