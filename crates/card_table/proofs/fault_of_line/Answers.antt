use Rattle.std.proofs.Common.{◌≡◌, ℕ, ◌+◌, ◌*◌, Bool, true, false, refl, sym, subst, ◌∙◌, arith}
use Rattle.std.proofs.lemmas.Bool.{eqb-true, eq-eqb, both_ways}
use Rattle.std.specs.Prelude.{◌&&◌, nat_eq}
use mathlib.Core.Logic.{by_cases}
use native.Mathlib.Decide.{ℕ_discrete}
use lib.ListN.{get_or}
use Rattle.laws.specs.Bools.{and_left, and_right}
use Rattle.card_table.proofs.TableWays.{line_broken, line_whole}
use Rattle.card_table.proofs.fault_of_line.Goals as goal

-- a test more fails by itself, or one before it failed
off_more : (on : Bool) (a b : ℕ) {Q : Type 0} → (on ≡ false → Q) → ((a ≡ b → ⊥) → Q) → (on && nat_eq a b) ≡ false → Q
off_more true a b before this e = this (λ q. both_ways _ e (eq-eqb a b q))
off_more false a b before this e = before refl

pub loop-entry-preserved : goal.loop-entry-preserved
loop-entry-preserved c =
    let l = c.loop-entry in
    let i = l.entry-index in
    record {
      next = omega (arith, l.invariant.next);
      on = λ e k h. by_cases (ℕ_discrete k i)
          (λ q. subst (λ (j : ℕ). get_or c.args.table.now j 0 ≡ c.args.hop * j + c.args.back) (sym q) (eqb-true _ _ (and_right l.on _ e) ∙ l.invariant.next))
          (λ n. l.invariant.on (and_left l.on _ e) k (omega arith));
      off = off_more l.on _ _ l.invariant.off (λ n. line_broken _ _ _ i (omega arith) (λ q. n (q ∙ sym l.invariant.next)));
    }

pub returns-then-on : goal.returns-then-on
returns-then-on c = line_whole _ _ _ (λ k h. c.loop-entry.invariant.on c.if-on.true k (omega arith))
