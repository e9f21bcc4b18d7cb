use Rattle.std.proofs.Common.{ℕ, suc, ◌+◌, ◌-◌, ◌≤◌, ◌<◌, ◌≡◌, sym, ap, ◌∙◌, arith}
use Rattle.walk.specs.declared.Walk.{Walk}
use Rattle.walk.specs.Walk.{side_of}
use Rattle.worst_pair.specs.declared.Pair.{Pair}
use Rattle.worst_pair.proofs.Pairs.{peak_on}
use Rattle.worst_row.specs.Rows.{Slides}
use Rattle.worst_row.proofs.slide.Goals as goal

-- one turn: what the row loses is in it, and it is the next one's time
turned : {ahead behind : Walk} {front from to sum₀ : ℕ} {worst₀ : Pair} {sum b : ℕ} → from ≤ b → b < to
    → (gain loss : ℕ) → gain ≡ side_of ahead.even ahead.odd (front + (b - from)) → loss ≡ side_of behind.even behind.odd b
    → (g : ℕ → ℕ) → Slides g ahead behind front from to sum₀ worst₀ → sum ≡ g b → (loss ≤ sum + gain) × (sum + gain - loss ≡ g (suc b))
turned {ahead} {behind} {front} {from} {to} {sum₀} {worst₀} {sum} {b} low u gain loss x y g s e =
    let q = s.turn (front + (b - from)) b low u (omega arith) in (omega arith, omega arith)

pub overflow_add-sum : goal.overflow_add-sum
overflow_add-sum c =
    let l = c.loop-b in
    let a = c.args in
    let (g, s) = c.requires in
    let u = c.loop-b-test.true in
    omega (arith, c.side.ensures, l.invariant.time g s, s.small l.b l.auto.b (omega arith), s.quick (a.front + (l.b - a.from)) l.b l.auto.b u (omega arith))

pub overflow_sub-sum : goal.overflow_sub-sum
overflow_sub-sum c =
    let l = c.loop-b in
    let (g, s) = c.requires in
    (turned l.auto.b c.loop-b-test.true _ _ c.side.ensures c.side-in-loop-b.ensures g s (l.invariant.time g s)).0

pub loop-b-preserved : goal.loop-b-preserved
loop-b-preserved c =
    let l = c.loop-b in
    let turn = turned l.auto.b c.loop-b-test.true _ _ c.side.ensures c.side-in-loop-b.ensures in
    let e : suc l.b ≡ l.b + 1 = omega arith in
    record {
      time = λ g s. (turn g s (l.invariant.time g s)).1 ∙ ap g e;
      found = λ g s. peak_on g (l.b + 1) (suc (l.b + 1)) _ l.worst.first l.worst.time c.worse-worst.result (omega arith)
          (λ k i j. let d : k ≡ suc l.b = omega arith in ap g d ∙ sym (turn g s (l.invariant.time g s)).1) (rw e at (l.invariant.found g s))
          c.worse-worst.ensures.higher c.worse-worst.ensures.lower;
    }
