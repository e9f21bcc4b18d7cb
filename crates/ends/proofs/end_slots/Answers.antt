use Rattle.std.proofs.Common.{ℕ, ◌-◌, ◌≡◌, ◌<◌, sym, ap, ap₂, ◌∙◌, arith}
use Rattle.words.specs.Words.{words_of}
use Rattle.plan.specs.Plan.{showing_of, showing_in}
use Rattle.rules.specs.Supply.{Supply}
use Rattle.desk.specs.declared.Desk.{Desk}
use Rattle.desk.specs.Ready.{streams_are, buffer_has, buffer_most}
use Rattle.desk.specs.Records.{record_of}
use Rattle.desk_layout.specs.Layout.{desk_in}
use Rattle.ends.specs.declared.Slot.{Slot}
use Rattle.ends.specs.Ends.{Continues, Fair}
use Rattle.ends.proofs.Ending.{ended_up_to, ends_none, drawn_count, fair_now, ends_turn, ends_all}
use Rattle.ends.proofs.end_slots.Goals as goal

-- what is asked for and what is told of a slot, of the numbers read
fair_read : (s : Slot) {N M x y : ℕ} → N ≡ M → x ≡ y → Fair M s y → Fair N s x
fair_read s g e f = rw (g, e) f

told_read : (d : Desk) {w b r : ℕ} → w ≡ d.plan.showing → b ≡ d.plan.figures.bytes → r ≡ d.plan.buffer - d.plan.figures.bytes
    → (a : ℕ) {N M : ℕ} → N ≡ M → (X : Supply ℕ → Type 0)
    → ((p : Supply ℕ) → Continues p (showing_of w) a N b r → X p)
    → (p : Supply ℕ) → Continues p (showing_in d.plan) a M d.plan.figures.bytes (d.plan.buffer - d.plan.figures.bytes) → X p
told_read d showing bytes room a g X f = rw (sym showing, sym g, sym room, sym bytes) f

pub overflow_sub-room : goal.overflow_sub-room
overflow_sub-room c = omega (arith, buffer_has (desk_in (words_of c.args.desk.now)).plan c.requires.1.ready.planned)

pub loop-i-init : goal.loop-i-init
loop-i-init c =
    let e = c.requires.1 in
    let d = desk_in (words_of c.args.desk.now) in
    (λ t. record_of d.plan d.phase (e.kinds t) (e.next t) (e.held t) d.places) ∙ ends_none d e.wide _

pub bounds-kinds-i : goal.bounds-kinds-i
bounds-kinds-i c = omega (arith, streams_are _ c.requires.1.ready)

pub bounds-next-i : goal.bounds-next-i
bounds-next-i c = omega (arith, streams_are _ c.requires.1.ready)

pub bounds-held-i : goal.bounds-held-i
bounds-held-i c = omega (arith, streams_are _ c.requires.1.ready)

-- as many draws as slots
pub word_at-requires : goal.word_at-requires
word_at-requires c = omega (arith, drawn_count _ _ c.requires.1.drawn)

pub ended_slot-after-requires : goal.ended_slot-after-requires
ended_slot-after-requires c =
    let e = c.requires.1 in
    let d = desk_in (words_of c.args.desk.now) in
    let l = c.loop-i in
    let inside : l.i < 256 = omega (arith, streams_are d e.ready) in (
      fair_read _ c.film_length-blocks.ensures c.word_at.ensures (fair_now d e.wide e.ready _ e.drawn l.i inside _ l.invariant),
      omega (arith, buffer_has d.plan e.ready.planned, buffer_most d.plan e.ready.legal e.ready.planned),
    )

pub bounds-kinds-i-in-loop-i : goal.bounds-kinds-i-in-loop-i
bounds-kinds-i-in-loop-i c = omega (arith, streams_are _ c.requires.1.ready)

pub bounds-next-i-in-loop-i : goal.bounds-next-i-in-loop-i
bounds-next-i-in-loop-i c = omega (arith, streams_are _ c.requires.1.ready)

pub bounds-held-i-in-loop-i : goal.bounds-held-i-in-loop-i
bounds-held-i-in-loop-i c = omega (arith, streams_are _ c.requires.1.ready)

pub loop-i-preserved : goal.loop-i-preserved
loop-i-preserved c =
    let e = c.requires.1 in
    let d = desk_in (words_of c.args.desk.now) in
    let l = c.loop-i in
    let inside : l.i < 256 = omega (arith, streams_are d e.ready) in
    let room : c.buffer_in.result - c.bytes_in-bytes.result ≡ d.plan.buffer - d.plan.figures.bytes =
    ap₂ (λ (m n : ℕ). m - n) c.buffer_in.ensures c.bytes_in-bytes.ensures in
    ends_turn d e.wide e.ready _ e.drawn l.i inside _ l.invariant c.word_at.result c.word_at.ensures c.ended_slot-after.result
    (told_read d c.showing_in-showing.ensures c.bytes_in-bytes.ensures room _ c.film_length-blocks.ensures _ c.ended_slot-after.ensures)

pub returns : goal.returns
returns c =
    let e = c.requires.1 in
    let d = desk_in (words_of c.args.desk.now) in
    let n : c.loop-i.i ≡ d.plan.streams = omega arith in
    ends_all d e.ready _ e.drawn _ (c.loop-i.invariant ∙ ap (ended_up_to d _) n)
