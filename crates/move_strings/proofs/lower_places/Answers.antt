use Rattle.std.proofs.Common.{rules, ap, ◌∙◌, arith}
use Rattle.words.specs.Laws.{words_length}
use Rattle.rules.specs.Order.{dropped}
use Rattle.move_strings.proofs.Lowered.{lower_start, lower_long, lower_more, lower_end}
use Rattle.move_strings.proofs.lower_places.Goals as goal

pub loop-i-init : goal.loop-i-init
loop-i-init c = lower_start c.args.desk.now c.requires.0 c.args.streams c.args.gone c.requires.1 c.requires.2

pub place_in-place-requires : goal.place_in-place-requires
place_in-place-requires c =
    let a = c.args in
    let long = lower_long a.desk.now c.requires.0 a.streams a.gone c.requires.1 c.requires.2 _ _ c.loop-i.invariant in
    (omega arith, omega arith)

pub put_word-requires : goal.put_word-requires
put_word-requires c =
    let a = c.args in
    let long = lower_long a.desk.now c.requires.0 a.streams a.gone c.requires.1 c.requires.2 _ _ c.loop-i.invariant in
    omega (arith, words_length c.loop-i.desk)

pub loop-i-preserved : goal.loop-i-preserved
loop-i-preserved c =
    let a = c.args in
    lower_more a.desk.now c.requires.0 a.streams a.gone c.requires.1 c.requires.2 c.loop-i.desk c.loop-i.i c.loop-i.invariant _ _ (omega arith)
    (c.lowered.ensures ∙ ap (dropped a.gone) c.place_in-place.ensures) c.put_word.ensures

pub returns : goal.returns
returns c =
    let a = c.args in
    lower_end a.desk.now c.requires.0 a.streams a.gone c.requires.1 c.requires.2 c.loop-i.desk c.loop-i.i c.loop-i.invariant (search rules)
    c.requires.3 (omega arith)
