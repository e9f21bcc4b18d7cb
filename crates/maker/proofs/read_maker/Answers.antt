use Rattle.std.proofs.Common.{ap, ◌∙◌}
use Rattle.maker.specs.Maker.{judged_figures}
use Rattle.maker.proofs.MakerWays.{answer_heading, answer_row, answer_many, drive_fits, answer_figures}
use Rattle.maker.proofs.read_maker.Goals as goal

pub returns-in-Err : goal.returns-in-Err
returns-in-Err c = c.refused_text.ensures ∙ answer_heading _ _ _ _ _ _ c.read_heading.ensures c.in-Err.is

pub returns-in-Err-read_rows : goal.returns-in-Err-read_rows
returns-in-Err-read_rows c =
    c.refused_text-in-Err-read_rows.ensures
    ∙ answer_row _ _ _ _ _ _ c.read_heading.ensures c.in-Ok.is _ c.read_rows.ensures c.in-Err-read_rows.is

pub returns-then-rows-gt-MAX_ZONES : goal.returns-then-rows-gt-MAX_ZONES
returns-then-rows-gt-MAX_ZONES c =
    c.refused_text-then-rows-gt-MAX_ZONES.ensures
    ∙ answer_many _ _ _ _ _ _ c.read_heading.ensures c.in-Ok.is _ c.read_rows.ensures c.in-Ok-read_rows.is c.if-rows-gt-MAX_ZONES.true

pub zones_of-zones-requires : goal.zones_of-zones-requires
zones_of-zones-requires c =
    drive_fits _ 0 0 0 0 _ c.read_heading.ensures c.in-Ok.is _ c.read_rows.ensures c.in-Ok-read_rows.is c.if-rows-gt-MAX_ZONES.false

pub figures_of-requires : goal.figures_of-requires
figures_of-requires c =
    (drive_fits _ 0 0 0 0 _ c.read_heading.ensures c.in-Ok.is _ c.read_rows.ensures c.in-Ok-read_rows.is c.if-rows-gt-MAX_ZONES.false).block.1

pub returns : goal.returns
returns c =
    let z = c.zones_of-zones.ensures in
    c.answer.ensures ∙ ap judged_figures c.figures_of.ensures
    ∙ answer_figures _ _ _ _ _ _ c.read_heading.ensures c.in-Ok.is _ c.read_rows.ensures c.in-Ok-read_rows.is c.if-rows-gt-MAX_ZONES.false _ _ z.0 z.1
