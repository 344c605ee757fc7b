-- `pager::write_page` meets its contract: question 14 by the number of lines, then the lines.
use Rattle.std.proofs.Common.{refl, ◌∙◌, ap, arith}
use Rattle.words.specs.Header.{zones_in, number_in}
use Rattle.pager.proofs.Shown.{on-channels, too_few, enough}
use Rattle.pager.proofs.write_page.Goals as goal

pub item_numbers-items-requires : goal.item_numbers-items-requires
item_numbers-items-requires c = on-channels _ _ _ (c.zones_in-count.ensures.0 ∙ ap zones_in c.word_at-header.ensures) (c.number_in-number.ensures.0 ∙ ap number_in c.word_at-header.ensures) c.requires c.number_in-number.ensures.1

pub returns-then-out-lines : goal.returns-then-out-lines
returns-then-out-lines c =
    let a = c.args in
    too_few _ _ _ (c.zones_in-count.ensures.0 ∙ ap zones_in c.word_at-header.ensures) (c.number_in-number.ensures.0 ∙ ap number_in c.word_at-header.ensures) _ c.item_numbers-items.ensures a.total a.out.now _ (omega (arith, c.if-out-lines.true, c.count_lines.ensures.0)) refl

pub cars_table-cars-requires : goal.cars_table-cars-requires
cars_table-cars-requires c = on-channels _ _ _ (c.zones_in-count.ensures.0 ∙ ap zones_in c.word_at-header.ensures) (c.number_in-number.ensures.0 ∙ ap number_in c.word_at-header.ensures) c.requires c.number_in-number.ensures.1

pub returns : goal.returns
returns c =
    let a = c.args in
    enough _ _ _ (c.zones_in-count.ensures.0 ∙ ap zones_in c.word_at-header.ensures) (c.number_in-number.ensures.0 ∙ ap number_in c.word_at-header.ensures) _ c.item_numbers-items.ensures a.total a.out.now _ _ _ c.cars_table-cars.ensures
    (omega (arith, c.if-out-lines.false, c.count_lines.ensures.0)) c.write_lines.ensures
