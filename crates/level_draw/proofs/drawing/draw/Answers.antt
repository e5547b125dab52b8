use Rattle.std.proofs.Common.{length}
use Rattle.level_model.specs.Conditions.{plain_level}
use Rattle.level_draw.specs.Drawing.{plan_from}
use Rattle.level_draw.proofs.Planned.{marked, tabled, turns}
use Rattle.level_draw.proofs.drawing.draw.Goals as goal

pub table_of-requires-clause-is_reversed : goal.table_of-requires-clause-is_reversed
table_of-requires-clause-is_reversed c =
    let are = marked c.as_slice.result.now c.args.certificate.reversed c.len.result (length c.args.level.now.edges) c.in_ok-marks.marks.items c.as_slice-is_reversed.result.now c.as_slice.ensures.value c.len.ensures c.as_slice-is_reversed.ensures.value c.in_ok-marks.ensures in
    let p = plan_from c.args.certificate c.args.layered c.args.order c.args.lines in
    (c.args.certificate.reversed, turns (plain_level c.args.level.now) p c.args.certificate.layers c.as_slice-is_reversed.result.now c.requires are)

pub draw_by_table-requires-clause-marked : goal.draw_by_table-requires-clause-marked
draw_by_table-requires-clause-marked c =
    marked c.as_slice.result.now c.args.certificate.reversed c.len.result (length c.args.level.now.edges) c.in_ok-marks.marks.items c.as_slice-is_reversed.result.now c.as_slice.ensures.value c.len.ensures c.as_slice-is_reversed.ensures.value c.in_ok-marks.ensures

pub draw_by_table-requires-clause-table : goal.draw_by_table-requires-clause-table
draw_by_table-requires-clause-table c =
    let are = marked c.as_slice.result.now c.args.certificate.reversed c.len.result (length c.args.level.now.edges) c.in_ok-marks.marks.items c.as_slice-is_reversed.result.now c.as_slice.ensures.value c.len.ensures c.as_slice-is_reversed.ensures.value c.in_ok-marks.ensures in
    let l = plain_level c.args.level.now in
    let p = plan_from c.args.certificate c.args.layered c.args.order c.args.lines in
    let made = c.in_ok-table.ensures.table c.args.certificate.reversed (turns l p c.args.certificate.layers c.as_slice-is_reversed.result.now c.requires are) in
    tabled l p made.0 c.in_ok-table.table made.1 made.2 c.in_ok-table.ensures.numbers
