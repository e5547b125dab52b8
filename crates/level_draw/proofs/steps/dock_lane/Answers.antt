use Rattle.std.proofs.Common.{arith, ap}
use Rattle.std.proofs.lemmas.Int.{ints}
use Rattle.level_model.specs.declared.table.EndAt.{EndAt}
use Rattle.level_model.specs.Level.{end_at}
use Rattle.level_model.specs.Table.{end_number}
use Rattle.level_draw.proofs.RangeLemmas.{end_there}
use Rattle.level_draw.proofs.steps.dock_lane.Goals as goal

pub below_unit-requires-clause-by : goal.below_unit-requires-clause-by
below_unit-requires-clause-by c =
    let within = c.requires.numbers.lanes (end_number (end_at c.args.edge c.args.at_source))
    (end_there c.args.edge c.args.at_source _ _ c.requires.edge c.requires.sheet.reach.as_many_ends) in
    let low = within.above in
    let high = within.below in
    let same = ap (λ (v : EndAt). v.lane) c.end_at-end.ensures in
    record { above = omega (arith, ints, low, same); below = omega (arith, ints, high, same) }
