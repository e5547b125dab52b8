use Rattle.std.proofs.Common.{◌∙◌, FitsSigned, w64, true, arith, sym, subst, ap, rules}
use Rattle.std.proofs.lemmas.Int.{ints, to_z-of_z}
use Rattle.route_lines.specs.declared.Step.TheVariants.{Lane}
use Rattle.level_model.specs.declared.table.EndAt.{EndAt}
use Rattle.level_model.specs.declared.table.LoopAt.{LoopAt}
use Rattle.level_model.specs.Table.{loop_in}
use Rattle.level_nets.specs.Read.{below_unit}
use Rattle.level_nets.specs.Reach.{parts_in, IsDockIn}
use Rattle.level_draw.proofs.loops.south_lane.Goals as goal

pub below_unit-requires-clause-dock : goal.below_unit-requires-clause-dock
below_unit-requires-clause-dock c =
    subst (λ (v : EndAt). IsDockIn (parts_in c.args.sheet.now) v.dock) (sym c.end_at.ensures) (c.requires.sheet.reach.ends c.args.edge true c.requires.edge).dock

pub below_unit-requires-clause-by : goal.below_unit-requires-clause-by
below_unit-requires-clause-by c =
    let edge = c.requires.edge in
    let many = c.requires.sheet.reach.as_many_loops in
    let within = c.requires.numbers.south c.args.edge (omega (arith, edge, many)) in
    let low = within.above in
    let high = within.below in
    let same = ap (λ (v : LoopAt). v.south) c.loop_at.ensures in
    record { above = omega (arith, ints, low, same); below = omega (arith, ints, high, same) }

pub returns : goal.returns
returns c =
    let s = parts_in c.args.sheet.now in
    let fits : FitsSigned w64 c.below_unit.result = search rules in
    let near : FitsSigned w64 c.loop_at.result.south = search rules in
    ap Lane
    (to_z-of_z w64 c.below_unit.result fits
    ∙ c.below_unit.ensures
    ∙ ap (λ z. below_unit s c.end_at.result.dock z) (to_z-of_z w64 c.loop_at.result.south near ∙ ap (λ (v : LoopAt). v.south) c.loop_at.ensures)
    ∙ ap (λ (v : EndAt). below_unit s v.dock (loop_in s.table.loops c.args.edge).south) c.end_at.ensures)
