use Rattle.std.proofs.Common.{◌∙◌, FitsSigned, w64, sym, subst, ap, rules}
use Rattle.std.proofs.lemmas.Int.{to_z-of_z}
use Rattle.drawing_types.specs.declared.shape.Side.TheVariants.{East}
use Rattle.drawing_types.specs.Shapes.{is_side}
use Rattle.level_model.specs.declared.table.EndAt.{EndAt}
use Rattle.level_model.specs.Level.{end_at}
use Rattle.level_nets.specs.Read.{dock_at, below_unit, loop_below}
use Rattle.level_nets.specs.Reach.{parts_in, IsDockIn, IsPassing}
use Rattle.level_nets.proofs.PinLemmas.{pin_is, passes_beside}
use Rattle.level_nets.proofs.reading.loop_pin.Goals as goal

pub loop_below-requires-clause-dock : goal.loop_below-requires-clause-dock
loop_below-requires-clause-dock c =
    subst (λ (v : EndAt). IsDockIn (parts_in c.args.sheet.now) v.dock) (sym c.end_at.ensures) (c.requires.sheet.reach.ends c.args.edge c.args.at_source c.requires.edge).dock

pub loop_below-requires-clause-beside : goal.loop_below-requires-clause-beside
loop_below-requires-clause-beside c = passes_beside (parts_in c.args.sheet.now) c.args.edge c.args.side c.requires.passes

pub loop_below-requires-clause-passing : goal.loop_below-requires-clause-passing
loop_below-requires-clause-passing c =
    subst (λ (v : EndAt). IsPassing (parts_in c.args.sheet.now) c.args.edge c.args.side v.dock) (sym c.end_at.ensures) (c.requires.sheet.reach.loops c.args.edge c.args.side c.args.at_source c.requires.edge c.requires.passes)

pub below_unit-requires-clause-dock : goal.below_unit-requires-clause-dock
below_unit-requires-clause-dock c =
    subst (λ (v : EndAt). IsDockIn (parts_in c.args.sheet.now) v.dock) (sym c.end_at.ensures) (c.requires.sheet.reach.ends c.args.edge c.args.at_source c.requires.edge).dock

pub returns : goal.returns
returns c =
    let s = parts_in c.args.sheet.now in
    let n = end_at c.args.edge c.args.at_source in
    let fa : FitsSigned w64 c.below_unit.result = search rules in
    let fc : FitsSigned w64 c.loop_below.result = search rules in
    pin_is c.is_side.result (is_side c.args.side East) c.below_unit.result (below_unit s (dock_at s n) (loop_below s c.args.edge (dock_at s n) c.args.side)) fa c.is_side.ensures
    (c.below_unit.ensures ∙ ap (λ z. below_unit s c.end_at.result.dock z) (to_z-of_z w64 c.loop_below.result fc ∙ c.loop_below.ensures.value)
    ∙ ap (λ (v : EndAt). below_unit s v.dock (loop_below s c.args.edge v.dock c.args.side)) c.end_at.ensures)
