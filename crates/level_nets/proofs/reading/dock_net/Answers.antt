use Rattle.std.proofs.Common.{◌≡◌, ◌∙◌, FitsSigned, w64, false, sym, subst, ap, rules}
use Rattle.std.proofs.lemmas.Int.{to_z-of_z}
use Rattle.drawing_types.specs.declared.shape.Side.TheVariants.{East}
use Rattle.drawing_types.specs.Shapes.{is_side}
use Rattle.self_loops.specs.Loops.{is_upright}
use Rattle.level_model.specs.declared.table.EndAt.{EndAt}
use Rattle.level_model.specs.Level.{end_at}
use Rattle.level_nets.specs.Read.{net_named, at_end, dock_at, below_unit, anchor_below}
use Rattle.level_nets.specs.Reach.{parts_in, IsBelow}
use Rattle.level_nets.proofs.PinLemmas.{pin_is, net_from, reversed_beside}
use Rattle.level_nets.proofs.reading.dock_net.Goals as goal

pub anchor_below-requires-clause-beside : goal.anchor_below-requires-clause-beside
anchor_below-requires-clause-beside c =
    subst (λ (v : EndAt). is_upright v.dock.side ≡ false) (sym c.end_at-end.ensures) (reversed_beside (parts_in c.args.sheet.now) (end_at c.args.edge c.args.at_source) c.requires.is_reversed)

pub returns : goal.returns
unfolding net_named
returns c =
    let s = parts_in c.args.sheet.now in
    let n = end_at c.args.edge c.args.at_source in
    let side = ap (λ (v : EndAt). is_side v.dock.side East) c.end_at-end.ensures in
    let fa : FitsSigned w64 c.below_unit.result = search rules in
    let fb : FitsSigned w64 c.below_unit-2.result = search rules in
    let fl : FitsSigned w64 c.end_at-end.result.lane = search rules in
    let fc : FitsSigned w64 c.anchor_below.result = search rules in
    net_from _ _ _ _
    (pin_is c.is_side-on_left.result (is_side (dock_at s n).side East) c.below_unit.result (below_unit s (dock_at s n) (at_end s n).lane) fa (c.is_side-on_left.ensures ∙ side)
    (c.below_unit.ensures ∙ ap (λ z. below_unit s c.end_at-end.result.dock z) (to_z-of_z w64 c.end_at-end.result.lane fl) ∙ ap (λ (v : EndAt). below_unit s v.dock v.lane) c.end_at-end.ensures))
    (pin_is c.is_side-on_left.result (is_side (dock_at s n).side East) c.below_unit-2.result (below_unit s (dock_at s n) (anchor_below s (dock_at s n))) fb (c.is_side-on_left.ensures ∙ side)
    (c.below_unit-2.ensures ∙ ap (λ z. below_unit s c.end_at-end.result.dock z) (to_z-of_z w64 c.anchor_below.result fc ∙ c.anchor_below.ensures.value) ∙ ap (λ (v : EndAt). below_unit s v.dock (anchor_below s v.dock)) c.end_at-end.ensures))

pub below_unit-requires-clause-by : goal.below_unit-requires-clause-by
below_unit-requires-clause-by c =
    let fl : FitsSigned w64 c.end_at-end.result.lane = search rules in
    subst IsBelow (sym (to_z-of_z w64 c.end_at-end.result.lane fl ∙ ap (λ (v : EndAt). v.lane) c.end_at-end.ensures))
    ((c.requires.sheet.reach.ends c.args.edge c.args.at_source c.requires.edge).lane c.requires.is_reversed)
