use Rattle.std.proofs.Common.{◌≡◌, length, subst, arith}
use Rattle.level_model.specs.Conditions.{plain_level}
use Rattle.dock_table.specs.Rows.{lists_of}
use Rattle.layer_units.specs.Passing.{ArePassed, spot_lists}
use Rattle.layer_units.proofs.SeenLemmas.{none_passed}
use Rattle.layer_units.proofs.passing.port_spots.Goals as goal

pub loop-edge-init : goal.loop-edge-init
loop-edge-init c = none_passed (plain_level c.args.level.now) c.args.marks.now (lists_of c.in_ok-port_rows.field-0.items) c.in_ok-port_rows.ensures

pub returns : goal.returns
returns c =
    let end = c.loop-edge.auto.edge-end in
    let stop = c.loop-edge-test.false in
    let count = c.len-edge-end.ensures in
    let all : c.loop-edge.edge ≡ length c.args.level.now.edges = omega (arith, end, stop, count) in
    subst (λ n. ArePassed (plain_level c.args.level.now) c.args.marks.now n (spot_lists c.loop-edge.spots)) all c.loop-edge.invariant
