use Rattle.std.proofs.Common.{length, ap, arith}
use Rattle.port_order.specs.Sides.{side_of}
use Rattle.port_order.proofs.PlaceLemmas.{place_inside}
use Rattle.dock_table.specs.Sides.{four_of, order_on}
use Rattle.dock_table.proofs.docks.dock_at.Goals as goal

pub offset_by-offset-requires-clause-place : goal.offset_by-offset-requires-clause-place
offset_by-offset-requires-clause-place c spread =
    let at = c.requires.place spread in
    let order = order_on (four_of c.args.orders.now) (side_of c.args.child.now c.args.spot.now) in
    let inside = place_inside (order_on (four_of c.args.orders.now) (side_of c.args.child.now c.args.spot.now)) c.args.spot.now.number (c.requires.once spread) in
    let side = ap (order_on (four_of c.args.orders.now)) c.side_of-side.ensures in
    let long = ap length c.on.ensures in
    let same = ap length side in
    omega (arith, at, inside, long, same)
