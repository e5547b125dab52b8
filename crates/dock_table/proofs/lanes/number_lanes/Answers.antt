use Rattle.std.proofs.Common.{arith, refl}
use Rattle.dock_table.proofs.LaneLemmas.{lane_numbered, lanes_few}
use Rattle.dock_table.proofs.lanes.number_lanes.Goals as goal

pub number_lane-next-requires-clause-few : goal.number_lane-next-requires-clause-few
number_lane-next-requires-clause-few c =
    let next = c.loop-j.invariant.next in
    let few = lanes_few c.args.side c.args.sides.now c.loop-j.j in
    let most = c.requires.few in
    let less = c.loop-j-test.true in
    omega (arith, next, few, most, less)

pub loop-j-preserved : goal.loop-j-preserved
loop-j-preserved c =
    let long = c.requires.as_long in
    let less = c.loop-j-test.true in
    let both = lane_numbered c.args.side c.args.sides.now c.args.start c.loop-j.j c.loop-j.next c.number_lane-next.result c.args.places.now c.loop-j.places c.number_lane-next.new.places _ refl (omega (arith, long, less)) c.loop-j.invariant.next c.number_lane-next.ensures.after c.number_lane-next.ensures.places c.loop-j.invariant.places in
    record { next = both.0; places = both.1 }
