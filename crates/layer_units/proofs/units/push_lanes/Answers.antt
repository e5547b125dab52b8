use Rattle.std.proofs.Common.{sym}
use Rattle.layer_units.specs.Numbered.{lane_on}
use Rattle.layer_units.proofs.GrownLemmas.{grown_none, grown_push}
use Rattle.layer_units.proofs.units.push_lanes.Goals as goal

pub loop-lane-init : goal.loop-lane-init
loop-lane-init c = sym (grown_none (lane_on c.args.run) c.args.units.now.items)

pub loop-lane-preserved : goal.loop-lane-preserved
loop-lane-preserved c =
    grown_push (lane_on c.args.run) c.args.units.now.items c.loop-lane.units.items c.push.new.self.items c.loop-lane.lane c.flat_unit.result c.loop-lane.invariant c.flat_unit.ensures c.in_ok-push.ensures.items
