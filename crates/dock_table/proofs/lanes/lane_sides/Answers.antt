use Rattle.std.proofs.Common.{false, arith, refl}
use Rattle.std.proofs.lemmas.List.{get_or_read}
use Rattle.dock_table.proofs.LaneLemmas.{lane_made, lane_pushed}
use Rattle.dock_table.proofs.lanes.lane_sides.Goals as goal
use Rattle.dock_table.proofs.LoopLemmas.{dock_kept}

pub loop-j-preserved : goal.loop-j-preserved
loop-j-preserved c =
    let docks = c.args.docks.now in
    let j = c.loop-j.j in
    let dock = dock_kept docks j _ c.loop-j-test.true in
    let long = c.in_ok-asked.ensures.as_long in
    let mark = get_or_read c.in_ok-asked.asked.items j c.index-mark.result.now (omega (arith, long, c.loop-j-test.true)) c.index-mark.ensures false in
    let is = lane_made c.args.size.height docks c.args.spots.now c.args.firsts.now c.in_ok-asked.asked.items j _ _ c.index-mark.result.now c.lane_at.result refl dock mark c.lane_at.ensures c.loop-j-test.true c.requires.firsts c.in_ok-asked.ensures in
    let both = lane_pushed c.args.size.height docks c.args.spots.now j c.loop-j.sides.items c.push.new.self.items c.lane_at.result is c.in_ok-push.ensures.items c.loop-j.invariant.as_long c.loop-j.invariant.side_is in
    record { as_long = both.0; side_is = both.1 }
