use Rattle.std.proofs.Common.{refl, arith}
use Rattle.dock_table.proofs.FirstLemmas.{first_within}
use Rattle.dock_table.proofs.LaneLemmas.{asked_start, spot_marked}
use Rattle.dock_table.proofs.lanes.mark_asked.Goals as goal
use Rattle.dock_table.proofs.LoopLemmas.{dock_kept}

pub loop-i-init : goal.loop-i-init
loop-i-init c = asked_start c.args.docks.now c.args.spots.now c.args.marks.now c.requires.as_long c.requires.clear

pub mark_spot-requires : goal.mark_spot-requires
mark_spot-requires c =
    let within = first_within c.args.docks.now c.args.firsts.now c.loop-i.i c.requires.firsts c.loop-i-test.true in
    let long = c.loop-i.invariant.as_long in
    omega (arith, within, long)

pub loop-i-preserved : goal.loop-i-preserved
loop-i-preserved c =
    spot_marked c.args.docks.now c.args.spots.now c.args.firsts.now c.loop-i.i c.loop-i.marks c.mark_spot.new.marks _ _ _ c.requires.firsts c.loop-i-test.true (dock_kept c.args.docks.now c.loop-i.i _ c.loop-i-test.true) refl refl c.mark_spot.ensures c.loop-i.invariant
