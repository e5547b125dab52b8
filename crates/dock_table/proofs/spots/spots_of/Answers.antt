use Rattle.std.proofs.Common.{arith}
use Rattle.level_model.specs.Conditions.{plain_level}
use Rattle.dock_table.proofs.EdgeLemmas.{spots_start}
use Rattle.dock_table.proofs.WholeLemmas.{spots_whole}
use Rattle.dock_table.proofs.spots.spots_of.Goals as goal

pub loop-edge-init : goal.loop-edge-init
loop-edge-init c =
    spots_start (plain_level c.args.level.now) c.args.courses.now (record { rows = record { lists = c.in_ok-port_rows.field-0 }; numbers = c.in_ok-with_capacity.field-0 }) c.in_ok-port_rows.ensures c.in_ok-with_capacity.ensures.items

pub returns : goal.returns
returns c p are =
    let end = c.loop-edge.auto.edge-end in
    let stop = c.loop-edge-test.false in
    let count = c.len-count.ensures in
    spots_whole (plain_level c.args.level.now) p c.args.courses.now c.loop-edge.edge c.loop-edge.spots c.requires.level are (omega (arith, end, stop, count)) c.loop-edge.invariant
