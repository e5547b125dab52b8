use Rattle.std.proofs.Common.{◌≡◌, ◌<◌, ◌+◌, ◌-◌, pos, length, get_or, arith}
use Rattle.drawing_types.specs.declared.shape.Side.TheVariants.{North}
use Rattle.drawing_types.specs.declared.shape.Dock.{Dock}
use Rattle.dock_table.proofs.OutlineLemmas.{dock_offset, outline_more, rect_read}
use Rattle.dock_table.proofs.outlines.outline_of.Goals as goal
use Rattle.dock_table.proofs.LoopLemmas.{dock_kept}

pub overflow_cast-port : goal.overflow_cast-port
overflow_cast-port c =
    let few = c.requires.child.few in
    let within = c.ports.invariant.within in
    omega (arith, few, within)

pub ports-preserved : goal.ports-preserved
ports-preserved c =
    let some = c.ports-test.true in
    let within = c.ports.invariant.within in
    let long = c.requires.docks in
    let next : c.ports.port ≡ c.ports.port - 1 + 1 = omega (arith, some) in
    let inside : c.ports.port - 1 < length c.args.child.now.ports = omega (arith, some, within) in
    let dock_in : c.ports.port - 1 < length c.args.docks.now = omega (arith, inside, long) in
    let d : Dock = record { node = 0; side = North; offset = pos 0 } in
    let rect = rect_read c.args.child.now (get_or c.args.docks.now (c.ports.port - 1) d) (c.ports.port - 1) c.port_rect.result (dock_offset c.args.docks.now (c.ports.port - 1) d dock_in c.requires.offsets) c.port_rect.ensures.value in
    record {
      within = omega (arith, within);
      outline = outline_more c.args.child.now c.args.docks.now (c.ports.port - 1) c.ports.port (length c.args.child.now.ports) (get_or c.args.docks.now (c.ports.port - 1) d) c.ports.outline c.port_rect.result c.hull-outline.result next inside (dock_kept c.args.docks.now (c.ports.port - 1) d dock_in) c.ports.invariant.outline rect c.hull-outline.ensures.value;
      near = c.hull-outline.ensures.near;
    }
