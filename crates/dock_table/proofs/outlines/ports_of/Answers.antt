use Rattle.std.proofs.Common.{◌≡◌, ◌<◌, ◌+◌, ℕ, List, length, pos, arith, ap, subst, sym, ◌∙◌}
use Rattle.drawing_types.specs.declared.shape.Point.{Point}
use Rattle.drawing_types.specs.declared.shape.Side.TheVariants.{North}
use Rattle.drawing_types.specs.declared.shape.Dock.{Dock}
use Rattle.port_order.specs.Places.{place_of_port}
use Rattle.elk_layers.proofs.FillLemmas.{push_more}
use Rattle.std.proofs.Common.{get_or}
use Rattle.dock_table.specs.Outlines.{dock_in}
use Rattle.dock_table.proofs.OutlineLemmas.{dock_offset, place_read}
use Rattle.dock_table.proofs.outlines.ports_of.Goals as goal
use Rattle.dock_table.proofs.LoopLemmas.{dock_kept}

pub overflow_cast-port : goal.overflow_cast-port
overflow_cast-port c =
    let few = c.requires.child.few in
    let same = c.len-port-end.ensures in
    let less = c.loop-port-test.true in
    omega (arith, few, same, less)

pub loop-port-preserved : goal.loop-port-preserved
loop-port-preserved c =
    let less = c.loop-port-test.true in
    let same = c.len-port-end.ensures in
    let long = c.requires.docks in
    let d : Dock = record { node = 0; side = North; offset = pos 0 } in
    let inside : c.loop-port.port < length c.args.docks.now = omega (arith, less, same, long) in
    let dock = dock_kept c.args.docks.now c.loop-port.port d inside in
    let is = place_read c.args.child.now (get_or c.args.docks.now c.loop-port.port d) c.loop-port.port c.place_of_port.result (dock_offset c.args.docks.now c.loop-port.port d inside c.requires.offsets) c.place_of_port.ensures ∙ ap (λ (d : Dock). place_of_port c.args.child.now d.side c.loop-port.port d.offset) dock in
    let both = push_more (λ k (q : Point). q ≡ place_of_port c.args.child.now (dock_in c.args.docks.now k).side k (dock_in c.args.docks.now k).offset) c.loop-port.ports.items c.loop-port.port c.place_of_port.result (record { x = pos 0; y = pos 0 }) c.loop-port.invariant.as_many c.loop-port.invariant.ports is in
    let moved = subst (λ (ps : List Point). (length ps ≡ c.loop-port.port + 1) × ((k : ℕ) → k < c.loop-port.port + 1 → get_or ps k (record { x = pos 0; y = pos 0 }) ≡ place_of_port c.args.child.now (dock_in c.args.docks.now k).side k (dock_in c.args.docks.now k).offset)) (sym c.in_ok-push.ensures.items) both in
    record { as_many = moved.0; ports = moved.1 }
