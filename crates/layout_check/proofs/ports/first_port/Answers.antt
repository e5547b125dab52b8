use Rattle.std.proofs.Common.{rules, below_more, IsTrue}
use Rattle.layout_check.specs.FirstPorts.{PortHolds}
use Rattle.layout_check.proofs.ports.first_port.Goals as goal

pub loop-port-preserved : goal.loop-port-preserved
loop-port-preserved c =
    let t : IsTrue c.port_holds.result = search rules in
    below_more (PortHolds c.args.scene.now.doc.now c.args.scene.now.placed.now c.args.node) _ c.loop-port.invariant (c.port_holds.ensures.0 t)
