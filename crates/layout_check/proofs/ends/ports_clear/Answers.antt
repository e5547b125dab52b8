use Rattle.std.proofs.Common.{ap, arith, below_more, length, rules}
use Rattle.std.proofs.lemmas.Bool.{both_ways}
use Rattle.layout_check.specs.FirstPorts.{PortClear}
use Rattle.layout_check.proofs.ends.ports_clear.Goals as goal

pub loop-port-preserved : goal.loop-port-preserved
loop-port-preserved c =
    below_more (PortClear c.args.scene.now.doc.now c.args.scene.now.placed.now c.args.node c.args.edge c.args.at_source) _ c.loop-port.invariant (c.port_clear-clear.ensures.holds c.if-not-clear.false)

pub returns-then-not-clear : goal.returns-then-not-clear
returns-then-not-clear c =
    let end = ap length c.ports-port-end.ensures.value in
    let inside = c.loop-port-test.true in
    record {
      holds = λ t. absurd (search rules);
      fails = λ room h. absurd (both_ways c.port_clear-clear.result c.if-not-clear.true (c.port_clear-clear.ensures.fails room (h c.loop-port.port (omega (arith, end, inside)))));
    }
