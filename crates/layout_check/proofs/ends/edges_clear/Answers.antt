use Rattle.std.proofs.Common.{below_more, rules}
use Rattle.std.proofs.lemmas.Bool.{both_ways}
use Rattle.layout_check.specs.FirstPorts.{EdgeClear}
use Rattle.layout_check.proofs.ends.edges_clear.Goals as goal

pub loop-other-preserved : goal.loop-other-preserved
loop-other-preserved c =
    below_more (EdgeClear c.args.scene.now.doc.now c.args.scene.now.placed.now c.args.node c.args.edge c.args.at_source) _ c.loop-other.invariant (c.edge_clear.ensures.holds c.if-not-edge_clear.false)

pub returns-then-not-edge_clear : goal.returns-then-not-edge_clear
returns-then-not-edge_clear c =
    record {
      holds = λ t. absurd (search rules);
      fails = λ room h. absurd (both_ways c.edge_clear.result c.if-not-edge_clear.true (c.edge_clear.ensures.fails room (h c.loop-other.other c.loop-other-test.true)));
    }
