use Rattle.std.proofs.Common.{◌∙◌}
use Rattle.level_layout.proofs.GraphLemmas.{nodes_more}
use Rattle.level_layout.proofs.orienting.add_nodes.Goals as goal

pub loop-preserved : goal.loop-preserved
loop-preserved c =
    let adds = c.in_ok-add_node.ensures.added in (
      nodes_more c.loop.arena c.add_node.new.self c.loop.counter c.loop.nodes.items c.push.new.self.items c.in_ok-add_node.field-0 c.loop.invariant.0 adds c.in_ok-push.ensures.items,
      λ k. adds.same_edges k ∙ c.loop.invariant.1 k,
    )
