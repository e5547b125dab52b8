use Rattle.std.proofs.Common.{◌-◌, arith}
use Rattle.std.proofs.lemmas.Int.{ints}
use Rattle.dock_table.proofs.TimesLemmas.{sum_computed, times_read}
use Rattle.dock_table.proofs.lanes.room_of.Goals as goal

pub overflow_add-result : goal.overflow_add-result
overflow_add-result c =
    let node_a = c.requires.spacing.edge_node.above in
    let node_b = c.requires.spacing.edge_node.below in
    let more_a = c.times-more.ensures.small.above in
    let more_b = c.times-more.ensures.small.below in
    let value = c.times-more.ensures.value in
    omega (arith, ints, node_a, node_b, more_a, more_b)

pub returns-clause-value : goal.returns-clause-value
returns-clause-value c = sum_computed c.args.spacing.now.edge_node c.times-more.result _ (times_read (c.args.count - 1) c.args.spacing.now.edge_edge c.times-more.result c.requires.spacing.edge_edge c.times-more.ensures.value) c.requires.spacing.edge_node c.times-more.ensures.small

pub returns-clause-small : goal.returns-clause-small
returns-clause-small c =
    let node_a = c.requires.spacing.edge_node.above in
    let node_b = c.requires.spacing.edge_node.below in
    let more_a = c.times-more.ensures.small.above in
    let more_b = c.times-more.ensures.small.below in
    let value = c.times-more.ensures.value in
    record { above = omega (arith, ints, node_a, node_b, more_a, more_b); below = omega (arith, ints, node_a, node_b, more_a, more_b) }
