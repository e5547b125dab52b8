use Rattle.std.proofs.Common.{ℕ, ◌<◌, length, subst}
use Rattle.graph_arena.specs.Graph.{ends_at}
use Rattle.long_edges.proofs.Growth.{tail_from, head_from}
use Rattle.phase_tests.proofs.splitting.climbs.Goals as goal

pub layer_of-low-requires : goal.layer_of-low-requires
layer_of-low-requires c =
    let x = tail_from (ends_at c.args.arena.now c.args.edge.at) c.tail.result.at c.tail.ensures in
    subst (λ (v : ℕ). v < length c.args.layer.now) x.2 (c.requires x.0.tail (c.incidence.ensures.tails c.args.edge.at x.0 x.1))

pub layer_of-high-requires : goal.layer_of-high-requires
layer_of-high-requires c =
    let x = head_from (ends_at c.args.arena.now c.args.edge.at) c.head.result.at c.head.ensures in
    subst (λ (v : ℕ). v < length c.args.layer.now) x.2 (c.requires x.0.head (c.incidence.ensures.heads c.args.edge.at x.0 x.1))
