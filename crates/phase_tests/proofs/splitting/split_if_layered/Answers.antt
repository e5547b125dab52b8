use Rattle.graph_arena.specs.Graph.{ends_at}
use Rattle.long_edges.proofs.Growth.{ends_of}
use Rattle.phase_tests.proofs.splitting.split_if_layered.Goals as goal

pub returns : goal.returns
returns c =
    λ e live empty.
    let x = ends_of (ends_at c.args.arena.now e) live in
    let is = (c.in_ok-split_all.ensures.chains.each e x.0 x.1).is in
    cc
