use Rattle.std.proofs.Common.{◌≡◌, arith}
use Rattle.long_edges.proofs.Reaching.{adds_some, adds_none}
use Rattle.long_edges.proofs.splitting.climb_key.Goals as goal

pub returns-then-height-gt0-clause-added : goal.returns-then-height-gt0-clause-added
returns-then-height-gt0-clause-added c =
    adds_some c.args.arena.now c.climb.new.arena c.args.layer.now c.args.edge.at c.climb.ensures.extended.0 c.layer_of-low.result c.args.height c.tail.result.at c.args.lanes.now.items c.climb.new.lanes.items c.args.edges.now.items c.climb.new.edges.items c.climb.ensures.extended.1 c.tail.ensures c.layer_of-low.ensures (omega arith)

pub returns-else-height-gt0-clause-added : goal.returns-else-height-gt0-clause-added
returns-else-height-gt0-clause-added c =
    let zero : c.args.height ≡ 0 = omega arith in
    adds_none c.args.arena.now c.args.layer.now c.args.edge.at c.args.height c.args.lanes.now.items c.args.edges.now.items zero
