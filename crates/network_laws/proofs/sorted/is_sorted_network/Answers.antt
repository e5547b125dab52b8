use Rattle.std.proofs.Common.{arith}
use Rattle.network_laws.proofs.Upwards.{is_network}
use Rattle.network_laws.proofs.sorted.is_sorted_network.Goals as goal

pub returns-in-Some : goal.returns-in-Some
returns-in-Some c = λ yes.
    let b = c.both_below.ensures.0 yes in
    let m = c.if-nodes.false in
    let n = c.if-edges.false in
    is_network c.args.nodes c.args.edges.now c.in-Some.least c.in-Some.weight (omega (arith, m)) (omega (arith, n)) c.in-Some.ensures b.0 b.1
