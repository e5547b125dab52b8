use Rattle.std.proofs.Common.{length, arith}
use Rattle.network_laws.proofs.Chains.{all_linked}
use Rattle.network_laws.proofs.links.link_all.Goals as goal

pub returns : goal.returns
returns c =
    all_linked (length c.args.first.now) c.args.edges.now c.args.end c.loop-left.first c.loop-left.next c.loop-left.left (omega arith) c.loop-left.invariant.2
