use Rattle.std.proofs.Common.{length}
use Rattle.network_laws.proofs.PathSums.{greatest, keeps_layering, pass_falls}
use Rattle.network_laws.proofs.sums.raise_all.Goals as goal

pub loop-changed-smaller : goal.loop-changed-smaller
loop-changed-smaller c = pass_falls (length c.args.sums.now) c.args.edges.now (length c.args.edges.now) c.loop-changed.sums c.raise_once-changed.new.sums c.loop-changed.changed c.raise_once-changed.result c.loop-changed-test.true c.requires.network c.raise_once-changed.ensures

pub returns-clause-greatest : goal.returns-clause-greatest
returns-clause-greatest c = greatest (length c.args.sums.now) c.args.edges.now c.loop-changed.sums c.loop-changed.invariant.0 c.loop-changed.invariant.1 (c.loop-changed.invariant.2 c.loop-changed-test.false)

pub returns-clause-layering : goal.returns-clause-layering
returns-clause-layering c = keeps_layering (length c.args.sums.now) c.args.edges.now c.loop-changed.sums c.loop-changed.invariant.0 c.requires.network.ends (c.loop-changed.invariant.2 c.loop-changed-test.false)
