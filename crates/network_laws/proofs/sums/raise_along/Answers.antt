use Rattle.std.proofs.Common.{◌∙◌, get_or, arith, sym, subst}
use Rattle.network_laws.specs.Network.{edge_at, EndsBelow}
use Rattle.network_laws.specs.Paths.{sum_at}
use Rattle.network_laws.proofs.PathSums.{least_le, path_le, raised_any}
use Rattle.network_laws.proofs.sums.raise_along.Goals as goal

pub raise_head-now-requires-clause-fits : goal.raise_head-now-requires-clause-fits
raise_head-now-requires-clause-fits c =
    let edges = c.args.edges.now in
    let k = get_or c.args.order.now c.loop-k.k-index 0 in
    let there = c.requires.order c.loop-k.k-index 0 c.loop-k-test.true in
    let e = edge_at edges k in
    let n = c.loop-k.invariant.0 in
    let b = (c.requires.network.ends k there).0 in
    let p = c.loop-k.invariant.1 e.tail (omega (arith, n, b)) in
    let t = path_le edges c.requires.network.acyclic p.0 e.tail (sum_at c.loop-k.sums e.tail) p.1 p.2 in
    let m = c.requires.network.least_fits in
    let one = least_le edges k there in
    omega (arith, t, m, one)

pub loop-k-preserved : goal.loop-k-preserved
loop-k-preserved c =
    let edges = c.args.edges.now in
    let k = get_or c.args.order.now c.loop-k.k-index 0 in
    let there = c.requires.order c.loop-k.k-index 0 c.loop-k-test.true in
    let n = c.loop-k.invariant.0 in
    let r = raised_any edges k c.loop-k.sums c.raise_head-now.new.sums c.raise_head-now.result there (subst (λ x. EndsBelow x edges) (sym n) c.requires.network.ends) c.loop-k.invariant.1 c.raise_head-now.ensures in
    (r.0 ∙ n, r.1)
