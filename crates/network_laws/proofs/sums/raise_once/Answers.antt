use Rattle.std.proofs.Common.{◌+◌, arith, subst, sym}
use Rattle.network_laws.specs.Network.{edge_at}
use Rattle.network_laws.specs.Paths.{sum_at, RaisedOnce}
use Rattle.network_laws.proofs.PathSums.{least_le, path_le, pass_start, pass_more}
use Rattle.network_laws.proofs.sums.raise_once.Goals as goal

pub loop-e-init : goal.loop-e-init
loop-e-init c = pass_start c.args.edges.now c.args.sums.now c.requires.paths

pub raise_head-now-requires-clause-fits : goal.raise_head-now-requires-clause-fits
raise_head-now-requires-clause-fits c =
    let i = c.loop-e.e-index in
    let e = edge_at c.args.edges.now i in
    let n = c.loop-e.invariant.as_long in
    let b = (c.requires.network.ends i c.loop-e-test.true).0 in
    let p = c.loop-e.invariant.paths e.tail (omega (arith, n, b)) in
    let t = path_le c.args.edges.now c.requires.network.acyclic p.0 e.tail (sum_at c.loop-e.sums e.tail) p.1 p.2 in
    let m = c.requires.network.least_fits in
    let one = least_le c.args.edges.now i c.loop-e-test.true in
    omega (arith, t, m, one)

pub loop-e-preserved : goal.loop-e-preserved
loop-e-preserved c =
    subst (λ x. RaisedOnce c.args.edges.now (c.loop-e.e-index + 1) c.args.sums.now c.raise_head-now.new.sums x) (sym c.either-changed.ensures)
    (pass_more c.args.edges.now c.loop-e.e-index c.args.sums.now c.loop-e.sums c.raise_head-now.new.sums c.loop-e.changed c.raise_head-now.result c.loop-e-test.true c.requires.network.ends c.loop-e.invariant c.raise_head-now.ensures)
