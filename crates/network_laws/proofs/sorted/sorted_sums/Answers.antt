use Rattle.std.proofs.Common.{◌≡◌, ◌+◌, arith, subst, sym}
use Rattle.network_laws.specs.Network.{edge_at}
use Rattle.network_laws.specs.Sorted.{SumsEdges}
use Rattle.network_laws.proofs.Upwards.{sums_start, sums_more}
use Rattle.network_laws.proofs.sorted.sorted_sums.Goals as goal

pub loop-e-init : goal.loop-e-init
loop-e-init c = sums_start c.args.nodes c.args.edges.now

pub loop-e-preserved : goal.loop-e-preserved
loop-e-preserved c =
    let edges = c.args.edges.now in
    let i = c.loop-e.e-index in
    let e = edge_at edges i in
    let a : c.plus-least.result ≡ c.loop-e.least + e.least = c.plus-least.ensures.value in
    let f = c.from.ensures in
    let w = c.plus-weight.ensures.value in
    let b : c.plus-weight.result ≡ c.loop-e.weight + e.weight = omega (arith, f, w) in
    let g = c.plus-weight.ensures.small in
    subst (λ x. SumsEdges c.args.nodes edges (i + 1) x c.plus-weight.result) (sym a)
    (subst (λ x. SumsEdges c.args.nodes edges (i + 1) (c.loop-e.least + e.least) x) (sym b)
    (sums_more c.args.nodes edges i c.loop-e.least c.loop-e.weight c.loop-e-test.true c.if-e-nodes.false c.if-e.false c.plus-least.ensures.small (omega (arith, f, g)) c.loop-e.invariant))
