use Rattle.std.proofs.Common.{◌≡◌, ◌+◌, length, take, arith, sym, subst}
use Rattle.std.proofs.lemmas.List.{take_all}
use Rattle.std.proofs.lemmas.List.Sums.{sum_by-take-le, sum_by_more_le}
use Rattle.network_laws.specs.declared.network.NetEdge.{NetEdge}
use Rattle.net_simplex.specs.Cuts.{IsTallied, TellsWeights}
use Rattle.net_simplex.proofs.Lifting.{tallied_start, tallied_more}
use Rattle.net_simplex.proofs.cuts.tally.Goals as goal

pub loop-e-init : goal.loop-e-init
loop-e-init c = tallied_start (length c.args.excess.now) c.args.edges.now c.args.excess.now (omega arith) c.requires.none

pub loop-e-preserved : goal.loop-e-preserved
loop-e-preserved c =
    let n = length c.args.excess.now in
    subst (λ xs. IsTallied n c.args.edges.now (c.loop-e.e-index + 1) xs) (sym c.tally_edge.ensures)
    (tallied_more n c.args.edges.now c.loop-e.e-index c.loop-e.excess c.requires.ends c.loop-e-test.true c.loop-e.invariant)

pub tally_edge-requires-clause-fits : goal.tally_edge-requires-clause-fits
tally_edge-requires-clause-fits c =
    let s = c.loop-e.invariant.small in
    let w = c.requires.weights in
    let m = sum_by_more_le (λ (e : NetEdge). e.weight) c.args.edges.now c.loop-e.e-index (record { tail = 0; head = 0; least = 0; weight = 0 }) c.loop-e-test.true in
    omega (arith, s, w, m)

pub returns-clause-tells : goal.returns-clause-tells
returns-clause-tells c =
    let whole : take c.loop-e.e-index c.args.edges.now ≡ c.args.edges.now = let t = c.loop-e-test.false in take_all c.loop-e.e-index c.args.edges.now (omega (arith, t)) in
    subst (λ es. TellsWeights es c.loop-e.excess) whole c.loop-e.invariant.tells

pub returns-clause-small : goal.returns-clause-small
returns-clause-small c =
    let s = c.loop-e.invariant.small in
    let t = sum_by-take-le (λ (e : NetEdge). e.weight) c.args.edges.now c.loop-e.e-index in
    omega (arith, s, t)
