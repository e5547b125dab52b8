use Rattle.std.proofs.Common.{◌≡◌, ◌<◌, ◌∙◌, length, arith, refl, slice_index, subst}
use Rattle.std.proofs.lemmas.List.{length-map}
use Rattle.network_laws.specs.declared.network.Network.{Network}
use Rattle.network_laws.specs.Network.{edge_at}
use Rattle.network_parts.specs.Dividing.{HoldEdges, rows_of}
use Rattle.network_parts.proofs.FillLemmas.{edge_more}
use Rattle.network_parts.proofs.dividing.give_edges.Goals as goal

pub loop-edge-preserved : goal.loop-edge-preserved
loop-edge-preserved c =
    let numbers = c.args.numbers.now in
    let edges = c.args.edges.now in
    let n = c.loop-edge.edge-index in
    let x = edge_at edges n in
    let many = length-map c.loop-edge.networks (λ (net : Network). net.edges.items) in
    let long = c.loop-edge.auto.networks in
    let ends = c.requires.ends n c.loop-edge-test.true in
    let low = c.requires.below x.tail ends.0 in
    let there : slice_index numbers x.tail < length (rows_of c.loop-edge.networks) = omega (arith, many, long, low) in (
      edge_more numbers c.args.places.now edges n (slice_index numbers x.tail) x c.renumber.result (rows_of c.loop-edge.networks) (rows_of c.add_edge.new.networks) c.requires.places refl ends.0 ends.1 refl there c.renumber.ensures c.in_ok-add_edge.ensures.edges c.loop-edge.invariant.0,
      c.in_ok-add_edge.ensures.sizes ∙ c.loop-edge.invariant.1,
    )

pub returns : goal.returns
returns c =
    let all : c.loop-edge.edge-index ≡ length c.args.edges.now = omega arith in
    record {
      nodes = c.loop-edge.invariant.1;
      edges = subst (λ n. HoldEdges c.args.numbers.now c.args.edges.now n (rows_of c.loop-edge.networks)) all c.loop-edge.invariant.0;
    }
