use Rattle.std.proofs.Common.{◌≡◌, ◌<◌, ◌∙◌, length, arith, refl, slice_index, subst}
use Rattle.std.proofs.lemmas.List.{length-map}
use Rattle.network_laws.specs.declared.network.Network.{Network}
use Rattle.network_parts.specs.Dividing.{ArePlaces, HoldNodes, sizes_of}
use Rattle.network_parts.proofs.FillLemmas.{count_more, few_nodes, no_places, place_more}
use Rattle.network_parts.proofs.dividing.place_nodes.Goals as goal

pub loop-number-init : goal.loop-number-init
loop-number-init c = (no_places c.args.numbers.now c.in_ok-places.places.items c.in_ok-places.ensures.items, c.requires.empty, refl)

pub loop-number-preserved : goal.loop-number-preserved
loop-number-preserved c =
    let numbers = c.args.numbers.now in
    let n = c.loop-number.number-index in
    let many = length-map c.loop-number.networks (λ (net : Network). net.nodes) in
    let long = c.loop-number.auto.networks in
    let low = c.requires.below n c.loop-number-test.true in
    let there : slice_index numbers n < length (sizes_of c.loop-number.networks) = omega (arith, many, long, low) in (
      place_more numbers n (sizes_of c.loop-number.networks) c.loop-number.places.items c.push.new.self.items c.add_node.result there c.loop-number.invariant.1 c.add_node.ensures.place c.in_ok-push.ensures.items c.loop-number.invariant.0,
      count_more (slice_index numbers) n (sizes_of c.loop-number.networks) (sizes_of c.add_node.new.networks) there c.add_node.ensures.sizes c.loop-number.invariant.1,
      c.add_node.ensures.edges ∙ c.loop-number.invariant.2,
    )

pub add_node-requires-clause-few : goal.add_node-requires-clause-few
add_node-requires-clause-few c =
    let numbers = c.args.numbers.now in
    let n = c.loop-number.number-index in
    let many = length-map c.loop-number.networks (λ (net : Network). net.nodes) in
    let long = c.loop-number.auto.networks in
    let low = c.requires.below n c.loop-number-test.true in
    let there : slice_index numbers n < length (sizes_of c.loop-number.networks) = omega (arith, many, long, low) in
    let few = few_nodes numbers n (slice_index numbers n) (sizes_of c.loop-number.networks) there c.loop-number.invariant.1 in
    let all = c.requires.few in
    let less = c.loop-number-test.true in
    omega (arith, few, all, less)

pub returns : goal.returns
returns c =
    let numbers = c.args.numbers.now in
    let all : c.loop-number.number-index ≡ length c.args.numbers.now = omega arith in
    record {
      places = subst (λ n. ArePlaces numbers n c.loop-number.places.items) all c.loop-number.invariant.0;
      nodes = subst (λ n. HoldNodes numbers n (sizes_of c.loop-number.networks)) all c.loop-number.invariant.1;
      edges = c.loop-number.invariant.2;
    }
