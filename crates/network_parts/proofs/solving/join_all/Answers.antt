use Rattle.std.proofs.Common.{◌≡◌, ◌<◌, ◌∙◌, ap, arith, length, refl, slice_index, ℕ}
use Rattle.network_laws.specs.Layering.{layer_of}
use Rattle.network_parts.specs.Answers.{layers_in}
use Rattle.network_parts.specs.Divided.{place_of}
use Rattle.network_parts.proofs.AnswerLemmas.{answer_by_parts, answer_solves, costs_fit, flow_long, layers_long}
use Rattle.network_parts.proofs.PlaceLemmas.{place_less}
use Rattle.network_parts.proofs.solving.join_all.Goals as goal

pub join_layers-requires-clause-there : goal.join_layers-requires-clause-there
join_layers-requires-clause-there c =
    λ v h. let numbers = c.args.numbers.now in
    let k = slice_index numbers v in
    let is = c.requires.places.each v h in
    let less = place_less numbers k v h refl in
    let long = layers_long numbers c.args.edges.now c.args.solutions.now c.requires.solved k (c.requires.count.below v h) in
    omega (arith, is, less, long)

pub join_flows-requires-clause-there : goal.join_flows-requires-clause-there
join_flows-requires-clause-there c = flow_long c.args.numbers.now c.args.edges.now c.args.solutions.now c.requires.solved

pub total_cost-cost-requires : goal.total_cost-cost-requires
total_cost-cost-requires c =
    let numbers = c.args.numbers.now in
    let solutions = c.args.solutions.now in
    let layers = c.in_ok-layer.layer.items in
    let placed : (v : ℕ) → v < length numbers → layer_of layers v ≡ layer_of (layers_in solutions (slice_index numbers v)) (place_of numbers v) =
    λ v h. c.in_ok-layer.ensures.each v h ∙ ap (layer_of (layers_in solutions (slice_index numbers v))) (c.requires.places.each v h)
    in
    costs_fit numbers c.args.edges.now solutions c.requires.solved c.requires.network c.requires.parts c.requires.count layers c.in_ok-flow.flow.items c.in_ok-layer.ensures.as_many c.in_ok-flow.ensures.as_many placed c.in_ok-flow.ensures.each
    c.in_ok-layer.ensures.small

pub returns : goal.returns
returns c =
    let numbers = c.args.numbers.now in
    let solutions = c.args.solutions.now in
    let layers = c.in_ok-layer.layer.items in
    let flow = c.in_ok-flow.flow.items in
    let placed : (v : ℕ) → v < length numbers → layer_of layers v ≡ layer_of (layers_in solutions (slice_index numbers v)) (place_of numbers v) =
    λ v h. c.in_ok-layer.ensures.each v h ∙ ap (layer_of (layers_in solutions (slice_index numbers v))) (c.requires.places.each v h)
    in
    record {
      solution = answer_solves numbers c.args.edges.now solutions c.requires.solved c.requires.network c.requires.parts c.requires.count layers flow c.in_ok-layer.ensures.as_many c.in_ok-flow.ensures.as_many placed c.in_ok-flow.ensures.each
          c.total_cost-cost.result c.total_cost-cost.ensures;
      parts = answer_by_parts numbers c.args.edges.now solutions c.requires.solved c.requires.network c.requires.parts c.requires.count layers flow c.in_ok-layer.ensures.as_many c.in_ok-flow.ensures.as_many placed c.in_ok-flow.ensures.each;
    }
