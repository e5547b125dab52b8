use Rattle.std.proofs.Common.{◌==◌, ◌<◌, ◌+◌, ◌∙◌, length, arith, ap, refl, slice_index}
use Rattle.std.proofs.lemmas.List.{length_push}
use Rattle.network_laws.specs.Network.{edge_at}
use Rattle.network_parts.specs.Answers.{flow_in}
use Rattle.network_parts.proofs.FillLemmas.{count_more, flow_more}
use Rattle.network_parts.proofs.PlaceLemmas.{link_less}
use Rattle.network_parts.proofs.RangeLemmas.{few_picked}
use Rattle.network_parts.proofs.joining.flows_from.Goals as goal

pub next_place-place-requires-clause-few : goal.next_place-place-requires-clause-few
next_place-place-requires-clause-few c =
    let numbers = c.args.numbers.now in
    let edges = c.args.edges.now in
    let n = c.loop-edge.edge-index in
    let part = slice_index numbers (edge_at edges n).tail in
    let long = c.loop-edge.auto.next in
    let counts = c.requires.counts in
    let low = c.requires.parts (edge_at edges n).tail (c.requires.ends n c.loop-edge-test.true).0 in
    let is = c.loop-edge.invariant.1 part (omega (arith, long, counts, low)) in
    let few = few_picked (λ e. slice_index numbers (edge_at edges e).tail == part) n in
    let all = c.requires.few in
    let less = c.loop-edge-test.true in
    omega (arith, is, few, all, less)

pub flow_at-requires-clause-place : goal.flow_at-requires-clause-place
flow_at-requires-clause-place c =
    let numbers = c.args.numbers.now in
    let edges = c.args.edges.now in
    let n = c.loop-edge.edge-index in
    let part = slice_index numbers (edge_at edges n).tail in
    let long = c.loop-edge.auto.next in
    let counts = c.requires.counts in
    let low = c.requires.parts (edge_at edges n).tail (c.requires.ends n c.loop-edge-test.true).0 in
    let is = c.next_place-place.ensures.place ∙ c.loop-edge.invariant.1 part (omega (arith, long, counts, low)) in
    let less = link_less numbers edges part n c.loop-edge-test.true refl in
    let there = c.requires.there part low in
    omega (arith, is, less, there)

pub loop-edge-preserved : goal.loop-edge-preserved
loop-edge-preserved c =
    let numbers = c.args.numbers.now in
    let edges = c.args.edges.now in
    let n = c.loop-edge.edge-index in
    let part = slice_index numbers (edge_at edges n).tail in
    let long = c.loop-edge.auto.next in
    let counts = c.requires.counts in
    let low = c.requires.parts (edge_at edges n).tail (c.requires.ends n c.loop-edge-test.true).0 in
    let there : part < length c.loop-edge.next = omega (arith, long, counts, low) in
    let pushed = c.in_ok-push.ensures.items in
    let many = c.loop-edge.invariant.0 in (
      ap length pushed ∙ length_push c.loop-edge.flow.items _ ∙ ap (λ m. m + 1) many,
      count_more (λ e. slice_index numbers (edge_at edges e).tail) n c.loop-edge.next c.next_place-place.new.next there c.next_place-place.ensures.next c.loop-edge.invariant.1,
      flow_more numbers edges (flow_in c.args.solutions.now) n c.loop-edge.next c.loop-edge.flow.items c.push.new.self.items c.next_place-place.result c.flow_at.result there c.loop-edge.invariant.1 c.next_place-place.ensures.place c.flow_at.ensures pushed many
          c.loop-edge.invariant.2,
    )
