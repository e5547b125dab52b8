use Rattle.std.proofs.Common.{ℕ, ◌*◌, ◌<◌, ◌≤◌, length, get_or, arith, subst, sym, ap, ◌∙◌}
use Rattle.std.specs.List.{All}
use Rattle.elk_layers.specs.Layered.{plain, rows_of}
use Rattle.network_laws.specs.Network.{IsNetwork}
use Rattle.network_laws.specs.Layering.{IsLayering}
use Rattle.ns_place.specs.Pairs.{all_pairs, IsPair}
use Rattle.ns_place.specs.Network.{edges_of}
use Rattle.ns_place.specs.Heights.{IsNearLink}
use Rattle.ns_place.specs.Weighed.{weighed_heights}
use Rattle.ns_place.specs.Flows.{TellFlows, WritesFlows}
use Rattle.ns_place.specs.Tops.{AreClosedTops}
use Rattle.ns_place.proofs.PairLemmas.{are_pairs}
use Rattle.ns_place.proofs.NetworkLemmas.{is_network, few_pairs}
use Rattle.ns_place.proofs.TopLemmas.{near_links}
use Rattle.ns_place.proofs.PlacingLemmas.{solved_from, flow_long, both_of_each, weighed_placing}
use Rattle.ns_place.proofs.placing.place_weighed.Goals as goal

pub network_of-requires : goal.network_of-requires
network_of-requires c =
    let l = plain c.args.layered.now in
    let rows = rows_of c.args.order.now in
    record {
      sound = c.requires.sound;
      few_units = c.requires.few_units;
      few_links = c.requires.few_links;
      weights = c.requires.weights;
      pairs = subst (All (IsPair l)) (sym (c.as_slice.ensures.value ∙ c.in_ok-pairs.ensures)) (are_pairs l rows c.requires.rows);
    }

pub solve_from-requires : goal.solve_from-requires
solve_from-requires c =
    let l = plain c.args.layered.now in
    let rows = rows_of c.args.order.now in
    let first = c.requires.first in
    let nodes = c.in_ok-net.ensures.nodes in
    let edges = c.in_ok-net.ensures.edges ∙ ap (edges_of l c.args.weights.now) (c.as_slice.ensures.value ∙ c.in_ok-pairs.ensures) in
    record {
      network = subst (λ es. IsNetwork c.in_ok-net.net.nodes es) (sym edges)
          (subst (λ n. IsNetwork n (edges_of l c.args.weights.now (all_pairs l rows))) (sym nodes)
          (is_network l rows c.requires.sound c.requires.rows c.args.weights.now c.requires.weights c.requires.few_units c.requires.few_links c.requires.together));
      as_many = first.as_many ∙ sym nodes;
      layering = subst (λ es. IsLayering es c.args.first.items) (sym edges) (first.layering c.args.weights.now);
      from_zero = λ v h. first.from_zero v (subst (λ n. v < n) nodes h);
      low = λ v h. first.low v (subst (λ n. v < n) nodes h);
    }

pub link_flows-requires : goal.link_flows-requires
link_flows-requires c =
    let l = plain c.args.layered.now in
    let rows = rows_of c.args.order.now in
    let s = c.in_ok-solution.solution in
    let solved = solved_from l rows c.args.weights.now c.in_ok-net.net.nodes c.in_ok-net.net.edges.items c.as_slice.result.now s.layer.items s.flow.items s.cost c.in_ok-net.ensures.nodes c.in_ok-net.ensures.edges (c.as_slice.ensures.value ∙ c.in_ok-pairs.ensures) c.in_ok-solution.ensures in
    let long = flow_long l rows c.requires.sound c.requires.rows c.args.weights.now c.requires.weights s.layer.items s.flow.items s.cost solved in
    let a = ap length c.as_slice-flow.ensures.value in
    let each = c.requires.weights.one_each in
    let few = c.requires.few_links in
    record {
      there = omega (arith, long, a, each);
      few = omega (arith, each, few);
      small = subst (λ xs. (k : ℕ) → k < length c.args.weights.now → get_or xs (2 * k) 0 ≤ 2 * get_or c.args.weights.now k 0) (sym c.as_slice-flow.ensures.value)
          (λ k h. let t = both_of_each l rows c.requires.sound c.requires.rows c.args.weights.now c.requires.weights s.layer.items s.flow.items s.cost solved k (omega (arith, h, each)) in omega (arith, t));
    }

pub with_flows-pairs-requires-clause-there : goal.with_flows-pairs-requires-clause-there
with_flows-pairs-requires-clause-there c =
    let l = plain c.args.layered.now in
    let rows = rows_of c.args.order.now in
    let s = c.in_ok-solution.solution in
    let solved = solved_from l rows c.args.weights.now c.in_ok-net.net.nodes c.in_ok-net.net.edges.items c.as_slice.result.now s.layer.items s.flow.items s.cost c.in_ok-net.ensures.nodes c.in_ok-net.ensures.edges (c.as_slice.ensures.value ∙ c.in_ok-pairs.ensures) c.in_ok-solution.ensures in
    let long = flow_long l rows c.requires.sound c.requires.rows c.args.weights.now c.requires.weights s.layer.items s.flow.items s.cost solved in
    let a = ap length c.as_slice-flow.ensures.value in
    let b = ap length c.as_slice-links.ensures.value in
    let d = ap length c.in_ok-pairs.ensures in
    omega (arith, long, a, b, d)

pub with_flows-pairs-requires-clause-few : goal.with_flows-pairs-requires-clause-few
with_flows-pairs-requires-clause-few c =
    let l = plain c.args.layered.now in
    let rows = rows_of c.args.order.now in
    let few = few_pairs l rows c.requires.sound c.requires.rows in
    let b = ap length c.as_slice-links.ensures.value in
    let d = ap length c.in_ok-pairs.ensures in
    let m = c.requires.few_units in
    let n = c.requires.few_links in
    omega (arith, few, b, d, m, n)

pub weighed_height-height-requires : goal.weighed_height-height-requires
weighed_height-height-requires c =
    let l = plain c.args.layered.now in
    let tops = c.in_ok-top.top.items in
    let b = ap length c.as_slice-links.ensures.value in
    let each = c.requires.weights.one_each in
    let few = c.requires.few_links in
    record {
      few = omega (arith, b, few);
      one_each = omega (arith, b, each);
      near = subst (λ ts. All (IsNearLink ts) c.as_slice-links.result.now) (sym c.as_slice-3.ensures.value)
          (subst (λ ks. All (IsNearLink tops) ks) (sym c.as_slice-links.ensures.value) (near_links l c.as_slice-2.result.now tops c.requires.sound c.in_ok-top.ensures));
    }

pub returns : goal.returns
returns c =
    let l = plain c.args.layered.now in
    let rows = rows_of c.args.order.now in
    let s = c.in_ok-solution.solution in
    let solved = solved_from l rows c.args.weights.now c.in_ok-net.net.nodes c.in_ok-net.net.edges.items c.as_slice.result.now s.layer.items s.flow.items s.cost c.in_ok-net.ensures.nodes c.in_ok-net.ensures.edges (c.as_slice.ensures.value ∙ c.in_ok-pairs.ensures) c.in_ok-solution.ensures in
    let tops = c.in_ok-top.top.items in
    let fs = c.in_ok-link_flow.link_flow.items in
    let pairs = c.in_ok-pairs.pairs.items in
    let links = c.as_slice-links.result.now in
    let out = c.with_flows-pairs.result.items in
    let fv = c.as_slice-flow.ensures.value in
    let lv = c.as_slice-links.ensures.value in
    let closed = subst (λ ls. AreClosedTops l ls tops) c.as_slice-2.ensures.value c.in_ok-top.ensures in
    let told = subst (λ xs. TellFlows xs c.args.weights.now fs) fv c.in_ok-link_flow.ensures in
    let writes = subst (λ ps. WritesFlows s.flow.items (2 * length l.links) ps (length ps) out) c.in_ok-pairs.ensures
    (subst (λ ks. WritesFlows s.flow.items (2 * length ks) pairs (length pairs) out) lv
    (subst (λ xs. WritesFlows xs (2 * length links) pairs (length pairs) out) fv c.with_flows-pairs.ensures)) in
    let height = c.weighed_height-height.ensures ∙ ap (λ ts. weighed_heights ts links c.args.weights.now) c.as_slice-3.ensures.value ∙ ap (λ ks. weighed_heights tops ks c.args.weights.now) lv in
    record {
      least = weighed_placing l rows c.requires.sound c.requires.rows c.args.weights.now c.requires.weights s.layer.items s.flow.items s.cost solved tops closed fs told out writes c.weighed_height-height.result height;
      within = closed.within;
    }
