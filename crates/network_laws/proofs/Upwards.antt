-- A network whose edges lead to greater numbers has no cycle.
use Rattle.std.proofs.Common.{◌≡◌, ℕ, zero, suc, ◌+◌, ◌^◌, ◌<◌, ◌≤◌, List, length, take, arith, refl, ap, ◌∙◌}
use Rattle.std.specs.List.{sum_by}
use Rattle.std.proofs.lemmas.List.{take_all}
use Rattle.std.proofs.lemmas.List.Sums.{sum_by_more}
use borrow.Author.Count.{below_more}
use Rattle.network_laws.specs.declared.network.NetEdge.{NetEdge}
use Rattle.network_laws.specs.Network.{edge_at, Walk, IsNetwork}
use Rattle.network_laws.specs.Sorted.{SumsEdges}

climbs : (edges : List NetEdge) → ((k : ℕ) → k < length edges → (edge_at edges k).tail < (edge_at edges k).head) → (a b n : ℕ) → Walk edges a b n → a + n ≤ b
climbs edges up a b zero w = omega (arith, w)
climbs edges up a b (suc n) w =
    let r = climbs edges up a w.0 n w.1 in
    let e = w.2 in
    let u = up e.number e.is_there in
    let x = e.from_is in
    let y = e.to_is in
    omega (arith, r, u, x, y)

pub sums_start : (nodes : ℕ) (edges : List NetEdge) → SumsEdges nodes edges 0 0 0
sums_start nodes edges = record { upwards = λ k l. absurd (omega (arith, l)); least_is = refl; weight_is = refl; least_small = omega arith; weight_small = omega arith }

pub sums_more : (nodes : ℕ) (edges : List NetEdge) (i least weight : ℕ) → i < length edges → (edge_at edges i).head < nodes → (edge_at edges i).tail < (edge_at edges i).head → (edge_at edges i).least < 2 ^ 64 → (edge_at edges i).weight < 2 ^ 64 → SumsEdges nodes edges i least weight → SumsEdges nodes edges (i + 1) (least + (edge_at edges i).least) (weight + (edge_at edges i).weight)
sums_more nodes edges i least weight l below up small light s =
    let a = s.least_is in
    let b = s.weight_is in
    let x = s.least_small in
    let y = s.weight_small in
    let m = sum_by_more (λ (e : NetEdge). e.least) edges i (record { tail = 0; head = 0; least = 0; weight = 0 }) l in
    let n = sum_by_more (λ (e : NetEdge). e.weight) edges i (record { tail = 0; head = 0; least = 0; weight = 0 }) l in
    record {
      upwards = below_more (λ k. ((edge_at edges k).tail < (edge_at edges k).head) × ((edge_at edges k).head < nodes)) i s.upwards (up, below);
      least_is = omega (arith, a, m);
      weight_is = omega (arith, b, n);
      least_small = omega (arith, x, small);
      weight_small = omega (arith, y, light);
    }

pub is_network : (nodes : ℕ) (edges : List NetEdge) (least weight : ℕ) → nodes ≤ 2 ^ 23 → length edges ≤ 2 ^ 24 → SumsEdges nodes edges (length edges) least weight → least < 2 ^ 62 → weight < 2 ^ 62 → IsNetwork nodes edges
is_network nodes edges least weight few few_edges s low light =
    let whole : take (length edges) edges ≡ edges = take_all (length edges) edges (omega arith) in
    let a = s.least_is ∙ ap (sum_by (λ (e : NetEdge). e.least)) whole in
    let b = s.weight_is ∙ ap (sum_by (λ (e : NetEdge). e.weight)) whole in
    record {
      few_nodes = few;
      few_edges = few_edges;
      ends = λ k l. let u = s.upwards k l in let x = u.0 in let y = u.1 in (omega (arith, x, y), y);
      acyclic = λ v n w. let c = climbs edges (λ k l. (s.upwards k l).0) v v (suc n) w in absurd (omega (arith, c));
      least_fits = omega (arith, a, low);
      weight_fits = omega (arith, b, light);
    }
