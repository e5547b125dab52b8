-- The answers for the parts, as what is asked of the whole.
use Rattle.std.proofs.Common.{◌≡◌, ◌==◌, ℕ, ◌+◌, ◌<◌, ◌^◌, ℤ, pos, ◌<ℤ◌, List, [], ◌∷◌, ◌++◌, length, map, get_or, slice_index, arith, sym, ap, subst, inl, inr, ◌∙◌}
use Rattle.std.specs.List.{sum_by}
use Rattle.std.proofs.lemmas.Bool.{cases_eq, cases_lt}
use Rattle.std.proofs.lemmas.List.{ext_get_or, get_or-map, get_or_append_left, get_or_push, length-map, length_push, map_push}
use Rattle.std.proofs.lemmas.List.Sums.{sum-map}
use Rattle.network_laws.specs.declared.network.NetEdge.{NetEdge}
use Rattle.network_laws.specs.declared.network.Solution.{Solution}
use Rattle.network_laws.specs.Network.{edge_at, IsNetwork}
use Rattle.network_laws.specs.Layering.{layer_of, IsSolution}
use Rattle.network_laws.specs.Parts.{ArePartNumbers}
use Rattle.network_laws.proofs.Duality.{over_nodes}
use Rattle.network_parts.specs.Divided.{links_of, links_to, nodes_of, part_edges, part_flow, part_layers, part_nodes, place_of}
use Rattle.network_parts.specs.Dividing.{AreCounted, HoldEdges, HoldNodes, row_at}
use Rattle.network_parts.specs.Solved.{IsSolved, IsSolvedByParts}
use Rattle.network_parts.specs.Answers.{ArePartsSolved, AreSolved, AreWhole, IsWhole, costs_of, flow_in, layers_in}
use Rattle.network_parts.proofs.PlaceLemmas.{link_at, link_in, many_links, node_at, node_in, part_connected, part_network, place_less, place_node}
use Rattle.network_parts.proofs.RangeLemmas.{place_at}
use Rattle.network_parts.proofs.SumLemmas.{sum_over}
use Rattle.network_parts.proofs.JoinLemmas.{cost_fits, whole_cost, whole_from_zero, whole_solved}

-- ---- one solution more

pub none_solved : (sizes : List ℕ) (rows : List (List NetEdge)) (solutions : List Solution) → solutions ≡ [] → AreSolved sizes rows 0 solutions
none_solved sizes rows solutions e = record { as_many = ap length e; each = λ k h. absurd (omega (arith, h)) }

pub solved_more : (sizes : List ℕ) (rows : List (List NetEdge)) (n nodes : ℕ) (edges : List NetEdge) (solutions new : List Solution) (s : Solution) → nodes ≡ slice_index sizes n → edges ≡ row_at rows n
    → IsSolved nodes edges s.layer.items s.flow.items s.cost → new ≡ solutions ++ s ∷ [] → AreSolved sizes rows n solutions → AreSolved sizes rows (n + 1) new
solved_more sizes rows n nodes edges solutions new s size row solved pushed are =
    let many = are.as_many in
    let layers = ap (map (λ (x : Solution). x.layer.items)) pushed ∙ map_push (λ (x : Solution). x.layer.items) solutions s in
    let flows = ap (map (λ (x : Solution). x.flow.items)) pushed ∙ map_push (λ (x : Solution). x.flow.items) solutions s in
    let costs = ap costs_of pushed ∙ map_push (λ (x : Solution). x.cost) solutions s in
    let long_layers = length-map solutions (λ (x : Solution). x.layer.items) in
    let long_flows = length-map solutions (λ (x : Solution). x.flow.items) in
    let long_costs = length-map solutions (λ (x : Solution). x.cost) in
    record {
      as_many = ap length pushed ∙ length_push solutions s ∙ ap (λ k. k + 1) many;
      each = λ k h. elim (cases_lt k n) [
        | inl less ↦
            subst (λ (zs : List ℤ). IsSolved (slice_index sizes k) (row_at rows k) zs (flow_in new k) (slice_index (costs_of new) k))
            (sym (ap (λ ls. get_or ls k []) layers ∙ get_or_append_left (map (λ (x : Solution). x.layer.items) solutions) (s.layer.items ∷ []) [] k (omega (arith, less, many, long_layers))))
            (subst (λ (fs : List ℕ). IsSolved (slice_index sizes k) (row_at rows k) (layers_in solutions k) fs (slice_index (costs_of new) k))
            (sym (ap (λ fs. get_or fs k []) flows ∙ get_or_append_left (map (λ (x : Solution). x.flow.items) solutions) (s.flow.items ∷ []) [] k (omega (arith, less, many, long_flows))))
            (subst (λ (t : ℕ). IsSolved (slice_index sizes k) (row_at rows k) (layers_in solutions k) (flow_in solutions k) t)
            (sym (ap (λ (cs : List ℕ). get_or cs k 0) costs ∙ get_or_append_left (costs_of solutions) (s.cost ∷ []) 0 k (omega (arith, less, many, long_costs)))) (are.each k less)))
        | inr most ↦
            let same : k ≡ n = omega (arith, h, most) in
            subst (λ (zs : List ℤ). IsSolved (slice_index sizes k) (row_at rows k) zs (flow_in new k) (slice_index (costs_of new) k))
            (sym (ap (λ ls. get_or ls k []) layers ∙ get_or_push (map (λ (x : Solution). x.layer.items) solutions) s.layer.items [] k (omega (arith, same, many, long_layers))))
            (subst (λ (fs : List ℕ). IsSolved (slice_index sizes k) (row_at rows k) s.layer.items fs (slice_index (costs_of new) k))
            (sym (ap (λ fs. get_or fs k []) flows ∙ get_or_push (map (λ (x : Solution). x.flow.items) solutions) s.flow.items [] k (omega (arith, same, many, long_flows))))
            (subst (λ (t : ℕ). IsSolved (slice_index sizes k) (row_at rows k) s.layer.items s.flow.items t)
            (sym (ap (λ (cs : List ℕ). get_or cs k 0) costs ∙ get_or_push (costs_of solutions) s.cost 0 k (omega (arith, same, many, long_costs))))
            (subst (λ (i : ℕ). IsSolved (slice_index sizes i) (row_at rows i) s.layer.items s.flow.items s.cost) (sym same)
            (subst (λ (m : ℕ). IsSolved m (row_at rows n) s.layer.items s.flow.items s.cost) size (subst (λ (es : List NetEdge). IsSolved nodes es s.layer.items s.flow.items s.cost) row solved)))))
      ];
    }

-- ---- parts and their networks

-- each number below the count is that of a node
taken : (numbers : List ℕ) (edges : List NetEdge) (count k : ℕ) → ArePartNumbers (length numbers) edges numbers → AreCounted numbers (length numbers) count → k < count → (v : ℕ) × (v < length numbers) × (slice_index numbers v ≡ k)
taken numbers edges count k parts counted h =
    let found = counted.last (omega (arith, h)) in
    let last = found.2 in
    let inside = found.1 in
    elim (cases_eq (slice_index numbers found.0) k) [
      | inl same ↦ (found.0, found.1, same)
      | inr other ↦
          let before = parts.by_least found.0 k inside (omega (arith, h, last, other)) in
          let less = before.1 in
          (before.0, omega (arith, less, inside), before.2)
    ]

pub are_whole : (numbers : List ℕ) (edges : List NetEdge) (sizes : List ℕ) (rows : List (List NetEdge)) → IsNetwork (length numbers) edges → ArePartNumbers (length numbers) edges numbers → AreCounted numbers (length numbers) (length sizes)
    → length rows ≡ length sizes → HoldNodes numbers (length numbers) sizes → HoldEdges numbers edges (length edges) rows → AreWhole sizes rows
are_whole numbers edges sizes rows net parts counted many nodes links k h =
    let found = taken numbers edges (length sizes) k parts counted h in
    let some = place_less numbers k found.0 found.1 found.2 in
    let whole : IsWhole (part_nodes numbers k) (part_edges numbers edges k) = record { network = part_network numbers edges net parts k; some = omega (arith, some); connected = part_connected numbers edges net parts k } in
    subst (λ (n : ℕ). IsWhole n (row_at rows k)) (sym (nodes k h)) (subst (λ (es : List NetEdge). IsWhole (part_nodes numbers k) es) (sym (links k (omega (arith, h, many)))) whole)

pub parts_solved : (numbers : List ℕ) (edges : List NetEdge) (sizes : List ℕ) (rows : List (List NetEdge)) (solutions : List Solution) → length sizes ≡ length solutions → length rows ≡ length solutions
    → HoldNodes numbers (length numbers) sizes → HoldEdges numbers edges (length edges) rows → AreSolved sizes rows (length solutions) solutions → ArePartsSolved numbers edges solutions
parts_solved numbers edges sizes rows solutions as_many rows_many nodes links solved k h =
    subst (λ (n : ℕ). IsSolved n (part_edges numbers edges k) (layers_in solutions k) (flow_in solutions k) (slice_index (costs_of solutions) k)) (nodes k (omega (arith, h, as_many)))
    (subst (λ (es : List NetEdge). IsSolved (slice_index sizes k) es (layers_in solutions k) (flow_in solutions k) (slice_index (costs_of solutions) k)) (links k (omega (arith, h, rows_many))) (solved.each k h))

-- ---- the whole

module _ (numbers : List ℕ) (edges : List NetEdge) (solutions : List Solution) (part_solved : ArePartsSolved numbers edges solutions) where
  pub layers_long : (k : ℕ) → k < length solutions → length (layers_in solutions k) ≡ part_nodes numbers k
  layers_long k h = (part_solved k h).solves.layer_for_each

  pub flow_long : (k : ℕ) → k < length solutions → length (flow_in solutions k) ≡ length (links_of numbers edges k)
  flow_long k h = (part_solved k h).solves.flow_for_each ∙ many_links numbers edges k

  module _ (net : IsNetwork (length numbers) edges) (parts : ArePartNumbers (length numbers) edges numbers) (counted : AreCounted numbers (length numbers) (length solutions))
      (layers : List ℤ) (flow : List ℕ) (long : length layers ≡ length numbers) (flows : length flow ≡ length edges)
      (layers_are : (v : ℕ) → v < length numbers → layer_of layers v ≡ layer_of (layers_in solutions (slice_index numbers v)) (place_of numbers v))
      (flow_is : (e : ℕ) → e < length edges → slice_index flow e ≡ slice_index (flow_in solutions (slice_index numbers (edge_at edges e).tail)) (length (links_to numbers edges (slice_index numbers (edge_at edges e).tail) e))) where
    same_layers : (k : ℕ) → k < length solutions → layers_in solutions k ≡ part_layers numbers layers k
    same_layers k h =
        let many = length-map (nodes_of numbers k) (layer_of layers) in
        let length_is = layers_long k h in
        ext_get_or (pos 0) (layers_in solutions k) (part_layers numbers layers k) (length_is ∙ sym many)
        (λ i less. let inside : i < part_nodes numbers k = omega (arith, less, length_is) in
        let v = node_at numbers k i in
        let here = node_in numbers k i inside in
        ap (λ p. layer_of (layers_in solutions k) p) (sym (place_node numbers k i inside))
        ∙ ap (λ p. layer_of (layers_in solutions p) (place_of numbers v)) (sym here.1)
        ∙ sym (layers_are v here.0)
        ∙ sym (get_or-map (layer_of layers) (nodes_of numbers k) i 0 (pos 0) inside))

    same_flow : (k : ℕ) → k < length solutions → flow_in solutions k ≡ part_flow numbers edges flow k
    same_flow k h =
        let many = length-map (links_of numbers edges k) (slice_index flow) in
        let length_is = flow_long k h in
        ext_get_or 0 (flow_in solutions k) (part_flow numbers edges flow k) (length_is ∙ sym many)
        (λ j less. let inside : j < length (links_of numbers edges k) = omega (arith, less, length_is) in
        let e = link_at numbers edges k j in
        let here = link_in numbers edges k j inside in
        ap (λ p. slice_index (flow_in solutions k) p) (sym (place_at (λ d. slice_index numbers (edge_at edges d).tail == k) (length edges) j inside))
        ∙ ap (λ p. slice_index (flow_in solutions p) (length (links_to numbers edges p e))) (sym here.1)
        ∙ sym (flow_is e here.0)
        ∙ sym (get_or-map (slice_index flow) (links_of numbers edges k) j 0 0 inside))

    alone : (k : ℕ) → k < length solutions → IsSolved (part_nodes numbers k) (part_edges numbers edges k) (part_layers numbers layers k) (part_flow numbers edges flow k) (slice_index (costs_of solutions) k)
    alone k h =
        subst (λ (zs : List ℤ). IsSolved (part_nodes numbers k) (part_edges numbers edges k) zs (part_flow numbers edges flow k) (slice_index (costs_of solutions) k)) (same_layers k h)
        (subst (λ (fs : List ℕ). IsSolved (part_nodes numbers k) (part_edges numbers edges k) (layers_in solutions k) fs (slice_index (costs_of solutions) k)) (same_flow k h) (part_solved k h))

    total_is : sum_by (λ (s : Solution). s.cost) solutions ≡ over_nodes (slice_index (costs_of solutions)) (length solutions)
    total_is =
        sym (sum-map (λ (s : Solution). s.cost) solutions)
        ∙ sum_over (costs_of solutions)
        ∙ ap (over_nodes (slice_index (costs_of solutions))) (length-map solutions (λ (s : Solution). s.cost))

    pub answer_solves : (total : ℕ) → total ≡ sum_by (λ (s : Solution). s.cost) solutions → IsSolution (length numbers) edges layers flow total
    answer_solves total is =
        whole_solved numbers edges net parts (length solutions) counted layers flow long flows (slice_index (costs_of solutions)) (λ k h. (alone k h).solves) total (is ∙ total_is)

    pub answer_by_parts : IsSolvedByParts (length numbers) edges layers flow
    answer_by_parts =
        record {
          numbers = numbers;
          are_parts = parts;
          each = λ v h. let k = slice_index numbers v in (slice_index (costs_of solutions) k, alone k (counted.below v h));
        }

    pub costs_fit : ((v : ℕ) → v < length numbers → layer_of layers v <ℤ pos (2 ^ 63)) → sum_by (λ (s : Solution). s.cost) solutions < 2 ^ 128
    costs_fit small =
        let low = cost_fits (length numbers) edges layers net (whole_from_zero numbers edges net parts (length solutions) counted layers flow long flows (slice_index (costs_of solutions)) (λ k h. (alone k h).solves)).none_below small in
        let whole = whole_cost numbers edges net parts (length solutions) counted layers flow long flows (slice_index (costs_of solutions)) (λ k h. (alone k h).solves) in
        let total = total_is in
        omega (arith, low, whole, total)
