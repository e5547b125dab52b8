-- Solutions of the parts are one of the whole.
use Rattle.std.proofs.Common.{◌≡◌, ℕ, suc, ◌*◌, ◌<◌, ◌≤◌, ◌==◌, ◌^◌, cond, ℤ, pos, negsuc, ◌+ℤ◌, ◌-ℤ◌, ◌≤ℤ◌, ◌<ℤ◌, List, [], ◌∷◌, length, map, slice_index, arith, refl, sym, ap, subst, inl, inr, ◌∙◌, eq-eqb, ne_eqb}
use Rattle.std.specs.List.{range_with_len, sum_by}
use Rattle.std.proofs.lemmas.Bool.{cases_Bool, cases_eq, eqb-true}
use Rattle.std.proofs.lemmas.Int.{ints}
use Rattle.std.proofs.lemmas.List.{get_or-map, length-map}
use Rattle.std.proofs.lemmas.List.FromFn.{fill_by_all}
use Rattle.std.proofs.lemmas.List.Sums.{sum_by-cons}
use Rattle.std.proofs.Math.Nat.{mul-le-mul_left}
use Rattle.network_laws.specs.declared.network.NetEdge.{NetEdge}
use Rattle.network_laws.specs.Network.{edge_at, IsNetwork}
use Rattle.network_laws.specs.Layering.{at_node, cost, flow_value, inward, layer_of, natural, outward, rise, weighed, weights, Balances, IsLayering, IsSolution, PartsBeginAtZero}
use Rattle.network_laws.specs.Parts.{ArePartNumbers}
use Rattle.network_laws.proofs.Duality.{flow_bounds_cost, over_nodes, over_same}
use Rattle.network_parts.specs.Divided.{links_of, links_to, nodes_of, part_edges, part_flow, part_layers, part_nodes, place_of, renumbered}
use Rattle.network_parts.specs.Dividing.{AreCounted}
use Rattle.network_parts.proofs.RangeLemmas.{map_same}
use Rattle.network_parts.proofs.SumLemmas.{at_numbers, over_parts, over_passed, over_range, weighed_numbers}
use Rattle.network_parts.proofs.PlaceLemmas.{edge_is, edges_are, link_less, link_place, many_links, node_at, node_in, node_place, one_part, place_less}

-- ---- sums over the edges of a part and over all

amounts_are : (amounts : List ℕ) (n : ℕ) → length amounts ≡ n → amounts ≡ map (slice_index amounts) (range_with_len 0 n)
amounts_are amounts n long = fill_by_all (slice_index amounts) amounts n 0 long (λ k h. refl)

at_whole : (end : NetEdge → ℕ) (edges : List NetEdge) (amounts : List ℕ) (v : ℕ) → length amounts ≡ length edges
    → at_node end edges amounts v ≡ over_nodes (λ e. cond (end (edge_at edges e) == v) (slice_index amounts e) 0) (length edges)
at_whole end edges amounts v long =
    ap (λ (es : List NetEdge). at_node end es amounts v) (edges_are edges)
    ∙ ap (λ (as' : List ℕ). at_node end (map (edge_at edges) (range_with_len 0 (length edges))) as' v) (amounts_are amounts (length edges) long)
    ∙ at_numbers end (edge_at edges) (slice_index amounts) (range_with_len 0 (length edges)) v
    ∙ over_range (λ e. cond (end (edge_at edges e) == v) (slice_index amounts e) 0) (length edges)

weighed_whole : (g : NetEdge → ℕ) (edges : List NetEdge) (amounts : List ℕ) → length amounts ≡ length edges → weighed g edges amounts ≡ over_nodes (λ e. slice_index amounts e * g (edge_at edges e)) (length edges)
weighed_whole g edges amounts long =
    ap (λ (es : List NetEdge). weighed g es amounts) (edges_are edges)
    ∙ ap (λ (as' : List ℕ). weighed g (map (edge_at edges) (range_with_len 0 (length edges))) as') (amounts_are amounts (length edges) long)
    ∙ weighed_numbers g (edge_at edges) (slice_index amounts) (range_with_len 0 (length edges))
    ∙ over_range (λ e. slice_index amounts e * g (edge_at edges e)) (length edges)

map_twice : {X Y Z : Type 0} (f : Y → Z) (g : X → Y) (xs : List X) → map f (map g xs) ≡ map (λ x. f (g x)) xs
map_twice f g [] = refl
map_twice f g (x ∷ xs) = ap (λ ys. f (g x) ∷ ys) (map_twice f g xs)

-- the weights of a part's edges
part_weights : (numbers : List ℕ) (edges : List NetEdge) (k : ℕ) → weights (part_edges numbers edges k) ≡ part_flow numbers edges (weights edges) k
part_weights numbers edges k =
    map_twice (λ (x : NetEdge). x.weight) (λ e. renumbered numbers (edge_at edges e)) (links_of numbers edges k)
    ∙ map_same (λ e. slice_index numbers (edge_at edges e).tail == k) (λ e. (edge_at edges e).weight) (slice_index (weights edges)) (length edges)
    (λ e h t. sym (get_or-map (λ (x : NetEdge). x.weight) edges e (record { tail = 0; head = 0; least = 0; weight = 0 }) 0 h))

many_weights : (edges : List NetEdge) → length (weights edges) ≡ length edges
many_weights edges = length-map edges (λ (x : NetEdge). x.weight)

-- ---- the cost fits

weighed_low : (g : NetEdge → ℕ) (edges : List NetEdge) → ((k : ℕ) → k < length edges → g (edge_at edges k) ≤ 2 ^ 63) → weighed g edges (weights edges) ≤ sum_by (λ (e : NetEdge). e.weight) edges * 2 ^ 63
weighed_low g [] low = omega arith
weighed_low g (e ∷ es) low =
    let here = mul-le-mul_left e.weight (low 0 (omega arith)) in
    let rest = weighed_low g es (λ k h. low (suc k) (omega (arith, h))) in
    let all = sum_by-cons (λ (x : NetEdge). x.weight) e es in
    omega (arith, here, rest, all)

natural_low : (z : ℤ) (n : ℕ) → z ≤ℤ pos n → natural z ≤ n
natural_low (pos m) n h = omega (arith, ints, h)
natural_low (negsuc m) n h = omega arith

pub cost_fits : (nodes : ℕ) (edges : List NetEdge) (layers : List ℤ) → IsNetwork nodes edges → ((v : ℕ) → v < nodes → pos 0 ≤ℤ layer_of layers v) → ((v : ℕ) → v < nodes → layer_of layers v <ℤ pos (2 ^ 63)) → cost edges layers < 2 ^ 128
cost_fits nodes edges layers net from to =
    let low =
    weighed_low (rise layers) edges
    (λ k h. let ends = net.ends k h in
    let a = from (edge_at edges k).tail ends.0 in
    let b = to (edge_at edges k).head ends.1 in
    natural_low (layer_of layers (edge_at edges k).head -ℤ layer_of layers (edge_at edges k).tail) (2 ^ 63) (omega (arith, ints, a, b)))
    in
    let fits = net.weight_fits in
    omega (arith, low, fits)

-- ---- the whole from its parts

module _ (numbers : List ℕ) (edges : List NetEdge) (net : IsNetwork (length numbers) edges) (parts : ArePartNumbers (length numbers) edges numbers) (count : ℕ) (counted : AreCounted numbers (length numbers) count) where
  -- what is summed at a node of a part is what is summed there in the whole
  at_part : (end : NetEdge → ℕ) (amounts : List ℕ) (k v : ℕ) → ((x : NetEdge) → end (renumbered numbers x) ≡ place_of numbers (end x)) → ((e : ℕ) → e < length edges → (end (edge_at edges e) < length numbers) × (slice_index numbers (end (edge_at edges e)) ≡ slice_index numbers (edge_at edges e).tail))
      → length amounts ≡ length edges → v < length numbers → slice_index numbers v ≡ k → at_node end (part_edges numbers edges k) (part_flow numbers edges amounts k) (place_of numbers v) ≡ at_node end edges amounts v
  at_part end amounts k v same ends long h is =
      at_numbers end (λ e. renumbered numbers (edge_at edges e)) (slice_index amounts) (links_of numbers edges k) (place_of numbers v)
      ∙ over_passed (λ e. slice_index numbers (edge_at edges e).tail == k) (λ e. cond (end (renumbered numbers (edge_at edges e)) == place_of numbers v) (slice_index amounts e) 0) (length edges)
      ∙ over_same (λ e. cond (slice_index numbers (edge_at edges e).tail == k) (cond (end (renumbered numbers (edge_at edges e)) == place_of numbers v) (slice_index amounts e) 0) 0) (λ e. cond (end (edge_at edges e) == v) (slice_index amounts e) 0) (length edges) each
      ∙ sym (at_whole end edges amounts v long)
    where
      each : (e : ℕ) → e < length edges → cond (slice_index numbers (edge_at edges e).tail == k) (cond (end (renumbered numbers (edge_at edges e)) == place_of numbers v) (slice_index amounts e) 0) 0 ≡ cond (end (edge_at edges e) == v) (slice_index amounts e) 0
      each e less =
          let x = edge_at edges e in
          elim (cases_eq (end x) v) [
            | inl here ↦
                rw (
                  eq-eqb (slice_index numbers x.tail) k (sym (ends e less).1 ∙ ap (slice_index numbers) here ∙ is),
                  eq-eqb (end (renumbered numbers x)) (place_of numbers v) (same x ∙ ap (place_of numbers) here),
                  eq-eqb (end x) v here,
                ) refl
            | inr other ↦
                elim (cases_Bool (slice_index numbers x.tail == k)) [
                  | inl t ↦
                      let part : slice_index numbers (end x) ≡ k = (ends e less).1 ∙ eqb-true (slice_index numbers x.tail) k t in
                      rw (
                        t,
                        ne_eqb (end (renumbered numbers x)) (place_of numbers v)
                            (λ q. other (sym (node_place numbers k (end x) (ends e less).0 part) ∙ ap (node_at numbers k) (sym (same x) ∙ q) ∙ node_place numbers k v h is)),
                        ne_eqb (end x) v other,
                      ) refl
                  | inr f ↦ rw (f, ne_eqb (end x) v other) refl
                ]
          ]

  at_tails : (amounts : List ℕ) (k v : ℕ) → length amounts ≡ length edges → v < length numbers → slice_index numbers v ≡ k → outward (part_edges numbers edges k) (part_flow numbers edges amounts k) (place_of numbers v) ≡ outward edges amounts v
  at_tails amounts k v long h is = at_part (λ (x : NetEdge). x.tail) amounts k v (λ x. refl) (λ e less. ((net.ends e less).0, refl)) long h is

  at_heads : (amounts : List ℕ) (k v : ℕ) → length amounts ≡ length edges → v < length numbers → slice_index numbers v ≡ k → inward (part_edges numbers edges k) (part_flow numbers edges amounts k) (place_of numbers v) ≡ inward edges amounts v
  at_heads amounts k v long h is = at_part (λ (x : NetEdge). x.head) amounts k v (λ x. refl) (λ e less. ((net.ends e less).1, sym (one_part numbers edges net parts e less))) long h is

  -- a sum over all edges is the sum of those over the parts
  weighed_parts : (g : NetEdge → ℕ) (in_part : ℕ → NetEdge → ℕ) (amounts : List ℕ) → length amounts ≡ length edges → ((e : ℕ) → e < length edges → in_part (slice_index numbers (edge_at edges e).tail) (renumbered numbers (edge_at edges e)) ≡ g (edge_at edges e))
      → over_nodes (λ k. weighed (in_part k) (part_edges numbers edges k) (part_flow numbers edges amounts k)) count ≡ weighed g edges amounts
  weighed_parts g in_part amounts long same =
      over_same (λ k. weighed (in_part k) (part_edges numbers edges k) (part_flow numbers edges amounts k)) (λ k. over_nodes (λ e. cond (slice_index numbers (edge_at edges e).tail == k) (slice_index amounts e * g (edge_at edges e)) 0) (length edges)) count each
      ∙ over_parts (λ e. slice_index numbers (edge_at edges e).tail) (λ e. slice_index amounts e * g (edge_at edges e)) (length edges) count (λ e less. counted.below (edge_at edges e).tail (net.ends e less).0)
      ∙ sym (weighed_whole g edges amounts long)
    where
      one : (k e : ℕ) → e < length edges → cond (slice_index numbers (edge_at edges e).tail == k) (slice_index amounts e * in_part k (renumbered numbers (edge_at edges e))) 0 ≡ cond (slice_index numbers (edge_at edges e).tail == k) (slice_index amounts e * g (edge_at edges e)) 0
      one k e less =
          elim (cases_Bool (slice_index numbers (edge_at edges e).tail == k)) [
            | inl t ↦
                let here : in_part k (renumbered numbers (edge_at edges e)) ≡ g (edge_at edges e) = ap (λ p. in_part p (renumbered numbers (edge_at edges e))) (sym (eqb-true (slice_index numbers (edge_at edges e).tail) k t)) ∙ same e less in
                ap (λ n. cond (slice_index numbers (edge_at edges e).tail == k) (slice_index amounts e * n) 0) here
            | inr f ↦ rw f refl
          ]

      each : (k : ℕ) → k < count → weighed (in_part k) (part_edges numbers edges k) (part_flow numbers edges amounts k) ≡ over_nodes (λ e. cond (slice_index numbers (edge_at edges e).tail == k) (slice_index amounts e * g (edge_at edges e)) 0) (length edges)
      each k h =
          weighed_numbers (in_part k) (λ e. renumbered numbers (edge_at edges e)) (slice_index amounts) (links_of numbers edges k)
          ∙ over_passed (λ e. slice_index numbers (edge_at edges e).tail == k) (λ e. slice_index amounts e * in_part k (renumbered numbers (edge_at edges e))) (length edges)
          ∙ over_same (λ e. cond (slice_index numbers (edge_at edges e).tail == k) (slice_index amounts e * in_part k (renumbered numbers (edge_at edges e))) 0) (λ e. cond (slice_index numbers (edge_at edges e).tail == k) (slice_index amounts e * g (edge_at edges e)) 0) (length edges) (one k)

  -- ---- parts that are solved

  module _ (layers : List ℤ) (flow : List ℕ) (long : length layers ≡ length numbers) (flows : length flow ≡ length edges) (costs : ℕ → ℕ)
      (solved : (k : ℕ) → k < count → IsSolution (part_nodes numbers k) (part_edges numbers edges k) (part_layers numbers layers k) (part_flow numbers edges flow k) (costs k)) where
    layer_there : (k v : ℕ) → v < length numbers → slice_index numbers v ≡ k → layer_of (part_layers numbers layers k) (place_of numbers v) ≡ layer_of layers v
    layer_there k v h is =
        get_or-map (layer_of layers) (nodes_of numbers k) (place_of numbers v) 0 (pos 0) (place_less numbers k v h is) ∙ ap (layer_of layers) (node_place numbers k v h is)

    below : (v : ℕ) → v < length numbers → slice_index numbers v < count
    below = counted.below

    whole_layering : IsLayering edges layers
    whole_layering e h =
        let x = edge_at edges e in
        let k = slice_index numbers x.tail in
        let ends = net.ends e h in
        let less = link_less numbers edges k e h refl in
        let j = length (links_to numbers edges k e) in
        let at = edge_is numbers edges k j less ∙ ap (λ d. renumbered numbers (edge_at edges d)) (link_place numbers edges k e h refl) in
        let up = (solved k (below x.tail ends.0)).layering j (subst (λ n. j < n) (sym (many_links numbers edges k)) less) in
        let here =
        subst (λ (y : NetEdge). (layer_of (part_layers numbers layers k) y.tail +ℤ pos y.least) ≤ℤ layer_of (part_layers numbers layers k) y.head) at up
        in
        let tail = layer_there k x.tail ends.0 refl in
        let head = layer_there k x.head ends.1 (sym (one_part numbers edges net parts e h)) in
        omega (arith, ints, here, tail, head)

    pub whole_from_zero : PartsBeginAtZero (length numbers) edges layers
    whole_from_zero =
        record {
          none_below = λ v h.
              let k = slice_index numbers v in
              let low = (solved k (below v h)).from_zero.none_below (place_of numbers v) (place_less numbers k v h refl) in
              let is = layer_there k v h refl in
              omega (arith, ints, low, is);
          reached = λ v h.
              let k = slice_index numbers v in
              let found = (solved k (below v h)).from_zero.reached (place_of numbers v) (place_less numbers k v h refl) in
              let in_part = node_in numbers k found.0 found.1 in (
                node_at numbers k found.0,
                in_part.0,
                (parts.same_part (node_at numbers k found.0) v in_part.0 h).0 in_part.1,
                sym (get_or-map (layer_of layers) (nodes_of numbers k) found.0 0 (pos 0) found.1) ∙ found.3,
              );
        }

    whole_balances : Balances (length numbers) edges flow
    whole_balances v h =
        let k = slice_index numbers v in
        let balance = (solved k (below v h)).balances (place_of numbers v) (place_less numbers k v h refl) in
        let ws = part_weights numbers edges k in
        let in_flow = at_heads flow k v flows h refl in
        let out_flow = at_tails flow k v flows h refl in
        let in_weights = ap (λ (as' : List ℕ). inward (part_edges numbers edges k) as' (place_of numbers v)) ws ∙ at_heads (weights edges) k v (many_weights edges) h refl in
        let out_weights = ap (λ (as' : List ℕ). outward (part_edges numbers edges k) as' (place_of numbers v)) ws ∙ at_tails (weights edges) k v (many_weights edges) h refl in
        omega (arith, balance, in_flow, out_flow, in_weights, out_weights)

    pub whole_cost : cost edges layers ≡ over_nodes costs count
    whole_cost =
        sym (weighed_parts (rise layers) (λ k. rise (part_layers numbers layers k)) (weights edges) (many_weights edges) rises)
        ∙ over_same (λ k. weighed (rise (part_layers numbers layers k)) (part_edges numbers edges k) (part_flow numbers edges (weights edges) k)) costs count
        (λ k h. ap (λ (as' : List ℕ). weighed (rise (part_layers numbers layers k)) (part_edges numbers edges k) as') (sym (part_weights numbers edges k)) ∙ sym (solved k h).cost_is)
      where
        rises : (e : ℕ) → e < length edges → rise (part_layers numbers layers (slice_index numbers (edge_at edges e).tail)) (renumbered numbers (edge_at edges e)) ≡ rise layers (edge_at edges e)
        rises e h =
            let x = edge_at edges e in
            let ends = net.ends e h in
            ap (λ z. natural (z -ℤ layer_of (part_layers numbers layers (slice_index numbers x.tail)) (place_of numbers x.tail))) (layer_there (slice_index numbers x.tail) x.head ends.1 (sym (one_part numbers edges net parts e h)))
            ∙ ap (λ z. natural (layer_of layers x.head -ℤ z)) (layer_there (slice_index numbers x.tail) x.tail ends.0 refl)

    whole_value : flow_value edges flow ≡ over_nodes costs count
    whole_value =
        sym (weighed_parts (λ (x : NetEdge). x.least) (λ k x. x.least) flow flows (λ e h. refl))
        ∙ over_same (λ k. flow_value (part_edges numbers edges k) (part_flow numbers edges flow k)) costs count (λ k h. (solved k h).value_is)

    pub whole_solved : (total : ℕ) → total ≡ over_nodes costs count → IsSolution (length numbers) edges layers flow total
    whole_solved total is =
        record {
          layer_for_each = long;
          flow_for_each = flows;
          layering = whole_layering;
          from_zero = whole_from_zero;
          cost_is = is ∙ sym whole_cost;
          balances = whole_balances;
          value_is = whole_value ∙ sym is;
          least = λ other up.
              let bound = flow_bounds_cost (length numbers) edges flow net.ends whole_balances other up in
              let value = whole_value in
              omega (arith, bound, value, is);
        }
