-- The nodes and edges of a part by their places, and the part's own network.
use Rattle.std.proofs.Common.{◌≡◌, ℕ, zero, suc, ◌<◌, ◌≤◌, ◌==◌, ◌⊎◌, cond, List, length, map, get_or, slice_index, arith, refl, sym, ap, subst, inl, inr, ◌∙◌, eq-eqb}
use Rattle.std.specs.List.{range_with_len, sum_by}
use Rattle.std.proofs.lemmas.Bool.{cases_Bool, eqb-true}
use Rattle.std.proofs.lemmas.List.{get_or-map, length-map}
use Rattle.std.proofs.lemmas.List.FromFn.{fill_by_all}
use Rattle.network_laws.specs.declared.network.NetEdge.{NetEdge}
use Rattle.network_laws.specs.Network.{edge_at, EndsBelow, HasEdge, InOnePart, IsAcyclic, IsNetwork, Joined, Walk}
use Rattle.network_laws.specs.Parts.{ArePartNumbers}
use Rattle.network_laws.proofs.Duality.{over_nodes}
use Rattle.network_laws.proofs.Naming.{part_edge}
use Rattle.network_parts.specs.Divided.{links_of, links_to, nodes_of, nodes_to, part_edges, part_nodes, place_of, renumbered}
use Rattle.network_parts.proofs.RangeLemmas.{few_picked, one_more, pick, pick_at, place_at}
use Rattle.network_parts.proofs.SumLemmas.{over_passed, over_range, sum_numbers}
use Rattle.flow_dual.proofs.Augmenting.{over_le}

abbrev pub node_at : List ℕ → ℕ → ℕ → ℕ
node_at numbers k i = get_or (nodes_of numbers k) i 0

abbrev pub link_at : List ℕ → List NetEdge → ℕ → ℕ → ℕ
link_at numbers edges k j = get_or (links_of numbers edges k) j 0

-- ---- nodes

pub node_in : (numbers : List ℕ) (k i : ℕ) → i < part_nodes numbers k → (node_at numbers k i < length numbers) × (slice_index numbers (node_at numbers k i) ≡ k)
node_in numbers k i h =
    let found = pick (λ v. slice_index numbers v == k) 0 (length numbers) i h in
    let high = found.1 in
    (omega (arith, high), eqb-true (slice_index numbers (node_at numbers k i)) k found.2)

pub place_node : (numbers : List ℕ) (k i : ℕ) → i < part_nodes numbers k → place_of numbers (node_at numbers k i) ≡ i
place_node numbers k i h =
    ap (λ p. length (nodes_to numbers p (node_at numbers k i))) (node_in numbers k i h).1 ∙ place_at (λ v. slice_index numbers v == k) (length numbers) i h

pub place_less : (numbers : List ℕ) (k v : ℕ) → v < length numbers → slice_index numbers v ≡ k → place_of numbers v < part_nodes numbers k
place_less numbers k v h is =
    subst (λ p. length (nodes_to numbers p v) < part_nodes numbers k) (sym is) (one_more (λ u. slice_index numbers u == k) v (length numbers) (eq-eqb (slice_index numbers v) k is) h)

pub node_place : (numbers : List ℕ) (k v : ℕ) → v < length numbers → slice_index numbers v ≡ k → node_at numbers k (place_of numbers v) ≡ v
node_place numbers k v h is =
    ap (λ p. node_at numbers k (length (nodes_to numbers p v))) is ∙ pick_at (λ u. slice_index numbers u == k) (length numbers) v h (eq-eqb (slice_index numbers v) k is)

-- ---- edges

pub link_in : (numbers : List ℕ) (edges : List NetEdge) (k j : ℕ) → j < length (links_of numbers edges k) → (link_at numbers edges k j < length edges) × (slice_index numbers (edge_at edges (link_at numbers edges k j)).tail ≡ k)
link_in numbers edges k j h =
    let found = pick (λ e. slice_index numbers (edge_at edges e).tail == k) 0 (length edges) j h in
    let high = found.1 in
    (omega (arith, high), eqb-true (slice_index numbers (edge_at edges (link_at numbers edges k j)).tail) k found.2)

pub link_less : (numbers : List ℕ) (edges : List NetEdge) (k e : ℕ) → e < length edges → slice_index numbers (edge_at edges e).tail ≡ k → length (links_to numbers edges k e) < length (links_of numbers edges k)
link_less numbers edges k e h is = one_more (λ d. slice_index numbers (edge_at edges d).tail == k) e (length edges) (eq-eqb (slice_index numbers (edge_at edges e).tail) k is) h

pub link_place : (numbers : List ℕ) (edges : List NetEdge) (k e : ℕ) → e < length edges → slice_index numbers (edge_at edges e).tail ≡ k → link_at numbers edges k (length (links_to numbers edges k e)) ≡ e
link_place numbers edges k e h is = pick_at (λ d. slice_index numbers (edge_at edges d).tail == k) (length edges) e h (eq-eqb (slice_index numbers (edge_at edges e).tail) k is)

pub many_links : (numbers : List ℕ) (edges : List NetEdge) (k : ℕ) → length (part_edges numbers edges k) ≡ length (links_of numbers edges k)
many_links numbers edges k = length-map (links_of numbers edges k) (λ e. renumbered numbers (edge_at edges e))

pub edge_is : (numbers : List ℕ) (edges : List NetEdge) (k j : ℕ) → j < length (links_of numbers edges k) → edge_at (part_edges numbers edges k) j ≡ renumbered numbers (edge_at edges (link_at numbers edges k j))
edge_is numbers edges k j h = get_or-map (λ e. renumbered numbers (edge_at edges e)) (links_of numbers edges k) j 0 (record { tail = 0; head = 0; least = 0; weight = 0 }) h

-- ---- sums

pub edges_are : (edges : List NetEdge) → edges ≡ map (edge_at edges) (range_with_len 0 (length edges))
edges_are edges = fill_by_all (edge_at edges) edges (length edges) (record { tail = 0; head = 0; least = 0; weight = 0 }) refl (λ k h. refl)

pub sum_whole : (f : NetEdge → ℕ) (edges : List NetEdge) → sum_by f edges ≡ over_nodes (λ e. f (edge_at edges e)) (length edges)
sum_whole f edges =
    ap (sum_by f) (edges_are edges) ∙ sum_numbers f (edge_at edges) (range_with_len 0 (length edges)) ∙ over_range (λ e. f (edge_at edges e)) (length edges)

sum_less : (f : NetEdge → ℕ) (numbers : List ℕ) (edges : List NetEdge) (k : ℕ) → ((e : ℕ) → f (renumbered numbers (edge_at edges e)) ≡ f (edge_at edges e)) → sum_by f (part_edges numbers edges k) ≤ sum_by f edges
sum_less f numbers edges k same =
    let part = sum_numbers f (λ e. renumbered numbers (edge_at edges e)) (links_of numbers edges k) ∙ over_passed (λ e. slice_index numbers (edge_at edges e).tail == k) (λ e. f (renumbered numbers (edge_at edges e))) (length edges) in
    let whole = sum_whole f edges in
    let le =
    over_le (λ e. cond (slice_index numbers (edge_at edges e).tail == k) (f (renumbered numbers (edge_at edges e))) 0) (λ e. f (edge_at edges e)) (length edges)
    (λ e h. let is = same e in
    elim (cases_Bool (slice_index numbers (edge_at edges e).tail == k)) [
      | inl t ↦ rw t (omega (arith, is))
      | inr u ↦ rw u (omega arith)
    ])
    in
    omega (arith, part, whole, le)

-- ---- the part's network

module _ (numbers : List ℕ) (edges : List NetEdge) (net : IsNetwork (length numbers) edges) (parts : ArePartNumbers (length numbers) edges numbers) where
  pub one_part : (e : ℕ) → e < length edges → slice_index numbers (edge_at edges e).tail ≡ slice_index numbers (edge_at edges e).head
  one_part e h = let ends = net.ends e h in (parts.same_part (edge_at edges e).tail (edge_at edges e).head ends.0 ends.1).1 (part_edge edges e h)

  part_ends : (k : ℕ) → EndsBelow (part_nodes numbers k) (part_edges numbers edges k)
  part_ends k j h =
      let inside : j < length (links_of numbers edges k) = subst (λ n. j < n) (many_links numbers edges k) h in
      let e = link_at numbers edges k j in
      let found = link_in numbers edges k j inside in
      let ends = net.ends e found.0 in
      subst (λ (x : NetEdge). (x.tail < part_nodes numbers k) × (x.head < part_nodes numbers k)) (sym (edge_is numbers edges k j inside))
      (place_less numbers k (edge_at edges e).tail ends.0 found.1, place_less numbers k (edge_at edges e).head ends.1 (sym (one_part e found.0) ∙ found.1))

  -- an edge of the part's network is one of the whole
  back_edge : (k a b : ℕ) → HasEdge (part_edges numbers edges k) a b → HasEdge edges (node_at numbers k a) (node_at numbers k b)
  back_edge k a b has =
      let inside : has.number < length (links_of numbers edges k) = subst (λ n. has.number < n) (many_links numbers edges k) has.is_there in
      let e = link_at numbers edges k has.number in
      let found = link_in numbers edges k has.number inside in
      let ends = net.ends e found.0 in
      let is = edge_is numbers edges k has.number inside in
      record {
        number = e;
        is_there = found.0;
        from_is = sym (node_place numbers k (edge_at edges e).tail ends.0 found.1) ∙ ap (node_at numbers k) (ap (λ (x : NetEdge). x.tail) (sym is) ∙ has.from_is);
        to_is = sym (node_place numbers k (edge_at edges e).head ends.1 (sym (one_part e found.0) ∙ found.1)) ∙ ap (node_at numbers k) (ap (λ (x : NetEdge). x.head) (sym is) ∙ has.to_is);
      }

  back_walk : (k a b n : ℕ) → Walk (part_edges numbers edges k) a b n → Walk edges (node_at numbers k a) (node_at numbers k b) n
  back_walk k a b zero w = ap (node_at numbers k) w
  back_walk k a b (suc n) w = (node_at numbers k w.0, back_walk k a w.0 n w.1, back_edge k w.0 b w.2)

  part_acyclic : (k : ℕ) → IsAcyclic (part_edges numbers edges k)
  part_acyclic k a n w = net.acyclic (node_at numbers k a) n (back_walk k a a (suc n) w)

  pub part_network : (k : ℕ) → IsNetwork (part_nodes numbers k) (part_edges numbers edges k)
  part_network k =
      let nodes = few_picked (λ v. slice_index numbers v == k) (length numbers) in
      let links = few_picked (λ e. slice_index numbers (edge_at edges e).tail == k) (length edges) in
      let many = many_links numbers edges k in
      let few_nodes = net.few_nodes in
      let few_edges = net.few_edges in
      let least = sum_less (λ (e : NetEdge). e.least) numbers edges k (λ e. refl) in
      let weight = sum_less (λ (e : NetEdge). e.weight) numbers edges k (λ e. refl) in
      let least_fits = net.least_fits in
      let weight_fits = net.weight_fits in
      record {
        few_nodes = omega (arith, nodes, few_nodes);
        few_edges = omega (arith, links, many, few_edges);
        ends = part_ends k;
        acyclic = part_acyclic k;
        least_fits = omega (arith, least, least_fits);
        weight_fits = omega (arith, weight, weight_fits);
      }

  -- an edge of the whole is one of its part's network
  forth_edge : (k e : ℕ) → e < length edges → slice_index numbers (edge_at edges e).tail ≡ k → HasEdge (part_edges numbers edges k) (place_of numbers (edge_at edges e).tail) (place_of numbers (edge_at edges e).head)
  forth_edge k e h is =
      let j = length (links_to numbers edges k e) in
      let less = link_less numbers edges k e h is in
      let at = edge_is numbers edges k j less ∙ ap (λ d. renumbered numbers (edge_at edges d)) (link_place numbers edges k e h is) in
      record {
        number = j;
        is_there = subst (λ n. j < n) (sym (many_links numbers edges k)) less;
        from_is = ap (λ (x : NetEdge). x.tail) at;
        to_is = ap (λ (x : NetEdge). x.head) at;
      }

  -- a step in the whole is one in the part's network
  forth_step : (k a b : ℕ) → slice_index numbers a ≡ k → (HasEdge edges a b ⊎ HasEdge edges b a)
      → (slice_index numbers b ≡ k) × (HasEdge (part_edges numbers edges k) (place_of numbers a) (place_of numbers b) ⊎ HasEdge (part_edges numbers edges k) (place_of numbers b) (place_of numbers a))
  forth_step k a b is (inl has) =
      let tail : slice_index numbers (edge_at edges has.number).tail ≡ k = ap (slice_index numbers) has.from_is ∙ is in
      let edge = forth_edge k has.number has.is_there tail in (
        ap (slice_index numbers) (sym has.to_is) ∙ sym (one_part has.number has.is_there) ∙ tail,
        inl (subst (λ x. HasEdge (part_edges numbers edges k) (place_of numbers a) (place_of numbers x)) has.to_is
            (subst (λ x. HasEdge (part_edges numbers edges k) (place_of numbers x) (place_of numbers (edge_at edges has.number).head)) has.from_is edge)),
      )
  forth_step k a b is (inr has) =
      let tail : slice_index numbers (edge_at edges has.number).tail ≡ k = one_part has.number has.is_there ∙ ap (slice_index numbers) has.to_is ∙ is in
      let edge = forth_edge k has.number has.is_there tail in (
        ap (slice_index numbers) (sym has.from_is) ∙ tail,
        inr (subst (λ x. HasEdge (part_edges numbers edges k) (place_of numbers b) (place_of numbers x)) has.to_is
            (subst (λ x. HasEdge (part_edges numbers edges k) (place_of numbers x) (place_of numbers (edge_at edges has.number).head)) has.from_is edge)),
      )

  forth_walk : (k a b n : ℕ) → slice_index numbers a ≡ k → Joined edges a b n → (slice_index numbers b ≡ k) × Joined (part_edges numbers edges k) (place_of numbers a) (place_of numbers b) n
  forth_walk k a b zero is w = (ap (slice_index numbers) (sym w) ∙ is, ap (place_of numbers) w)
  forth_walk k a b (suc n) is w =
      let before = forth_walk k a w.0 n is w.1 in
      let last = forth_step k w.0 b before.0 w.2 in
      (last.0, (place_of numbers w.0, before.1, last.1))

  -- every node of the part's network is joined to node 0
  pub part_connected : (k v : ℕ) → v < part_nodes numbers k → InOnePart (part_edges numbers edges k) 0 v
  part_connected k v h =
      let some : 0 < part_nodes numbers k = omega (arith, h) in
      let first = node_in numbers k 0 some in
      let here = node_in numbers k v h in
      let joined = (parts.same_part (node_at numbers k 0) (node_at numbers k v) first.0 here.0).0 (first.1 ∙ sym here.1) in
      let walk = (forth_walk k (node_at numbers k 0) (node_at numbers k v) joined.0 first.1 joined.1).1 in (
        joined.0,
        subst (λ x. Joined (part_edges numbers edges k) 0 x joined.0) (place_node numbers k v h)
            (subst (λ x. Joined (part_edges numbers edges k) x (place_of numbers (node_at numbers k v)) joined.0) (place_node numbers k 0 some) walk),
      )
