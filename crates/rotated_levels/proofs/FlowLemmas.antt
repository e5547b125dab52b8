-- The written flow shows that the span is least.
use Rattle.std.proofs.Common.{◌≡◌, ℕ, ◌+◌, ◌*◌, ◌<◌, ◌&&◌, Bool, true, false, not, cond, eqb, map, length, slice_index, refl, sym, ap, ap₂, ◌∙◌, subst, add_comm, mul-one}
use Rattle.std.proofs.lemmas.Bool.{and_right, not_from_true, not_from_false}
use Rattle.elk_doc.specs.declared.document.LevelOptions.{LevelOptions}
use Rattle.elk_doc.specs.declared.drawing.Certificate.{Certificate}
use Rattle.elk_doc.specs.declared.drawing.Placed.{Placed}
use Rattle.elk_doc.specs.Document.{Document}
use Rattle.elk_doc.specs.Drawing.{tail_node, head_node, flow_in}
use Rattle.elk_doc.specs.Level.{edges_of, IsChild, is_edge_of, is_loop, place_of_child}
use Rattle.elk_doc.specs.Numbers.{sum_below}
use Rattle.elk_doc.specs.Sound.{IsSound}
use Rattle.elk_doc.specs.FlowProof.{FlowProof, weight_at}
use Rattle.network_laws.specs.declared.network.NetEdge.{NetEdge}
use Rattle.network_laws.specs.Layering.{at_node, weights, inward, outward}
use Rattle.level_model.specs.Level as plan
use Rattle.level_layout.specs.Certificate.{links, network_edge, network, flow_at}
use Rattle.level_model.proofs.Lists.{Has}
use Rattle.working_frame.specs.Rotated.{edge_number, level_of}
use Rattle.working_frame.proofs.NumberedLemmas.{numbers_match, levels_are_listed, eqb_iff, same_place}
use Rattle.rotated_levels.specs.Certified.{IsCertified}
use Rattle.rotated_levels.proofs.SumLemmas.{sum_and, total_same, weighed_listed, weights_listed, at_node_listed}
use Rattle.rotated_levels.proofs.EdgeLemmas.{edge_known, by_number, link_in, sum_over_links}

and_true : (x y : Bool) → y ≡ true → (x && y) ≡ x
and_true true y h = h
and_true false y h = refl

module _ (d : Document) (p : Placed) (n : ℕ) (o : LevelOptions) (made written : Certificate) (s : IsSound d) (c : IsCertified d p n o made written) where
  flow_there : (i : ℕ) → i < length (edges_of d n) → flow_in d n written (edge_number d n i) ≡ flow_at made.flow i
  flow_there i h =
      ap (λ k. slice_index written.flow k) ((numbers_match d n).edges.place_at i h) ∙ ap (λ xs. slice_index xs i) c.numbered.flow

  loop_flow : (i : ℕ) → i < length (edges_of d n) → plan.is_loop (level_of d p n o) i ≡ true → flow_in d n written (edge_number d n i) ≡ 0
  loop_flow i h loop =
      flow_there i h ∙ c.of_level.loops i (subst (λ m. i < m) (sym (levels_are_listed d p n o).edge_count) h) loop

  sum_there : sum_below (is_edge_of d n) (flow_in d n written) (length d.edges) ≡ written.span
  sum_there =
      let l = level_of d p n o in
      let net = network_edge l made.reversed in
      sum_over_links d p n o (flow_in d n written) loop_flow
      ∙ total_same (λ i. flow_in d n written (edge_number d n i)) (λ i. flow_at made.flow i * (net i).least) (links l)
      (λ i h. flow_there i (link_in d p n o i h).0 ∙ sym (mul-one (flow_at made.flow i)))
      ∙ sym (weighed_listed (λ (e : NetEdge). e.least) net (flow_at made.flow) (links l))
      ∙ c.of_level.solves.value_is
      ∙ sym c.numbered.span

  -- What edges have at a child is what links have at its place: `node` says at which child an edge is counted, `end` the same
  -- in the network, and f and g how much.
  at_child : (node : ℕ → ℕ) (end : NetEdge → ℕ) (f g : ℕ → ℕ) (a : ℕ) → IsChild d n a
      → ((i : ℕ) → i < length (edges_of d n) → end (network_edge (level_of d p n o) made.reversed i) ≡ place_of_child d n (node (edge_number d n i)))
      → ((i : ℕ) → i < length (edges_of d n) → IsChild d n (node (edge_number d n i)))
      → ((i : ℕ) → i < length (edges_of d n) → f (edge_number d n i) ≡ g i)
      → sum_below (λ e. is_edge_of d n e && (eqb (node e) a && not (is_loop d e))) f (length d.edges)
      ≡ at_node end (network (level_of d p n o) made.reversed) (map g (links (level_of d p n o))) (place_of_child d n a)
  at_child node end f g a ha ends child same =
      let l = level_of d p n o in
      let net = network_edge l made.reversed in
      let q : ℕ → Bool = λ e. eqb (node e) a && not (is_loop d e) in
      let loops : (i : ℕ) → i < length (edges_of d n) → plan.is_loop l i ≡ true → cond (q (edge_number d n i)) (f (edge_number d n i)) 0 ≡ 0 =
      λ i h loop. ap (λ b. cond b (f (edge_number d n i)) 0)
      (and_right (eqb (node (edge_number d n i)) a) (not (is_loop d (edge_number d n i)))
      (not_from_true (is_loop d (edge_number d n i)) (sym (edge_known d p n o made written s c i h).loop ∙ loop))) in
      let each : (i : ℕ) → Has (links l) i → cond (q (edge_number d n i)) (f (edge_number d n i)) 0 ≡ cond (eqb (end (net i)) (place_of_child d n a)) (g i) 0 =
      λ i h. let e = edge_number d n i in
      let r = link_in d p n o i h in
      let k = edge_known d p n o made written s c i r.0 in
      ap₂ (λ b m. cond b m 0)
      (and_true (eqb (node e) a) (not (is_loop d e)) (not_from_false (is_loop d e) (sym k.loop ∙ r.1))
      ∙ eqb_iff (node e) a (place_of_child d n (node e)) (place_of_child d n a) (λ z. ap (place_of_child d n) z) (λ z. same_place d n (node e) a (child i r.0) ha z)
      ∙ ap (λ z. eqb z (place_of_child d n a)) (sym (ends i r.0)))
      (same i r.0) in
      sum_and (is_edge_of d n) q f (length d.edges)
      ∙ sum_over_links d p n o (λ e. cond (q e) (f e) 0) loops
      ∙ total_same (λ i. cond (q (edge_number d n i)) (f (edge_number d n i)) 0) (λ i. cond (eqb (end (net i)) (place_of_child d n a)) (g i) 0) (links l) each
      ∙ sym (at_node_listed end net g (links l) (place_of_child d n a))

  abbrev flows_at : (ℕ → ℕ) → ℕ → ℕ
  flows_at node a = sum_below (λ e. is_edge_of d n e && (eqb (node e) a && not (is_loop d e))) (flow_in d n written) (length d.edges)

  abbrev weights_at : (ℕ → ℕ) → ℕ → ℕ
  weights_at node a = sum_below (λ e. is_edge_of d n e && (eqb (node e) a && not (is_loop d e))) (weight_at d) (length d.edges)

  balance_there : (a : ℕ) → IsChild d n a → flows_at (head_node d p) a + weights_at (tail_node d p) a ≡ flows_at (tail_node d p) a + weights_at (head_node d p) a
  balance_there a h =
      let l = level_of d p n o in
      let net = network_edge l made.reversed in
      let v = place_of_child d n a in
      let edges = network l made.reversed in
      let known = edge_known d p n o made written s c in
      let weighs : map (λ i. (net i).weight) (links l) ≡ weights edges = sym (weights_listed net (links l)) in
      let in_flow = at_child (head_node d p) (λ e. e.head) (flow_in d n written) (flow_at made.flow) a h (λ i k. (known i k).head) (λ i k. (known i k).head_child) flow_there in
      let out_flow = at_child (tail_node d p) (λ e. e.tail) (flow_in d n written) (flow_at made.flow) a h (λ i k. (known i k).tail) (λ i k. (known i k).tail_child) flow_there in
      let in_weight = at_child (head_node d p) (λ e. e.head) (weight_at d) (λ i. (net i).weight) a h (λ i k. (known i k).head) (λ i k. (known i k).head_child) (λ i k. sym (known i k).weight)
      ∙ ap (λ ws. inward edges ws v) weighs in
      let out_weight = at_child (tail_node d p) (λ e. e.tail) (weight_at d) (λ i. (net i).weight) a h (λ i k. (known i k).tail) (λ i k. (known i k).tail_child) (λ i k. sym (known i k).weight)
      ∙ ap (λ ws. outward edges ws v) weighs in
      let inside : v < length l.children = subst (λ m. v < m) (sym (levels_are_listed d p n o).child_count) ((numbers_match d n).children.place_in a h) in
      ap₂ (λ x y. x + y) in_flow out_weight
      ∙ c.of_level.solves.balances v inside
      ∙ ap₂ (λ x y. x + y) (sym in_weight) (sym out_flow)
      ∙ add_comm (weights_at (head_node d p) a) (flows_at (tail_node d p) a)

  pub flow_proof_there : FlowProof d p n written
  flow_proof_there =
      record {
        loops = by_number d n (λ e. is_loop d e ≡ true → flow_in d n written e ≡ 0)
            (λ i h loop. loop_flow i h ((edge_known d p n o made written s c i h).loop ∙ loop));
        balance = balance_there;
        sum = sum_there;
      }
