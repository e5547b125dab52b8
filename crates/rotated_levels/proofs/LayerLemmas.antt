-- The written layers are a layering with the written span, and each part begins in layer 0.
use Rattle.std.proofs.Common.{◌≡◌, ℕ, zero, suc, ◌*◌, ◌<◌, ◌⊎◌, inl, inr, ⊎_elim, Bool, true, false, cond, map, length, get_or, slice_index, ℤ, pos, negsuc, ◌+ℤ◌, ◌-ℤ◌, ◌*ℤ◌, ◌≤ℤ◌, IsFalse, refl, sym, ap, ap₂, ◌∙◌, subst, subst₂, arith, mul-zero}
use Rattle.std.proofs.lemmas.Bool.{cases_Bool}
use Rattle.std.proofs.lemmas.Int.{ints}
use Rattle.std.proofs.lemmas.List.{get_or-map, length-map}
use Rattle.std.proofs.Math.ListN as lists
use Rattle.elk_doc.specs.declared.document.End.{End}
use Rattle.elk_doc.specs.declared.document.LevelOptions.{LevelOptions}
use Rattle.elk_doc.specs.declared.drawing.Certificate.{Certificate}
use Rattle.elk_doc.specs.declared.drawing.Placed.{Placed}
use Rattle.elk_doc.specs.Document.{Document, edge_at}
use Rattle.elk_doc.specs.Drawing.{is_listed, tail_node, head_node}
use Rattle.elk_doc.specs.Level.{children, edges_of, IsEdge, is_edge_of, is_loop, node_of_end, place_of_child, source_node, target_node}
use Rattle.elk_doc.specs.Paths.{Reaches, stay, go}
use Rattle.elk_doc.specs.Sound.{IsSound}
use Rattle.elk_doc.specs.Apart.{AreJoined}
use Rattle.elk_doc.specs.Layering.{Layering, IsLayering, span_of, written_layer}
use Rattle.network_laws.specs.declared.network.NetEdge.{NetEdge}
use Rattle.network_laws.specs.Network.{edge_at as net_at, HasEdge, Joined}
use Rattle.network_laws.specs.Layering.{layer_of, natural, rise, weighed}
use Rattle.level_model.specs.Level as plan
use Rattle.level_layout.specs.Certificate.{links, network_edge, network}
use Rattle.level_model.proofs.Lists.{Has, has_at, at_has}
use Rattle.working_frame.specs.Rotated.{child_number, edge_number, level_of}
use Rattle.working_frame.proofs.NumberedLemmas.{numbers_match, levels_are_listed}
use Rattle.rotated_levels.specs.Certified.{IsCertified, PartsBeginAtZero}
use Rattle.rotated_levels.proofs.SumLemmas.{total_same, total_natural, weighed_listed, weights_listed}
use Rattle.rotated_levels.proofs.EdgeLemmas.{edge_known, by_number, in_links, link_in, sum_over_links}
use Rattle.rotated_levels.proofs.ReversedLemmas.{at_place}

scale : (w : ℕ) (z : ℤ) → pos 0 ≤ℤ z → pos w *ℤ z ≡ pos (w * natural z)
scale w (pos n) h = refl
scale w (negsuc n) h = absurd (omega (arith, ints, h))

no_rise : (w : ℕ) (z : ℤ) → w * natural (z -ℤ z) ≡ 0
no_rise w z = let e : z -ℤ z ≡ pos 0 = omega (arith, ints) in ap (λ y. w * natural y) e ∙ mul-zero w

not_below : (y z : ℤ) → (y +ℤ pos 1) ≤ℤ z → pos 0 ≤ℤ (z -ℤ y)
not_below y z h = omega (arith, ints, h)

at_zero : (z : ℤ) → pos 0 ≤ℤ (z -ℤ z)
at_zero z = omega (arith, ints)

-- the tail and the head are the source and the target, in one order or the other
either : (d : Document) (t : Bool) (x y : End) (a b : ℕ) → node_of_end d (cond t y x) ≡ a → node_of_end d (cond t x y) ≡ b
    → ((node_of_end d x ≡ a) × (node_of_end d y ≡ b)) ⊎ ((node_of_end d x ≡ b) × (node_of_end d y ≡ a))
either d true x y a b tail head = inr (head, tail)
either d false x y a b tail head = inl (tail, head)

swapped : (a b x y : ℕ) → ((x ≡ a) × (y ≡ b)) ⊎ ((x ≡ b) × (y ≡ a)) → ((x ≡ b) × (y ≡ a)) ⊎ ((x ≡ a) × (y ≡ b))
swapped a b x y (inl h) = inr h
swapped a b x y (inr h) = inl h

module _ (d : Document) (p : Placed) (n : ℕ) (o : LevelOptions) (made written : Certificate) (s : IsSound d) (c : IsCertified d p n o made written) where
  layer_there : (v a : ℕ) → v ≡ place_of_child d n a → layer_of (map pos made.layers) v ≡ written_layer d n written a
  layer_there v a e =
      ap (layer_of (map pos made.layers)) e ∙ lists.get_or-map pos made.layers (place_of_child d n a) 0
      ∙ ap (λ xs. pos (slice_index xs (place_of_child d n a))) (sym c.numbered.layers)

  -- the edge of the network for a link
  net_there : (k i : ℕ) → k < length (links (level_of d p n o)) → get_or (links (level_of d p n o)) k 0 ≡ i
      → net_at (network (level_of d p n o) made.reversed) k ≡ network_edge (level_of d p n o) made.reversed i
  net_there k i h e =
      get_or-map (network_edge (level_of d p n o) made.reversed) (links (level_of d p n o)) k 0 _ h ∙ ap (network_edge (level_of d p n o) made.reversed) e

  rises_there : (i : ℕ) → i < length (edges_of d n) → IsFalse (is_loop d (edge_number d n i))
      → (written_layer d n written (tail_node d p (edge_number d n i)) +ℤ pos 1) ≤ℤ written_layer d n written (head_node d p (edge_number d n i))
  rises_there i h straight =
      let l = level_of d p n o in
      let e = edge_number d n i in
      let k = edge_known d p n o made written s c i h in
      let at = at_has (links l) 0 i (in_links d p n o i h (k.loop ∙ straight)) in
      let inside : at.0 < length (network l made.reversed) = subst (λ m. at.0 < m) (sym (length-map (links l) (network_edge l made.reversed))) at.1 in
      let law = c.of_level.solves.layering at.0 inside in
      let there = subst (λ (x : NetEdge). (layer_of (map pos made.layers) x.tail +ℤ pos x.least) ≤ℤ layer_of (map pos made.layers) x.head) (net_there at.0 i at.1 at.2) law in
      subst₂ (λ y z. (y +ℤ pos 1) ≤ℤ z) (layer_there _ (tail_node d p e) k.tail) (layer_there _ (head_node d p e) k.head) there

  layers_there : IsLayering d p n (written_layer d n written)
  layers_there =
      by_number d n (λ e. IsFalse (is_loop d e) → (written_layer d n written (tail_node d p e) +ℤ pos 1) ≤ℤ written_layer d n written (head_node d p e)) rises_there

  -- how far an edge rises in the document
  abbrev lift : ℕ → ℤ
  lift e = written_layer d n written (head_node d p e) -ℤ written_layer d n written (tail_node d p e)

  abbrev amount : ℕ → ℕ
  amount e = (edge_at d e).weight * natural (lift e)

  lift_loop : (i : ℕ) → i < length (edges_of d n) → is_loop d (edge_number d n i) ≡ true
      → lift (edge_number d n i) ≡ written_layer d n written (tail_node d p (edge_number d n i)) -ℤ written_layer d n written (tail_node d p (edge_number d n i))
  lift_loop i h loop =
      let k = edge_known d p n o made written s c i h in
      ap (λ m. written_layer d n written m -ℤ written_layer d n written (tail_node d p (edge_number d n i))) (k.loop_ends loop)

  lift_natural : (i : ℕ) → i < length (edges_of d n) → pos 0 ≤ℤ lift (edge_number d n i)
  lift_natural i h =
      ⊎_elim
      (λ loop. subst (λ z. pos 0 ≤ℤ z) (sym (lift_loop i h loop)) (at_zero (written_layer d n written (tail_node d p (edge_number d n i)))))
      (λ straight. not_below (written_layer d n written (tail_node d p (edge_number d n i))) (written_layer d n written (head_node d p (edge_number d n i))) (rises_there i h straight))
      (cases_Bool (is_loop d (edge_number d n i)))

  amount_there : (e : ℕ) → IsEdge d n e → pos (edge_at d e).weight *ℤ lift e ≡ pos (amount e)
  amount_there =
      by_number d n (λ e. pos (edge_at d e).weight *ℤ lift e ≡ pos (amount e))
      (λ i h. scale (edge_at d (edge_number d n i)).weight (lift (edge_number d n i)) (lift_natural i h))

  loop_amount : (i : ℕ) → i < length (edges_of d n) → plan.is_loop (level_of d p n o) i ≡ true → amount (edge_number d n i) ≡ 0
  loop_amount i h loop =
      let k = edge_known d p n o made written s c i h in
      ap (λ z. (edge_at d (edge_number d n i)).weight * natural z) (lift_loop i h (sym k.loop ∙ loop)) ∙ no_rise (edge_at d (edge_number d n i)).weight (written_layer d n written (tail_node d p (edge_number d n i)))

  link_amount : (i : ℕ) → Has (links (level_of d p n o)) i
      → amount (edge_number d n i) ≡ (network_edge (level_of d p n o) made.reversed i).weight * rise (map pos made.layers) (network_edge (level_of d p n o) made.reversed i)
  link_amount i h =
      let inside = (link_in d p n o i h).0 in
      let k = edge_known d p n o made written s c i inside in
      let e = edge_number d n i in
      ap₂ (λ w z. w * natural z) (sym k.weight)
      (ap₂ (λ y z. y -ℤ z) (sym (layer_there _ (head_node d p e) k.head)) (sym (layer_there _ (tail_node d p e) k.tail)))

  span_there : span_of d p n (written_layer d n written) ≡ pos written.span
  span_there =
      let l = level_of d p n o in
      let net = network_edge l made.reversed in
      let layers = map pos made.layers in
      total_natural (is_edge_of d n) (λ e. pos (edge_at d e).weight *ℤ lift e) amount (length d.edges)
      (λ e h t. amount_there e (record { edge_in = h; edge = t }))
      ∙ ap pos (
      sum_over_links d p n o amount loop_amount
      ∙ total_same (λ i. amount (edge_number d n i)) (λ i. (net i).weight * rise layers (net i)) (links l) link_amount
      ∙ sym (weighed_listed (rise layers) net (λ i. (net i).weight) (links l))
      ∙ ap (weighed (rise layers) (map net (links l))) (sym (weights_listed net (links l)))
      ∙ sym c.of_level.solves.cost_is
      ∙ sym c.numbered.span)

  pub layering_there : Layering d p n written
  layering_there = record { layers = layers_there; span = span_there }

  -- ---- parts

  tail_to_head : (u v : ℕ) → HasEdge (network (level_of d p n o) made.reversed) u v
      → (e : ℕ) × IsEdge d n e × (((source_node d e ≡ child_number d n u) × (target_node d e ≡ child_number d n v)) ⊎ ((source_node d e ≡ child_number d n v) × (target_node d e ≡ child_number d n u)))
  tail_to_head u v x =
      let l = level_of d p n o in
      let inside : x.number < length (links l) = subst (λ m. x.number < m) (length-map (links l) (network_edge l made.reversed)) x.is_there in
      let i = get_or (links l) x.number 0 in
      let h = (link_in d p n o i (has_at (links l) x.number 0 inside)).0 in
      let is = net_there x.number i inside refl in
      let k = edge_known d p n o made written s c i h in
      let e = edge_number d n i in
      let tail = at_place d n (tail_node d p e) u k.tail_child (sym x.from_is ∙ ap (λ (y : NetEdge). y.tail) is ∙ k.tail) in
      let head = at_place d n (head_node d p e) v k.head_child (sym x.to_is ∙ ap (λ (y : NetEdge). y.head) is ∙ k.head) in
      (e, k.edge, either d (is_listed d p e) (edge_at d e).source (edge_at d e).target (child_number d n u) (child_number d n v) (sym tail) (sym head))

  joined_there : (u v : ℕ) → HasEdge (network (level_of d p n o) made.reversed) u v ⊎ HasEdge (network (level_of d p n o) made.reversed) v u
      → AreJoined d n (child_number d n v) (child_number d n u)
  joined_there u v (inl x) =
      let r = tail_to_head u v x in (r.0, r.1, swapped (child_number d n u) (child_number d n v) (source_node d r.0) (target_node d r.0) r.2)
  joined_there u v (inr x) = tail_to_head v u x

  leads_there : (u v m : ℕ) → Joined (network (level_of d p n o) made.reversed) u v m → Reaches (AreJoined d n) (child_number d n v) (child_number d n u)
  leads_there u v zero e = subst (λ w. Reaches (AreJoined d n) (child_number d n w) (child_number d n u)) e (stay (child_number d n u))
  leads_there u v (suc m) (w, j, x) =
      go (child_number d n v) (child_number d n w) (child_number d n u) (joined_there w v x) (leads_there u w m j)

  pub begins_there : PartsBeginAtZero d n written
  begins_there a h =
      let m = (numbers_match d n).children in
      let counted = (levels_are_listed d p n o).child_count in
      let v = place_of_child d n a in
      let r = c.of_level.solves.from_zero.reached v (subst (λ q. v < q) (sym counted) (m.place_in a h)) in
      let u = r.0 in
      let inside : u < length (children d n) = subst (λ q. u < q) counted r.1 in
      let b = child_number d n u in
      let part = r.2 in (
        b,
        m.meant u inside,
        subst (λ z. Reaches (AreJoined d n) z b) (m.found a h) (leads_there u v part.0 part.1),
        ap natural (sym (layer_there u b (sym (m.place_at u inside))) ∙ r.3),
      )
