-- The networks of the parts are the parts of the level's network.
use Rattle.std.proofs.Common.{◌≡◌, ℕ, zero, suc, ◌+◌, ◌<◌, ◌⊎◌, ⊎_elim, ◌==◌, Bool, true, false, not, cond, ℤ, pos, List, length, map, get_or, slice_index, refl, sym, ap, ap₂, ◌∙◌, subst, arith, inl, inr, eqb-true}
use Rattle.std.specs.List.{filter, range_with_len}
use Rattle.std.proofs.lemmas.Bool.{cases_Bool, not_from_false}
use Rattle.std.proofs.lemmas.List.{ext_get_or, get_or-map, length-map}
use Rattle.std.proofs.lemmas.List.FromFn.{fill_by_all}
use Rattle.std.proofs.Math.ListN as lists
use Rattle.elk_doc.specs.declared.drawing.Certificate.{Certificate}
use Rattle.elk_doc.specs.Paths.{stay, go}
use Rattle.network_laws.specs.declared.network.NetEdge.{NetEdge}
use Rattle.network_laws.specs.Network.{edge_at as net_at, HasEdge, InOnePart as InOneNetPart, IsNetwork, Joined}
use Rattle.network_laws.specs.Layering.{IsSolution, layer_of}
use Rattle.network_laws.specs.Parts.{ArePartNumbers}
use Rattle.network_laws.proofs.Duality.{over_nodes}
use Rattle.level_nets.proofs.ListLemmas.{map_same}
use Rattle.level_model.specs.declared.level.LevelEdge.{LevelEdge}
use Rattle.level_model.specs.Level.{PlainLevel, edge_at, holds, is_loop}
use Rattle.level_layout.specs.Certificate.{flow_at, link_flows, links, network_edge, network, oriented, source_of, target_of}
use Rattle.level_layout.proofs.NetLemmas.{is_network}
use Rattle.level_model.proofs.Lists.{Has, at_has, below_has, has_at, has_filter, has_range, filter_has}
use Rattle.network_parts.specs.Divided.{links_of, part_edges, part_flow, part_layers, place_of, renumbered}
use Rattle.network_parts.proofs.JoinLemmas.{whole_solved}
use Rattle.network_parts.proofs.PlaceLemmas.{node_in, place_node}
use Rattle.level_parts.specs.Divided.{members, placed_at}
use Rattle.level_parts.specs.Parts.{InOnePart, AreJoined as IsJoinedBy}
use Rattle.level_parts.proofs.LevelLemmas.{child_in as number_in, edge_is, many_children}
use Rattle.level_parts.proofs.PartLemmas.{one_part}
use Rattle.rotated_levels.specs.CertificateJoined.{AreCertificates, IsJoinedCertificate, spans_to}
use Rattle.rotated_levels.proofs.ListLemmas.{filter_alike, filter_map, filter_swap, map_twice, picked_map}
use Rattle.rotated_levels.proofs.JoinedEdgeLemmas as edges
use Rattle.rotated_levels.proofs.RotateLemmas.{are_reversed}

rotated_placed : (numbers : List ℕ) (b : Bool) (x : LevelEdge) → renumbered numbers (oriented b x) ≡ oriented b (placed_at (place_of numbers) x)
rotated_placed numbers true x = refl
rotated_placed numbers false x = refl

-- ---- ends in one order or the other

either : (t : Bool) (s g a b : ℕ) → cond t g s ≡ a → cond t s g ≡ b → ((s ≡ a) × (g ≡ b)) ⊎ ((s ≡ b) × (g ≡ a))
either true s g a b p q = inr (q, p)
either false s g a b p q = inl (p, q)

swapped : {s g a b : ℕ} → ((s ≡ a) × (g ≡ b)) ⊎ ((s ≡ b) × (g ≡ a)) → ((s ≡ b) × (g ≡ a)) ⊎ ((s ≡ a) × (g ≡ b))
swapped (inl h) = inr h
swapped (inr h) = inl h

ends_meet : {s g a b : ℕ} → s ≡ g → ((s ≡ a) × (g ≡ b)) ⊎ ((s ≡ b) × (g ≡ a)) → a ≡ b
ends_meet same (inl h) = sym h.0 ∙ same ∙ h.1
ends_meet same (inr h) = sym h.1 ∙ sym same ∙ h.0

oriented_edge : (t : Bool) (s g a b : ℕ) (net : List NetEdge) (i : ℕ) → i < length net → (net_at net i).tail ≡ cond t g s → (net_at net i).head ≡ cond t s g → ((s ≡ a) × (g ≡ b)) ⊎ ((s ≡ b) × (g ≡ a))
    → HasEdge net a b ⊎ HasEdge net b a
oriented_edge true s g a b net i h tail head (inl e) = inr (record { number = i; is_there = h; from_is = tail ∙ e.1; to_is = head ∙ e.0 })
oriented_edge true s g a b net i h tail head (inr e) = inl (record { number = i; is_there = h; from_is = tail ∙ e.1; to_is = head ∙ e.0 })
oriented_edge false s g a b net i h tail head (inl e) = inl (record { number = i; is_there = h; from_is = tail ∙ e.0; to_is = head ∙ e.1 })
oriented_edge false s g a b net i h tail head (inr e) = inr (record { number = i; is_there = h; from_is = tail ∙ e.0; to_is = head ∙ e.1 })

-- ---- walks

reaches_more : (l : PlainLevel) (a b c : ℕ) → InOnePart l a b → IsJoinedBy l b c → InOnePart l a c
reaches_more l a b c (stay _) s = go b c c s (stay c)
reaches_more l a b c (go _ m _ t p) s = go a m c t (reaches_more l m b c p s)

walk_before : (edges : List NetEdge) (a b c n : ℕ) → (HasEdge edges a b ⊎ HasEdge edges b a) → Joined edges b c n → Joined edges a c (suc n)
walk_before edges a b c zero s w = (a, refl, subst (λ x. HasEdge edges a x ⊎ HasEdge edges x a) w s)
walk_before edges a b c (suc n) s w = (w.0, walk_before edges a b w.0 n s w.1, w.2)

spans_over : (own : ℕ → Certificate) (n : ℕ) → spans_to own n ≡ over_nodes (λ k. (own k).span) n
unfolding spans_to
spans_over own zero = refl
spans_over own (suc n) = ap (λ m. m + (own n).span) (spans_over own n)

module _ (l : PlainLevel) (numbers : List ℕ) (count : ℕ) (own : ℕ → Certificate) (c : Certificate) (are : AreCertificates l numbers count own) (joined : IsJoinedCertificate l numbers count own c) where
  abbrev keys : List ℕ
  keys = edges.keys l numbers count own c are joined

  abbrev part : ℕ → PlainLevel
  part k = edges.part l numbers count own c are joined k

  abbrev many : ℕ → ℕ
  many k = edges.many l numbers count own c are joined k

  abbrev edge_of : ℕ → ℕ → ℕ
  edge_of k j = edges.edge_of l numbers count own c are joined k j

  abbrev net : List NetEdge
  net = network l c.reversed

  abbrev all : List ℕ
  all = range_with_len 0 (length l.edges)

  net_count : length net ≡ length (links l)
  net_count = length-map (links l) (network_edge l c.reversed)

  net_is : (i : ℕ) → i < length (links l) → net_at net i ≡ network_edge l c.reversed (get_or (links l) i 0)
  net_is i h = get_or-map (network_edge l c.reversed) (links l) i 0 (record { tail = 0; head = 0; least = 0; weight = 0 }) h

  -- ---- the links of a part

  tail_part : (e : ℕ) → e < length l.edges → slice_index numbers (network_edge l c.reversed e).tail ≡ slice_index keys e
  tail_part e h = by (holds c.reversed e)
    where
      by : (b : Bool) → slice_index numbers (cond b (target_of l e) (source_of l e)) ≡ slice_index keys e
      by true = sym (one_part l numbers are.level are.numbered e h) ∙ sym (edges.key_is l numbers count own c are joined e h)
      by false = sym (edges.key_is l numbers count own c are joined e h)

  numbered : (k : ℕ) → filter (λ e. slice_index numbers (network_edge l c.reversed e).tail == k) all ≡ map (edge_of k) (range_with_len 0 (many k))
  numbered k =
      filter_alike (λ e. slice_index numbers (network_edge l c.reversed e).tail == k) (λ e. slice_index keys e == k) all (λ e h. ap (λ n. n == k) (tail_part e (below_has (length l.edges) e h)))
      ∙ ap (λ n. filter (λ e. slice_index keys e == k) (range_with_len 0 n)) (sym (edges.as_many l numbers count own c are joined))
      ∙ fill_by_all (edge_of k) (members keys k) (many k) 0 refl (λ j h. refl)

  part_links : (k : ℕ) → filter (λ e. not (is_loop l e)) (map (edge_of k) (range_with_len 0 (many k))) ≡ map (edge_of k) (links (part k))
  part_links k =
      filter_map (λ e. not (is_loop l e)) (edge_of k) (range_with_len 0 (many k))
      ∙ ap (map (edge_of k))
      (filter_alike (λ j. not (is_loop l (edge_of k j))) (λ j. not (is_loop (part k) j)) (range_with_len 0 (many k))
      (λ j h. ap not (sym (edges.loop_at l numbers count own c are joined k j (below_has (many k) j h))))
      ∙ ap (λ n. filter (λ j. not (is_loop (part k) j)) (range_with_len 0 n)) (sym (edges.part_edges l numbers count own c are joined k)))

  in_part : {Y : Type 0} (g : ℕ → Y) (k : ℕ) → map (λ i. g (get_or (links l) i 0)) (links_of numbers net k) ≡ map (λ j. g (edge_of k j)) (links (part k))
  in_part g k =
      let test : ℕ → Bool = λ e. slice_index numbers (network_edge l c.reversed e).tail == k in
      let straight : ℕ → Bool = λ e. not (is_loop l e) in
      ap (λ n. map (λ i. g (get_or (links l) i 0)) (filter (λ i. slice_index numbers (net_at net i).tail == k) (range_with_len 0 n))) net_count
      ∙ ap (map (λ i. g (get_or (links l) i 0)))
      (filter_alike (λ i. slice_index numbers (net_at net i).tail == k) (λ i. test (get_or (links l) i 0)) (range_with_len 0 (length (links l)))
      (λ i h. ap (λ (x : NetEdge). slice_index numbers x.tail == k) (net_is i (below_has (length (links l)) i h))))
      ∙ picked_map g test (links l)
      ∙ ap (map g) (filter_swap test straight all ∙ ap (filter straight) (numbered k) ∙ part_links k)
      ∙ map_twice (edge_of k) g (links (part k))

  link_below : (k j : ℕ) → Has (links (part k)) j → j < many k
  link_below k j h =
      let found = filter_has (λ e. not (is_loop (part k) e)) (range_with_len 0 (length (part k).edges)) j h in
      subst (λ n. j < n) (edges.part_edges l numbers count own c are joined k) (below_has (length (part k).edges) j found.0)

  -- an edge of the part's network is one of the level's
  same_edge : (k j : ℕ) → j < many k → renumbered numbers (network_edge l c.reversed (edge_of k j)) ≡ network_edge (part k) (own k).reversed j
  same_edge k j h =
      let e = edge_of k j in
      rotated_placed numbers (holds c.reversed e) (edge_at l e)
      ∙ ap (λ b. oriented b (placed_at (place_of numbers) (edge_at l e))) (edges.rotated_at l numbers count own c are joined k j h)
      ∙ ap (oriented (holds (own k).reversed j)) (sym (edge_is l numbers k are.level are.numbered j h))

  edges_are : (k : ℕ) → part_edges numbers net k ≡ network (part k) (own k).reversed
  edges_are k =
      map_same (λ i. renumbered numbers (net_at net i)) (λ i. renumbered numbers (network_edge l c.reversed (get_or (links l) i 0))) (links_of numbers net k)
      (λ i h. ap (renumbered numbers) (net_is i (subst (λ n. i < n) net_count (below_has (length net) i (filter_has (λ e. slice_index numbers (net_at net e).tail == k) (range_with_len 0 (length net)) i h).0))))
      ∙ in_part (λ e. renumbered numbers (network_edge l c.reversed e)) k
      ∙ map_same (λ j. renumbered numbers (network_edge l c.reversed (edge_of k j))) (network_edge (part k) (own k).reversed) (links (part k)) (λ j h. same_edge k j (link_below k j h))

  -- ---- layers and flow

  flow_is : (k : ℕ) → part_flow numbers net (link_flows l c.flow) k ≡ link_flows (part k) (own k).flow
  flow_is k =
      map_same (slice_index (link_flows l c.flow)) (λ i. flow_at c.flow (get_or (links l) i 0)) (links_of numbers net k)
      (λ i h. get_or-map (flow_at c.flow) (links l) i 0 0 (subst (λ n. i < n) net_count (below_has (length net) i (filter_has (λ e. slice_index numbers (net_at net e).tail == k) (range_with_len 0 (length net)) i h).0)))
      ∙ in_part (flow_at c.flow) k
      ∙ map_same (λ j. flow_at c.flow (edge_of k j)) (flow_at (own k).flow) (links (part k))
      (λ j h. let less = link_below k j h in
      joined.flow (edge_of k j) (edges.here l numbers count own c are joined k j less)
      ∙ ap₂ (λ q i. slice_index (own q).flow i) (node_in keys k j less).1 (place_node keys k j less))

  layers_are : (k : ℕ) → k < count → part_layers numbers (map pos c.layers) k ≡ map pos (own k).layers
  layers_are k less =
      let some = length-map (members numbers k) (layer_of (map pos c.layers)) in
      let each = length-map (own k).layers pos in
      let own_count = (are.each k less).layer_for_each ∙ many_children l numbers k are.level are.numbered in
      ext_get_or (pos 0) (part_layers numbers (map pos c.layers) k) (map pos (own k).layers) (some ∙ sym own_count ∙ sym each)
      (λ i h. let inside : i < length (members numbers k) = subst (λ n. i < n) some h in
      let a = edges.child_of l numbers count own c are joined k i in
      let there = number_in l numbers k are.level are.numbered i inside in
      get_or-map (layer_of (map pos c.layers)) (members numbers k) i 0 (pos 0) inside
      ∙ lists.get_or-map pos c.layers a 0
      ∙ ap pos (joined.layers a there.0 ∙ ap₂ (λ q x. slice_index (own q).layers x) there.1 (place_node numbers k i inside))
      ∙ sym (lists.get_or-map pos (own k).layers i 0))

  -- ---- parts of the network are parts of the level

  net_step : (a b : ℕ) → HasEdge net a b → IsJoinedBy l a b
  net_step a b x =
      let i = x.number in
      let h : i < length (links l) = subst (λ n. i < n) net_count x.is_there in
      let e = get_or (links l) i 0 in
      let found = filter_has (λ e. not (is_loop l e)) all e (has_at (links l) i 0 h) in
      let is = net_is i h in (
        e,
        below_has (length l.edges) e found.0,
        either (holds c.reversed e) (source_of l e) (target_of l e) a b (sym (ap (λ (y : NetEdge). y.tail) is) ∙ x.from_is) (sym (ap (λ (y : NetEdge). y.head) is) ∙ x.to_is),
      )

  net_step_back : (a b : ℕ) → HasEdge net b a → IsJoinedBy l a b
  net_step_back a b x = let s = net_step b a x in (s.0, s.1, swapped s.2)

  forth : (a b n : ℕ) → Joined net a b n → InOnePart l a b
  forth a b zero w = subst (InOnePart l a) w (stay a)
  forth a b (suc n) w = reaches_more l a w.0 b (forth a w.0 n w.1) (⊎_elim (net_step w.0 b) (net_step_back w.0 b) w.2)

  -- an edge of the level that is no self-loop is one of the network
  network_edge_there : (e : ℕ) → e < length l.edges → is_loop l e ≡ false → (i : ℕ) × (i < length net) × (net_at net i ≡ network_edge l c.reversed e)
  network_edge_there e h straight =
      let place = at_has (links l) 0 e (has_filter (λ x. not (is_loop l x)) all e (has_range 0 (length l.edges) e (omega arith) (omega (arith, h))) (not_from_false (is_loop l e) straight)) in
      (place.0, subst (λ n. place.0 < n) (sym net_count) place.1, net_is place.0 place.1 ∙ ap (network_edge l c.reversed) place.2)

  step_there : (a b : ℕ) → IsJoinedBy l a b → (a ≡ b) ⊎ (HasEdge net a b ⊎ HasEdge net b a)
  step_there a b s =
      elim (cases_Bool (is_loop l s.0)) [
        | inl loop ↦ inl (ends_meet (eqb-true (source_of l s.0) (target_of l s.0) loop) s.2)
        | inr straight ↦
            (let found = network_edge_there s.0 s.1 straight in
            inr (oriented_edge (holds c.reversed s.0) (source_of l s.0) (target_of l s.0) a b net found.0 found.1 (ap (λ (y : NetEdge). y.tail) found.2) (ap (λ (y : NetEdge). y.head) found.2) s.2))
      ]

  back : (a b : ℕ) → InOnePart l a b → InOneNetPart net a b
  back a b (stay _) = (0, refl)
  back a b (go _ m _ s r) =
      let rest = back m b r in
      ⊎_elim
      (λ same. subst (λ x. InOneNetPart net x b) (sym same) rest)
      (λ step. (suc rest.0, walk_before net a m b rest.0 step rest.1))
      (step_there a m s)

  net_parts : ArePartNumbers (length numbers) net numbers
  net_parts =
      let as_many = are.numbered.as_many in
      record {
        number_for_each = refl;
        in_range = λ v h. subst (λ n. slice_index numbers v < n) (sym as_many) (are.numbered.below v (subst (λ n. v < n) as_many h));
        same_part = λ u v h g.
            let both = are.numbered.same u v (subst (λ n. u < n) as_many h) (subst (λ n. v < n) as_many g) in
            (λ e. back u v (both.0 e), λ w. both.1 (forth u v w.0 w.1));
        by_least = λ v n h. are.numbered.in_order v n (subst (λ m. v < m) as_many h);
      }

  -- ---- the whole

  solved : (k : ℕ) → k < count → IsSolution (length (members numbers k)) (part_edges numbers net k) (part_layers numbers (map pos c.layers) k) (part_flow numbers net (link_flows l c.flow) k) (own k).span
  solved k less =
      subst (λ n. IsSolution n (part_edges numbers net k) (part_layers numbers (map pos c.layers) k) (part_flow numbers net (link_flows l c.flow) k) (own k).span) (many_children l numbers k are.level are.numbered)
      (subst (λ (es : List NetEdge). IsSolution (length (part k).children) es (part_layers numbers (map pos c.layers) k) (part_flow numbers net (link_flows l c.flow) k) (own k).span) (sym (edges_are k))
      (subst (λ (zs : List ℤ). IsSolution (length (part k).children) (network (part k) (own k).reversed) zs (part_flow numbers net (link_flows l c.flow) k) (own k).span) (sym (layers_are k less))
      (subst (λ (fs : List ℕ). IsSolution (length (part k).children) (network (part k) (own k).reversed) (map pos (own k).layers) fs (own k).span) (sym (flow_is k)) (are.each k less).solves)))

  total : spans_to own count ≡ over_nodes (λ k. (own k).span) count
  total = spans_over own count

  pub solves : IsSolution (length l.children) net (map pos c.layers) (link_flows l c.flow) c.span
  solves =
      let as_many = are.numbered.as_many in
      subst (λ n. IsSolution n net (map pos c.layers) (link_flows l c.flow) c.span) as_many
      (whole_solved numbers net (subst (λ n. IsNetwork n net) (sym as_many) (is_network l c.reversed are.level (are_reversed l numbers count own c are joined))) net_parts count are.counted (map pos c.layers) (link_flows l c.flow)
      (length-map c.layers pos ∙ joined.layer_for_each ∙ sym as_many) (length-map (links l) (flow_at c.flow) ∙ sym net_count) (λ k. (own k).span) solved c.span (joined.span ∙ total))

  pub loops : (e : ℕ) → e < length l.edges → is_loop l e ≡ true → flow_at c.flow e ≡ 0
  loops e h loop =
      let k = slice_index keys e in
      let j = place_of keys e in
      let inside = edges.inside l numbers count own c are joined k e h refl in
      joined.flow e h
      ∙ (are.each k (edges.key_below l numbers count own c are joined e h)).loops j (subst (λ n. j < n) (sym (edges.part_edges l numbers count own c are joined k)) inside)
      (edges.loop_at l numbers count own c are joined k j inside ∙ ap (is_loop l) (edges.back l numbers count own c are joined k e h refl) ∙ loop)
