-- Orders and tables do not depend on heights, pins and ranks.
use Rattle.std.proofs.Common.{◌≡◌, inl, inr, ⊎_elim, ℕ, ◌+◌, ◌-◌, ◌<◌, get_or, arith, ◌==◌, ◌&&◌, ◌||◌, not, ◌++◌, pos, ◌+ℤ◌, ◌-ℤ◌, ℤ, List, [], ◌∷◌, map, length, Bool, true, false, cond, IsFalse, IsTrue, refl, sym, ◌∙◌, ap, ap₂, subst}
use Rattle.std.specs.Prelude.{Option, None, Some, int_lt, is_some}
use Rattle.std.specs.Ordering.{int_eq}
use Rattle.std.specs.List.{filter, list_any, range_with_len}
use Rattle.drawing_types.specs.declared.shape.Rect.{Rect}
use Rattle.drawing_types.specs.declared.shape.Side.{Side}
use Rattle.drawing_types.specs.declared.shape.Side.TheVariants.{North, East, South, West}
use Rattle.drawing_types.specs.declared.shape.Dock.{Dock}
use Rattle.elk_doc.specs.declared.document.PortRule.{PortRule}
use Rattle.elk_doc.specs.declared.document.PortRule.TheVariants.{Free, FixedSide, FixedOrder, FixedPos}
use Rattle.drawing_types.specs.Shapes.{is_side}
use Rattle.drawing_types.specs.Shapes.{hull, rect_at}
use Rattle.drawing_types.specs.declared.shape.Point.{Point}
use Rattle.port_order.specs.declared.spots.Mean.{Mean}
use Rattle.port_order.specs.declared.spots.Spot.{Spot}
use Rattle.port_order.specs.Child.{is_pinned, port_at}
use Rattle.port_order.specs.Sides.{side_of}
use Rattle.port_order.specs.Order.{IsOrderOfSide}
use Rattle.port_order.specs.Places.{place_of_port}
use Rattle.self_loops.specs.Loops.{is_upright, sides_of_lanes}
use Rattle.elk_layers.specs.Layered.{Plain, unit_at, link_at, layer_of, place_in, place_of, row_at, is_child}
use Rattle.level_model.specs.Stage.{Line, anchor_line, dock_lane, loop_lane, long_lane}
use Rattle.level_model.specs.declared.table.EndAt.{EndAt}
use Rattle.level_model.specs.declared.table.LoopAt.{LoopAt}
use Rattle.level_model.specs.declared.table.ChildAt.{ChildAt}
use Rattle.level_model.specs.declared.table.Table.{Table}
use Rattle.level_model.specs.Level.{PlainLevel, PlainPlan, Orders, End, end_at, child_at, edge_at, is_loop, enters, ends_at_port, first_or, far_unit, implicit_ends, implicit_spot, is_link_of, link_of, linked, mean_of, place_of_end, port_spot, spoke, spot, spot_at_port, spots, spot_of, sum_of, dock_of, dock_of_spot, anchor_of_spot, port_place, outline_from, outline, tail_end, head_end}
use Rattle.level_model.specs.Lanes.{asks_lane, dock_eq, has_lane, docks_with_lane, lane_side, loops_of, loop_sides, lanes, lanes_room, once, place_of_line, body_top, lane_height, loop_lane_height}
use Rattle.level_model.specs.Nets.{below_top, inverts, is_number, layer_of_child, unit_of}
use Rattle.level_model.specs.Traces.{chain, links_at, links_from}
use Rattle.level_model.specs.Table.{IsTable, IsEndAt, IsLoopAt, IsChildAt, loop_in, child_in}
use Rattle.level_model.specs.Units.{AreLinked, AreOrders, HasChain, IsLaneUnit, IsLinkOf, IsUnitOf, chain_at, head_rank, is_fixed, is_pinned_port, is_spread_fixed, lane_rank, last_rank, link_side, offset_first, pinned_on, port_rank, ports_on, rank_of_end, tail_rank}
use Rattle.level_nets.proofs.ListLemmas.{filter_same, map_same}
use Rattle.layer_units.specs.Alike.{AreAlike, AreFlat, ReadNoHeights, with_layered}

module _ (l : PlainLevel) (p : PlainPlan) (v : Plain) (tops : List ℤ) (alike : AreAlike p.layered v) where
  abbrev q : PlainPlan
  q = with_layered p v tops

  -- ---- what is read of units and links

  pub child_same : (u : ℕ) → is_child v u ≡ is_child p.layered u
  child_same u = ap is_some (alike.child_is u)

  place_same : (u : ℕ) → place_of v p.rows u ≡ place_of p.layered p.rows u
  place_same u = ap (λ r. place_in (row_at p.rows r) u) (alike.layer_is u)

  near_same : (b : Bool) (k : ℕ) → cond b (link_at v.links k).head (link_at v.links k).tail ≡ cond b (link_at p.layered.links k).head (link_at p.layered.links k).tail
  near_same b k = ap₂ (λ x y. cond b x y) (alike.head_is k) (alike.tail_is k)

  test_same : (n : End) (k : ℕ) → is_link_of q n k ≡ is_link_of p n k
  test_same n k =
      ap (λ e. (e == n.edge) && is_child v (cond (enters p n) (link_at v.links k).head (link_at v.links k).tail)) (alike.edge_is k)
      ∙ ap (λ u. ((link_at p.layered.links k).edge == n.edge) && is_child v u) (near_same (enters p n) k)
      ∙ ap (λ b. ((link_at p.layered.links k).edge == n.edge) && b) (child_same (cond (enters p n) (link_at p.layered.links k).head (link_at p.layered.links k).tail))

  link_same : (n : End) → link_of q n ≡ link_of p n
  link_same n =
      ap (λ m. first_or (filter (is_link_of q n) (range_with_len 0 m)) 0) alike.as_many_links
      ∙ ap (λ ks. first_or ks 0) (filter_same (is_link_of q n) (is_link_of p n) (range_with_len 0 (length p.layered.links)) (λ k h. test_same n k))

  far_same : (n : End) → far_unit q n ≡ far_unit p n
  far_same n =
      ap (λ k. cond (enters p n) (link_at v.links k).tail (link_at v.links k).head) (link_same n)
      ∙ ap₂ (λ x y. cond (enters p n) x y) (alike.tail_is (link_of p n)) (alike.head_is (link_of p n))

  -- ---- spots and docks

  mean_same : (ns : List End) → mean_of q ns ≡ mean_of p ns
  mean_same [] = refl
  mean_same (n ∷ ns) =
      let as_mean : List ℕ → Option Mean = λ xs. Some (record { sum = sum_of xs; count = length (n ∷ ns) }) in
      ap as_mean
      (map_same (λ m. place_of v p.rows (far_unit q m)) (λ m. place_of p.layered p.rows (far_unit p m)) (n ∷ ns)
      (λ m h. ap (place_of v p.rows) (far_same m) ∙ place_same (far_unit p m)))

  spot_same : (port : Option ℕ) (number : ℕ) (ns : List End) → spot l q port number ns ≡ spot l p port number ns
  spot_same port number ns =
      let with_mean : Option Mean → Spot =
      λ mean. record { port = port; number = number; leaves = (spot l p port number ns).leaves; enters = (spot l p port number ns).enters; mean = mean }
      in
      ap with_mean (mean_same (linked l ns))

  port_spot_same : (c k : ℕ) → port_spot l q c k ≡ port_spot l p c k
  port_spot_same c k = spot_same (Some k) k (ends_at_port l c k)

  implicit_spot_same : (c : ℕ) (n : End) → implicit_spot l q c n ≡ implicit_spot l p c n
  implicit_spot_same c n = spot_same None (length (child_at l c).ports + place_of_end (implicit_ends l c) n) (n ∷ [])

  spots_same : (c : ℕ) → spots l q c ≡ spots l p c
  spots_same c =
      ap₂ (λ (xs ys : List Spot). xs ++ ys)
      (map_same (port_spot l q c) (port_spot l p c) (range_with_len 0 (length (child_at l c).ports)) (λ k h. port_spot_same c k))
      (map_same (implicit_spot l q c) (implicit_spot l p c) (implicit_ends l c) (λ n h. implicit_spot_same c n))

  spot_of_same : (n : End) → spot_of l q n ≡ spot_of l p n
  spot_of_same n = step (spoke l n).port
    where
      step : (port : Option ℕ) → spot_at_port l q (spoke l n).child n port ≡ spot_at_port l p (spoke l n).child n port
      step None = implicit_spot_same (spoke l n).child n
      step (Some k) = port_spot_same (spoke l n).child k

  orders_same : (o : Orders) → AreOrders l p o → AreOrders l q o
  orders_same o are c side h = subst (λ (ss : List Spot). IsOrderOfSide (child_at l c) side ss (o c side)) (sym (spots_same c)) (are c side h)

  pub unit_same : (c : ℕ) → unit_of q c ≡ unit_of p c
  unit_same c =
      ap (λ m. first_or (filter (λ u. is_number (unit_at v.units u).child c) (range_with_len 0 m)) 0) alike.as_many_units
      ∙ ap (λ us. first_or us 0)
      (filter_same (λ u. is_number (unit_at v.units u).child c) (λ u. is_number (unit_at p.layered.units u).child c) (range_with_len 0 (length p.layered.units))
      (λ u h. ap (λ k. is_number k c) (alike.child_is u)))

  -- ---- links and chains

  links_at_same : (e r : ℕ) → links_at q e r ≡ links_at p e r
  links_at_same e r =
      ap (λ m. filter (λ k. ((link_at v.links k).edge == e) && (layer_of v (link_at v.links k).tail == r)) (range_with_len 0 m)) alike.as_many_links
      ∙ filter_same (λ k. ((link_at v.links k).edge == e) && (layer_of v (link_at v.links k).tail == r)) (λ k. ((link_at p.layered.links k).edge == e) && (layer_of p.layered (link_at p.layered.links k).tail == r)) (range_with_len 0 (length p.layered.links))
      (λ k h. ap₂ (λ x y. (x == e) && (layer_of v y == r)) (alike.edge_is k) (alike.tail_is k)
      ∙ ap (λ z. ((link_at p.layered.links k).edge == e) && (z == r)) (alike.layer_is (link_at p.layered.links k).tail))

  links_from_same : (e : ℕ) (rs : List ℕ) → links_from q e rs ≡ links_from p e rs
  links_from_same e [] = refl
  links_from_same e (r ∷ rs) = ap₂ (λ (xs ys : List ℕ). xs ++ ys) (links_at_same e r) (links_from_same e rs)

  layer_same : (c : ℕ) → layer_of_child q c ≡ layer_of_child p c
  layer_same c = ap (layer_of v) (unit_same c) ∙ alike.layer_is (unit_of p c)

  unit_kept : (layer c : ℕ) → IsUnitOf p layer c → IsUnitOf q layer c
  unit_kept layer c h =
      let same = unit_same c in
      let many = alike.as_many_units in
      let in_range = h.in_range in
      record {
        in_range = omega (arith, same, many, in_range);
        child = ap (λ u. (unit_at v.units u).child) (unit_same c) ∙ alike.child_is (unit_of p c) ∙ h.child;
        alone = λ u less is. h.alone u (omega (arith, less, many)) (sym (alike.child_is u) ∙ is) ∙ sym (unit_same c);
        layer_is = layer_same c ∙ h.layer_is;
      }

  module _ (layers_are : p.layers ≡ p.layered.layers) (flat : AreFlat v) where
    lane_kept : (u : ℕ) → IsLaneUnit p u → IsLaneUnit q u
    lane_kept u h =
        let many = alike.as_many_links in
        let entered = h.entered in
        record {
          no_child = alike.child_is u ∙ h.no_child;
          flat = flat u (alike.child_is u ∙ h.no_child);
          entered = (entered.0, omega (arith, many, entered.1), alike.head_is entered.0 ∙ entered.2);
          once = λ j k a b x y. h.once j k (omega (arith, many, a)) (omega (arith, many, b)) (sym (alike.head_is j) ∙ x) (sym (alike.head_is k) ∙ y);
        }

    chain_same : (e : ℕ) → chain q e ≡ chain p e
    chain_same e = ap (λ m. links_from q e (range_with_len 0 m)) (alike.layers_are ∙ sym layers_are) ∙ links_from_same e (range_with_len 0 p.layers)

    chain_at_same : (e i : ℕ) → chain_at q e i ≡ chain_at p e i
    chain_at_same e i = ap (λ (ks : List ℕ). get_or ks i 0) (chain_same e)

    chain_kept : (e : ℕ) → HasChain l p e → HasChain l q e
    chain_kept e h =
        let long = ap (λ (ks : List ℕ). length ks) (chain_same e) in
        let tail = layer_same (spoke l (tail_end p e)).child in
        let head = layer_same (spoke l (head_end p e)).child in
        let whole = h.long in
        let some = h.some in
        record {
          long = omega (arith, long, tail, head, whole);
          some = omega (arith, long, some);
          from = ap (λ k. (link_at v.links k).tail) (chain_at_same e 0) ∙ alike.tail_is (chain_at p e 0) ∙ h.from ∙ sym (unit_same (spoke l (tail_end p e)).child);
          to = ap (λ (ks : List ℕ). (link_at v.links (get_or ks (length ks - 1) 0)).head) (chain_same e) ∙ alike.head_is (chain_at p e (length (chain p e) - 1)) ∙ h.to ∙ sym (unit_same (spoke l (head_end p e)).child);
          joined = λ i less.
              ap (λ k. (link_at v.links k).head) (chain_at_same e i) ∙ alike.head_is (chain_at p e i) ∙ h.joined i (omega (arith, long, less))
              ∙ sym (alike.tail_is (chain_at p e (i + 1))) ∙ ap (λ k. (link_at v.links k).tail) (sym (chain_at_same e (i + 1)));
          lanes = λ i less.
              subst (IsLaneUnit q) (sym (ap (λ k. (link_at v.links k).head) (chain_at_same e i) ∙ alike.head_is (chain_at p e i)))
              (lane_kept (link_at p.layered.links (chain_at p e i)).head (h.lanes i (omega (arith, long, less))));
        }

    link_kept : (k : ℕ) → IsLinkOf l p k → IsLinkOf l q k
    link_kept k h =
        let edge = alike.edge_is k in
        let inside = h.edge_in in
        record { edge_in = omega (arith, edge, inside); no_loop = subst (λ e. IsFalse (is_loop l e)) (sym (alike.edge_is k)) h.no_loop }

    linked_same : (layers : List ℕ) → AreLinked l p layers → AreLinked l q layers
    linked_same layers h =
        let units = alike.as_many_units in
        let links = alike.as_many_links in
        record {
          children = λ c k. unit_kept _ c (h.children c k);
          units = λ u k. ⊎_elim (λ lane. inl (lane_kept u lane)) (λ (is : (c : ℕ) × (c < length l.children) × (u ≡ unit_of p c)). inr (is.0, is.1, is.2 ∙ sym (unit_same is.0))) (h.units u (omega (arith, units, k)));
          chains = λ e k no_loop. chain_kept e (h.chains e k no_loop);
          links = λ k m. link_kept k (h.links k (omega (arith, links, m)));
        }

  -- an end's rank, by the last one of its side, its dock and its port's rank
  abbrev rank_from : End → ℕ → Dock → ℕ → ℕ
  rank_from n last d r =
      cond (not (is_fixed (child_at l (spoke l n).child).rule)) 0
      (cond (is_spread_fixed (child_at l (spoke l n).child).rule (spoke l n).port (is_pinned_port (child_at l (spoke l n).child) (spoke l n).port)) (last + 1)
      (cond (is_upright d.side || (not (is_loop l n.edge) && inverts d.side (enters p n))) (lane_rank last (lane_side l d)) r))

  module _ (o : Orders) where
    pub dock_same : (n : End) → dock_of l q o n ≡ dock_of l p o n
    dock_same n = ap (dock_of_spot l o (spoke l n).child) (spot_of_same n)

    anchor_same : (n : End) → anchor_of_spot l o (spoke l n).child (spot_of l q n) ≡ anchor_of_spot l o (spoke l n).child (spot_of l p n)
    anchor_same n = ap (anchor_of_spot l o (spoke l n).child) (spot_of_same n)

    port_same : (c k : ℕ) → port_place l q o c k ≡ port_place l p o c k
    port_same c k = ap (λ (s : Spot). place_of_port (child_at l c) (side_of (child_at l c) s) k (dock_of_spot l o c s).offset) (port_spot_same c k)

    outline_from_same : (c : ℕ) (ks : List ℕ) → outline_from l q o c ks ≡ outline_from l p o c ks
    outline_from_same c [] = refl
    outline_from_same c (k ∷ ks) =
        ap₂ (λ (r : Rect) (z : Point). hull r (rect_at z (port_at (child_at l c) k).size)) (outline_from_same c ks) (port_same c k)

    pub outline_same : (c : ℕ) → outline l q o c ≡ outline l p o c
    outline_same c = outline_from_same c (range_with_len 0 (length (child_at l c).ports))

    -- ---- lanes

    has_lane_same : (c : ℕ) (d : Dock) → has_lane l q o c d ≡ has_lane l p o c d
    has_lane_same c d = ap (λ (ss : List Spot). list_any (λ s. dock_eq (dock_of_spot l o c s) d && asks_lane d.side s.leaves s.enters) ss) (spots_same c)

    docks_same : (c : ℕ) → docks_with_lane l q o c ≡ docks_with_lane l p o c
    docks_same c =
        ap (λ (ss : List Spot). filter (λ d. list_any (λ s. dock_eq (dock_of_spot l o c s) d && asks_lane d.side s.leaves s.enters) ss) (once (map (dock_of_spot l o c) ss))) (spots_same c)

    loop_sides_same : (e : ℕ) → loop_sides l q o e ≡ loop_sides l p o e
    loop_sides_same e =
        ap₂ (λ (d k : Dock). sides_of_lanes d.side k.side (dock_eq d k)) (dock_same (end_at e true)) (dock_same (end_at e false))

    loops_same : (c : ℕ) (side : Side) → filter (λ e. list_any (is_side side) (loop_sides l q o e)) (loops_of l c) ≡ filter (λ e. list_any (is_side side) (loop_sides l p o e)) (loops_of l c)
    loops_same c side =
        filter_same (λ e. list_any (is_side side) (loop_sides l q o e)) (λ e. list_any (is_side side) (loop_sides l p o e)) (loops_of l c)
        (λ e h. ap (λ (ss : List Side). list_any (is_side side) ss) (loop_sides_same e))

    pub lanes_same : (c : ℕ) (side : Side) → lanes l q o c side ≡ lanes l p o c side
    lanes_same c side =
        ap₂ (λ (xs : List ℕ) (ds : List Dock). map (λ x. loop_lane x side) xs ++ map (λ d. dock_lane d) (filter (λ d. is_side (lane_side l d) side) ds)) (loops_same c side) (docks_same c)

    pub body_top_same : (c : ℕ) → body_top l q o c ≡ body_top l p o c
    body_top_same c = ap (λ (ms : List Line). lanes_room l (length ms)) (lanes_same c North)

    lane_below : (c i : ℕ) → lane_height l q o c South i ≡ lane_height l p o c South i
    lane_below c i = ap₂ (λ (z : ℤ) (r : Rect). z +ℤ r.height +ℤ lanes_room l (i + 1)) (body_top_same c) (outline_same c)

    lane_height_same : (c : ℕ) (side : Side) (i : ℕ) → lane_height l q o c side i ≡ lane_height l p o c side i
    lane_height_same c North i = ap (λ (z : ℤ). z -ℤ lanes_room l (i + 1)) (body_top_same c)
    lane_height_same c East i = lane_below c i
    lane_height_same c South i = lane_below c i
    lane_height_same c West i = lane_below c i

    line_height_same : (c : ℕ) (side : Side) (m : Line) → loop_lane_height l q o c side m ≡ loop_lane_height l p o c side m
    line_height_same c side m =
        ap (λ (ms : List Line). lane_height l q o c side (place_of_line ms m)) (lanes_same c side) ∙ lane_height_same c side (place_of_line (lanes l p o c side) m)

    below_same : (m : Line) → below_top l q o m ≡ below_top l p o m
    below_same (anchor_line d) = ap₂ (λ (z : ℤ) (r : Rect). (z -ℤ r.y) +ℤ d.offset) (body_top_same d.node) (outline_same d.node)
    below_same (dock_lane d) = line_height_same d.node (lane_side l d) (dock_lane d)
    below_same (loop_lane e side) = line_height_same (edge_at l e).source.child side (loop_lane e side)
    below_same (long_lane u) = refl

    -- ---- the table

    end_same : (n : End) (x : EndAt) → IsEndAt l p o n x → IsEndAt l q o n x
    end_same n x is =
        record {
          dock = is.dock ∙ sym (dock_same n);
          anchor = is.anchor ∙ sym (anchor_same n);
          lane = λ has.
              is.lane (subst IsTrue (has_lane_same (spoke l n).child (dock_of l q o n) ∙ ap (has_lane l p o (spoke l n).child) (dock_same n)) has)
              ∙ ap (λ (d : Dock). below_top l p o (dock_lane d)) (sym (dock_same n))
              ∙ sym (below_same (dock_lane (dock_of l q o n)));
        }

    loop_same : (e : ℕ) (x : LoopAt) → IsLoopAt l p o e x → IsLoopAt l q o e x
    loop_same e x is =
        record {
          north = λ has. is.north (subst (λ (ss : List Side). IsTrue (list_any (is_side North) ss)) (loop_sides_same e) has) ∙ sym (below_same (loop_lane e North));
          south = λ has. is.south (subst (λ (ss : List Side). IsTrue (list_any (is_side South) ss)) (loop_sides_same e) has) ∙ sym (below_same (loop_lane e South));
        }

    entry_same : (c : ℕ) (x : ChildAt) → IsChildAt l p o c x → IsChildAt l q o c x
    entry_same c x is =
        record {
          unit = is.unit ∙ sym (unit_same c);
          outline_is = is.outline_is ∙ sym (outline_same c);
          as_many = is.as_many;
          ports = λ k h. is.ports k h ∙ sym (port_same c k);
          north = is.north ∙ ap (λ (ms : List Line). length ms) (sym (lanes_same c North));
          south = is.south ∙ ap (λ (ms : List Line). length ms) (sym (lanes_same c South));
        }

    -- ---- ranks

    ports_on_same : (c : ℕ) (side : Side) → ports_on l q c side ≡ ports_on l p c side
    ports_on_same c side =
        filter_same (λ k. is_side (side_of (child_at l c) (port_spot l q c k)) side) (λ k. is_side (side_of (child_at l c) (port_spot l p c k)) side) (range_with_len 0 (length (child_at l c).ports))
        (λ k h. ap (λ (z : Spot). is_side (side_of (child_at l c) z) side) (port_spot_same c k))

    pinned_on_same : (c : ℕ) (side : Side) → pinned_on l q c side ≡ pinned_on l p c side
    pinned_on_same c side = ap (filter (is_pinned (child_at l c))) (ports_on_same c side)

    first_same : (c k j : ℕ) → offset_first l q o c j k ≡ offset_first l p o c j k
    first_same c k j =
        ap₂ (λ (x y : Spot). int_lt (dock_of_spot l o c x).offset (dock_of_spot l o c y).offset || (int_eq (dock_of_spot l o c x).offset (dock_of_spot l o c y).offset && int_lt (pos j) (pos k))) (port_spot_same c j) (port_spot_same c k)

    last_same : (c : ℕ) (side : Side) (rule : PortRule) → last_rank l q c side rule ≡ last_rank l p c side rule
    last_same c side Free = refl
    last_same c side FixedSide = refl
    last_same c side FixedOrder = ap (λ (ks : List ℕ). length ks) (ports_on_same c side)
    last_same c side FixedPos = ap (λ (ks : List ℕ). length ks) (pinned_on_same c side)

    port_rank_same : (c : ℕ) (side : Side) (rule : PortRule) (port : Option ℕ) (b : Bool) → port_rank l q o c side rule port b ≡ port_rank l p o c side rule port b
    port_rank_same c side Free port b = refl
    port_rank_same c side FixedSide port b = refl
    port_rank_same c side FixedOrder (Some k) b = refl
    port_rank_same c side FixedOrder None b = ap (λ n. n + 1) (last_same c side FixedOrder)
    port_rank_same c side FixedPos None b = ap (λ n. n + 1) (last_same c side FixedPos)
    port_rank_same c side FixedPos (Some k) false = ap (λ n. n + 1) (last_same c side FixedPos)
    port_rank_same c side FixedPos (Some k) true =
        ap (λ (js : List ℕ). length (filter (λ j. offset_first l q o c j k) js) + 1) (pinned_on_same c side)
        ∙ ap (λ (js : List ℕ). length js + 1) (filter_same (λ j. offset_first l q o c j k) (λ j. offset_first l p o c j k) (pinned_on l p c side) (λ j h. first_same c k j))

    rank_same : (n : End) → rank_of_end l q o n ≡ rank_of_end l p o n
    rank_same n =
        ap (λ (last : ℕ). rank_from n last (dock_of l q o n) (port_rank l q o (spoke l n).child (link_side p n) (child_at l (spoke l n).child).rule (spoke l n).port (is_pinned_port (child_at l (spoke l n).child) (spoke l n).port))) (last_same (spoke l n).child (link_side p n) (child_at l (spoke l n).child).rule)
        ∙ ap (λ (d : Dock). rank_from n (last_rank l p (spoke l n).child (link_side p n) (child_at l (spoke l n).child).rule) d (port_rank l q o (spoke l n).child (link_side p n) (child_at l (spoke l n).child).rule (spoke l n).port (is_pinned_port (child_at l (spoke l n).child) (spoke l n).port))) (dock_same n)
        ∙ ap (λ (r : ℕ). rank_from n (last_rank l p (spoke l n).child (link_side p n) (child_at l (spoke l n).child).rule) (dock_of l p o n) r) (port_rank_same (spoke l n).child (link_side p n) (child_at l (spoke l n).child).rule (spoke l n).port (is_pinned_port (child_at l (spoke l n).child) (spoke l n).port))

    tail_rank_same : (k : ℕ) → tail_rank l q o k ≡ tail_rank l p o k
    tail_rank_same k =
        ap₂ (λ u e. cond (is_child v u) (rank_of_end l q o (tail_end p e)) 0) (alike.tail_is k) (alike.edge_is k)
        ∙ ap₂ (λ (b : Bool) (r : ℕ). cond b r 0) (child_same (link_at p.layered.links k).tail) (rank_same (tail_end p (link_at p.layered.links k).edge))

    head_rank_same : (k : ℕ) → head_rank l q o k ≡ head_rank l p o k
    head_rank_same k =
        ap₂ (λ u e. cond (is_child v u) (rank_of_end l q o (head_end p e)) 0) (alike.head_is k) (alike.edge_is k)
        ∙ ap₂ (λ (b : Bool) (r : ℕ). cond b r 0) (child_same (link_at p.layered.links k).head) (rank_same (head_end p (link_at p.layered.links k).edge))

    table_same : (t : Table) → IsTable l p o t → IsTable l q o t
    table_same t is =
        record {
          child_count = is.child_count;
          end_count = is.end_count;
          loop_count = is.loop_count;
          children = λ c h. entry_same c (child_in t.children c) (is.children c h);
          sources = λ e h. end_same (end_at e true) _ (is.sources e h);
          targets = λ e h. end_same (end_at e false) _ (is.targets e h);
          loops = λ e h loop. loop_same e (loop_in t.loops e) (is.loops e h loop);
        }

pub no_heights : ReadNoHeights
no_heights =
    record {
      orders = λ l p v tops o alike are. orders_same l p v tops alike o are;
      table = λ l p v tops o t alike is. table_same l p v tops alike o t is;
      tail_rank_is = λ l p v tops o k alike. tail_rank_same l p v tops alike o k;
      head_rank_is = λ l p v tops o k alike. head_rank_same l p v tops alike o k;
      linked = λ l p v tops layers alike layers_are flat h. linked_same l p v tops alike layers_are flat layers h;
    }
