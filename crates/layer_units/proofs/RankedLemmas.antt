-- Links with ranks that are read off a table have the ranks of every plan with these units and links, and keep what is asked of
-- units and links.
use Rattle.std.proofs.Common.{◌≡◌, ◌⊎◌, inl, inr, ⊎_elim, ℕ, zero, suc, ◌+◌, ◌<◌, ◌≤◌, ◌&&◌, ◌||◌, not, cond, Bool, true, false, ℤ, List, [], ◌∷◌, map, length, get_or, refl, sym, subst, ap, ap₂, ◌∙◌, arith, IfSome}
use Rattle.std.specs.Prelude.{Option, None, Some, is_some}
use Rattle.std.specs.List.{filter}
use Rattle.std.proofs.lemmas.Bool.{cases_lt, or_parts}
use Rattle.std.proofs.lemmas.List.{get_or_past, length-map}
use Rattle.drawing_types.specs.declared.shape.Side.{Side}
use Rattle.drawing_types.specs.declared.shape.Side.TheVariants.{North, East, South, West}
use Rattle.drawing_types.specs.declared.shape.Dock.{Dock}
use Rattle.drawing_types.specs.declared.shape.Point.{Point}
use Rattle.elk_doc.specs.declared.document.PortRule.{PortRule}
use Rattle.elk_doc.specs.declared.document.PortRule.TheVariants.{Free, FixedSide, FixedOrder, FixedPos}
use Rattle.port_order.specs.declared.children.Child.{Child}
use Rattle.port_order.specs.Child.{is_pinned}
use Rattle.port_order.specs.Places.{place_in}
use Rattle.elk_layers.specs.declared.units.Unit.{Unit as LayerUnit}
use Rattle.elk_layers.specs.declared.units.Link.{Link}
use Rattle.elk_layers.specs.Layered.{Plain, IsFromZero, IsSound, IsSoundLink, layer_of, link_at, unit_at}
use Rattle.self_loops.specs.Loops.{is_upright}
use Rattle.level_model.specs.declared.table.Table.{Table}
use Rattle.level_model.specs.Conditions.{IsLevel}
use Rattle.level_model.specs.Level.{End, Orders, PlainLevel, PlainPlan, child_at, dock_of, dock_of_spot, end_at, enters, head_end, holds, is_loop, port_spot, spoke, spot_at_port, spot_of, tail_end}
use Rattle.level_model.specs.Lanes.{lane_side, side_by}
use Rattle.level_model.specs.Nets.{inverts, unit_of}
use Rattle.level_model.specs.Table.{IsEndAt, IsTable, end_of}
use Rattle.level_model.specs.Units.{AreLinked, AreOrders, IsLaneUnit, is_fixed, is_spread_fixed, lane_rank, last_rank, link_side, offset_first, pinned_on, port_rank, rank_of_end}
use Rattle.level_model.proofs.LinkLemmas.{head_enters, tail_leaves}
use Rattle.level_model.proofs.SpotLemmas.{spoke_there}
use Rattle.dock_table.specs.Bounds.{AreNumbersIn}
use Rattle.dock_table.proofs.AddLemmas.{ports_few}
use Rattle.dock_table.specs.Courses.{ReversedAreMarked}
use Rattle.level_nets.proofs.ListLemmas.{filter_short}
use Rattle.layer_units.specs.Alike.{AreAlike, AreFlat}
use Rattle.layer_units.specs.Reading.{is_on_lane}
use Rattle.layer_units.proofs.AlikeLemmas.{no_heights}
use Rattle.level_model.proofs.LineLemmas.{level_offset}
use Rattle.layer_units.specs.Levels.{AreRanksTo, seen_spots}
use Rattle.layer_units.specs.Ports.{AreRanksOf, PlainRanks, counts, port_at}
use Rattle.layer_units.specs.Ranked.{AreBareLinks, AreRanked, AreReranked, IsRanking, bare_link, has_ranks, plan_of}
use Rattle.layer_units.specs.RankReading as reading
use Rattle.layer_units.specs.RankReading.{AreRankedLinks, HasRanksIn, IsReadable, child_rank, edge_rank, last_in, link_with, ranks_at, unit_rank}
use Rattle.layer_units.proofs.AgreeLemmas.{beside, either, implicit_beside, lies_on_lane, need_no_rows, off_lane, rank_by}
use Rattle.layer_units.proofs.PassingLemmas.{seen_long}
use Rattle.layer_units.proofs.MeaningLemmas.{last_is, place_before, placed_before}
use Rattle.layer_units.proofs.RankReadLemmas.{edge_is, free_child, is_link_with, ranked_child, unit_child, unit_lane}

-- a level with its units and links, its table, and the ranks of its children's ports
pub record IsMade (l : PlainLevel) (p : PlainPlan) (o : Orders) (t : Table) (marks : List Bool) (vs : List PlainRanks) : Type 0 where
  pub level : IsLevel l
  pub sound : IsSound p.layered
  pub layers_are : p.layers ≡ p.layered.layers
  pub is_reversed : ReversedAreMarked l marks p
  pub orders : AreOrders l p o
  pub table : IsTable l p o t
  pub numbers : AreNumbersIn t
  pub ranks : AreRanksTo l marks (length l.children) vs

-- the side of a dock's lane
side_same : (height : ℤ) (side : Side) (y z : ℤ) → (is_upright side ≡ false → y ≡ z) → side_by height side y ≡ side_by height side z
side_same height North y z e = refl
side_same height East y z e = ap (side_by height East) (e refl)
side_same height South y z e = refl
side_same height West y z e = ap (side_by height West) (e refl)

side_is : (l : PlainLevel) (node : ℕ) (side : Side) (offset : ℤ) → side_by (child_at l node).size.height side offset ≡ lane_side l (record { node = node; side = side; offset = offset })
side_is l node North offset = refl
side_is l node East offset = refl
side_is l node South offset = refl
side_is l node West offset = refl

module _ (l : PlainLevel) (p : PlainPlan) (o : Orders) (t : Table) (marks : List Bool) (vs : List PlainRanks) (made : IsMade l p o t marks vs) where
  -- ---- what the code asks

  few_ranked : (c : ℕ) (side : Side) → length (filter (counts side) (map (port_at (child_at l c)) (seen_spots l marks c))) ≤ 4096
  few_ranked c side =
      let short = filter_short (counts side) (map (port_at (child_at l c)) (seen_spots l marks c)) in
      let one = length-map (seen_spots l marks c) (port_at (child_at l c)) in
      let two = seen_long l.edges marks c (length (child_at l c).ports) in
      let few = ports_few l c made.level in
      omega (arith, short, one, two, few)

  ranks_in : (c : ℕ) → c < length l.children → is_fixed (child_at l c).rule ≡ true → HasRanksIn (child_at l c) (ranks_at vs c)
  ranks_in c h fixed =
      let are = made.ranks.each c h fixed in
      let long = seen_long l.edges marks c (length (child_at l c).ports) in
      let most = ports_few l c made.level in
      record {
        as_many = are.before.as_many ∙ long;
        few = λ k. let few = are.before.few k in omega (arith, few, long, most);
        west = let is = are.west_is in let few = few_ranked c West in omega (arith, is, few);
        east = let is = are.east_is in let few = few_ranked c East in omega (arith, is, few);
      }

  pub readable : IsReadable l t vs marks
  readable =
      record {
        level = made.level;
        as_many_ends = made.table.end_count;
        as_many_ranks = made.ranks.as_many;
        as_many_marks = made.is_reversed.marks.as_many;
        numbers = made.numbers;
        ranks = ranks_in;
      }

  -- ---- what is read of an edge's end

  end_is : (e : ℕ) (a : Bool) → e < length l.edges → IsEndAt l p o (end_at e a) (end_of t e a)
  end_is e true h = made.table.sources e h
  end_is e false h = made.table.targets e h

  module _ (e : ℕ) (a b : Bool) (h : e < length l.edges) (loop : is_loop l e ≡ false) (way : enters p (end_at e a) ≡ b) where
    abbrev c : ℕ
    c = (spoke l (end_at e a)).child

    abbrev v : PlainRanks
    v = ranks_at vs (spoke l (end_at e a)).child

    inside : (spoke l (end_at e a)).child < length l.children
    inside = (spoke_there l e a made.level h).child

    ranks_of : (rule : PortRule) → (child_at l c).rule ≡ rule → is_fixed rule ≡ true → AreRanksOf (child_at l c) (seen_spots l marks c) v
    ranks_of rule is fixed = made.ranks.each c inside (ap is_fixed is ∙ fixed)

    side_way : link_side p (end_at e a) ≡ cond b West East
    side_way = ap (λ x. cond x West East) way

    last_of : (rule : PortRule) → (child_at l c).rule ≡ rule → is_fixed rule ≡ true → (rule ≡ FixedOrder) ⊎ (rule ≡ FixedPos) → last_in v b ≡ last_rank l p c (link_side p (end_at e a)) rule
    last_of rule is fixed which = last_is l p o marks c made.is_reversed.marks v (ranks_of rule is fixed) (link_side p (end_at e a)) b side_way rule is which

    -- an end at a port
    module _ (k : ℕ) (at : (spoke l (end_at e a)).port ≡ Some k) where
      abbrev d : Dock
      d = dock_of_spot l o c (port_spot l p c k)

      dock_is : (end_of t e a).dock ≡ d
      dock_is = (end_is e a h).dock ∙ ap (λ (x : Option ℕ). dock_of_spot l o c (spot_at_port l p c (end_at e a) x)) at

      lies : is_on_lane (end_of t e a).dock.side b ≡ lies_on_lane l p (end_at e a) d.side
      lies = ap (λ (x : Dock). is_on_lane x.side b) dock_is ∙ sym (ap₂ (λ x y. is_upright d.side || (not x && inverts d.side y)) loop way)

      y_is : is_upright d.side ≡ false → (end_of t e a).anchor.y ≡ d.offset
      y_is off =
          ap (λ (z : Point). z.y) (end_is e a h).anchor
          ∙ level_offset (child_at l c) (dock_of l p o (end_at e a)).side (spot_of l p (end_at e a)).port (dock_of l p o (end_at e a)).offset (ap (λ (x : Option ℕ). is_upright (dock_of_spot l o c (spot_at_port l p c (end_at e a) x)).side) at ∙ off)
          ∙ ap (λ (x : Option ℕ). (dock_of_spot l o c (spot_at_port l p c (end_at e a) x)).offset) at

      lane_is : side_by (child_at l c).size.height (end_of t e a).dock.side (end_of t e a).anchor.y ≡ lane_side l d
      lane_is =
          ap (λ (x : Dock). side_by (child_at l c).size.height x.side (end_of t e a).anchor.y) dock_is
          ∙ side_same (child_at l c).size.height d.side (end_of t e a).anchor.y d.offset y_is
          ∙ side_is l c d.side d.offset

      port_side : is_on_lane (end_of t e a).dock.side b ≡ false → d.side ≡ link_side p (end_at e a)
      port_side off = beside d.side b (sym (ap (λ (x : Dock). is_on_lane x.side b) dock_is) ∙ off) ∙ sym side_way

      ported : (rule : PortRule) → last_in v b ≡ last_rank l p c (link_side p (end_at e a)) rule → (x : ℕ) → (d.side ≡ link_side p (end_at e a) → get_or v.before k 0 + 1 ≡ x)
          → cond (is_on_lane (end_of t e a).dock.side b) (lane_rank (last_in v b) (side_by (child_at l c).size.height (end_of t e a).dock.side (end_of t e a).anchor.y)) (get_or v.before k 0 + 1)
          ≡ cond (lies_on_lane l p (end_at e a) d.side) (lane_rank (last_rank l p c (link_side p (end_at e a)) rule) (lane_side l d)) x
      ported rule last x same =
          either (is_on_lane (end_of t e a).dock.side b) (lies_on_lane l p (end_at e a) d.side) _ _ (get_or v.before k 0 + 1) x lies
          (ap₂ (λ m s. lane_rank m s) last lane_is) (λ off. same (port_side off))

      fixed_port : (child_at l c).rule ≡ FixedOrder → k < length (child_at l c).ports → reading.port_rank (child_at l c) v (end_of t e a) k b ≡ rank_by l p o (end_at e a) c FixedOrder (Some k)
      fixed_port is less =
          ap (λ r. cond (is_spread_fixed r (Some k) (is_pinned (child_at l c) k)) (last_in v b + 1)
          (cond (is_on_lane (end_of t e a).dock.side b) (lane_rank (last_in v b) (side_by (child_at l c).size.height (end_of t e a).dock.side (end_of t e a).anchor.y)) (get_or v.before k 0 + 1))) is
          ∙ ported FixedOrder (last_of FixedOrder is refl (inl refl)) (place_in (o c (link_side p (end_at e a))) k + 1)
          (λ on. ap (λ m. m + 1) (place_before l p o marks c made.is_reversed.marks v (ranks_of FixedOrder is refl) k (link_side p (end_at e a)) b side_way is less on made.orders inside))

      placed_port : (child_at l c).rule ≡ FixedPos → k < length (child_at l c).ports → reading.port_rank (child_at l c) v (end_of t e a) k b ≡ rank_by l p o (end_at e a) c FixedPos (Some k)
      placed_port is less =
          ap (λ r. cond (is_spread_fixed r (Some k) (is_pinned (child_at l c) k)) (last_in v b + 1)
          (cond (is_on_lane (end_of t e a).dock.side b) (lane_rank (last_in v b) (side_by (child_at l c).size.height (end_of t e a).dock.side (end_of t e a).anchor.y)) (get_or v.before k 0 + 1))) is
          ∙ by (is_pinned (child_at l c) k) refl
        where
          by : (z : Bool) → is_pinned (child_at l c) k ≡ z
              → cond (not (is_pinned (child_at l c) k)) (last_in v b + 1)
              (cond (is_on_lane (end_of t e a).dock.side b) (lane_rank (last_in v b) (side_by (child_at l c).size.height (end_of t e a).dock.side (end_of t e a).anchor.y)) (get_or v.before k 0 + 1))
              ≡ cond (not (is_pinned (child_at l c) k)) (last_rank l p c (link_side p (end_at e a)) FixedPos + 1)
              (cond (lies_on_lane l p (end_at e a) d.side) (lane_rank (last_rank l p c (link_side p (end_at e a)) FixedPos) (lane_side l d)) (port_rank l p o c (link_side p (end_at e a)) FixedPos (Some k) (is_pinned (child_at l c) k)))
          by true pinned =
              subst (λ z. cond (not z) (last_in v b + 1)
              (cond (is_on_lane (end_of t e a).dock.side b) (lane_rank (last_in v b) (side_by (child_at l c).size.height (end_of t e a).dock.side (end_of t e a).anchor.y)) (get_or v.before k 0 + 1))
              ≡ cond (not z) (last_rank l p c (link_side p (end_at e a)) FixedPos + 1)
              (cond (lies_on_lane l p (end_at e a) d.side) (lane_rank (last_rank l p c (link_side p (end_at e a)) FixedPos) (lane_side l d)) (port_rank l p o c (link_side p (end_at e a)) FixedPos (Some k) z))) (sym pinned)
              (ported FixedPos (last_of FixedPos is refl (inr refl)) (length (filter (λ j. offset_first l p o c j k) (pinned_on l p c (link_side p (end_at e a)))) + 1)
              (λ on. ap (λ m. m + 1) (placed_before l p o marks c made.is_reversed.marks v (ranks_of FixedPos is refl) k (link_side p (end_at e a)) is less pinned on)))
          by false pinned =
              subst (λ z. cond (not z) (last_in v b + 1)
              (cond (is_on_lane (end_of t e a).dock.side b) (lane_rank (last_in v b) (side_by (child_at l c).size.height (end_of t e a).dock.side (end_of t e a).anchor.y)) (get_or v.before k 0 + 1))
              ≡ cond (not z) (last_rank l p c (link_side p (end_at e a)) FixedPos + 1)
              (cond (lies_on_lane l p (end_at e a) d.side) (lane_rank (last_rank l p c (link_side p (end_at e a)) FixedPos) (lane_side l d)) (port_rank l p o c (link_side p (end_at e a)) FixedPos (Some k) z))) (sym pinned)
              (ap (λ m. m + 1) (last_of FixedPos is refl (inr refl)))

    implicit_is : (rule : PortRule) → last_in v b ≡ last_rank l p c (link_side p (end_at e a)) rule
        → last_in v b + 1 ≡ cond (lies_on_lane l p (end_at e a) (dock_of_spot l o c (spot_at_port l p c (end_at e a) None)).side) (lane_rank (last_rank l p c (link_side p (end_at e a)) rule) (lane_side l (dock_of_spot l o c (spot_at_port l p c (end_at e a) None)))) (last_rank l p c (link_side p (end_at e a)) rule + 1)
    implicit_is rule last = ap (λ m. m + 1) last ∙ sym (off_lane _ _ _ (implicit_beside l p c (end_at e a) loop))

    by_rule : (rule : PortRule) (port : Option ℕ) → (child_at l c).rule ≡ rule → (spoke l (end_at e a)).port ≡ port → IfSome port (λ k. k < length (child_at l c).ports)
        → child_rank (child_at l c) v (end_of t e a) port b ≡ rank_by l p o (end_at e a) c rule port
    by_rule Free port is at less = free_child (child_at l c) v (end_of t e a) port b (ap is_fixed is)
    by_rule FixedSide port is at less = free_child (child_at l c) v (end_of t e a) port b (ap is_fixed is)
    by_rule FixedOrder None is at less = ranked_child (child_at l c) v (end_of t e a) None b (ap is_fixed is) ∙ implicit_is FixedOrder (last_of FixedOrder is refl (inl refl))
    by_rule FixedPos None is at less = ranked_child (child_at l c) v (end_of t e a) None b (ap is_fixed is) ∙ implicit_is FixedPos (last_of FixedPos is refl (inr refl))
    by_rule FixedOrder (Some k) is at less = ranked_child (child_at l c) v (end_of t e a) (Some k) b (ap is_fixed is) ∙ fixed_port k at is less
    by_rule FixedPos (Some k) is at less = ranked_child (child_at l c) v (end_of t e a) (Some k) b (ap is_fixed is) ∙ placed_port k at is less

    edge_rank_is : edge_rank l t vs e a b ≡ rank_of_end l p o (end_at e a)
    edge_rank_is = edge_is l t vs e a b ∙ by_rule (child_at l c).rule (spoke l (end_at e a)).port refl refl (spoke_there l e a made.level h).port

-- ---- what the code gives

-- the way in which units are linked does not depend on rows
abbrev with_rows : PlainPlan → List (List ℕ) → PlainPlan
with_rows p rows = record { layers = p.layers; layered = p.layered; rows = rows; tops = p.tops; reversed = p.reversed }

lane_rows : (p : PlainPlan) (rows : List (List ℕ)) (u : ℕ) → IsLaneUnit p u → IsLaneUnit (with_rows p rows) u
lane_rows p rows u h = record { no_child = h.no_child; flat = h.flat; entered = h.entered; once = h.once }

linked_rows : (l : PlainLevel) (p : PlainPlan) (rows : List (List ℕ)) (layers : List ℕ) → AreLinked l p layers → AreLinked l (with_rows p rows) layers
linked_rows l p rows layers h =
    record {
      children = λ c k. let is = h.children c k in record { in_range = is.in_range; child = is.child; alone = is.alone; layer_is = is.layer_is };
      units = λ u k. ⊎_elim (λ lane. inl (lane_rows p rows u lane)) (λ (is : (c : ℕ) × (c < length l.children) × (u ≡ unit_of p c)). inr is) (h.units u k);
      chains = λ e k no_loop. let is = h.chains e k no_loop in record {
        long = is.long;
        some = is.some;
        from = is.from;
        to = is.to;
        joined = is.joined;
        lanes = λ i less. lane_rows p rows _ (is.lanes i less);
      };
      links = λ k m. let is = h.links k m in record { edge_in = is.edge_in; no_loop = is.no_loop };
    }

-- units and links with other links
abbrev pub with_links : Plain → List Link → Plain
with_links a links = record { layers = a.layers; units = a.units; links = links; node_node = a.node_node; edge_node = a.edge_node; edge_edge = a.edge_edge }

-- links as they were, but for their ranks
pub record AreRelinked (links ks : List Link) : Type 0 where
  pub as_many : length ks ≡ length links
  pub edge_is : (k : ℕ) → (link_at ks k).edge ≡ (link_at links k).edge
  pub tail_is : (k : ℕ) → (link_at ks k).tail ≡ (link_at links k).tail
  pub head_is : (k : ℕ) → (link_at ks k).head ≡ (link_at links k).head
  pub tail_at_is : (k : ℕ) → (link_at ks k).tail_at ≡ (link_at links k).tail_at
  pub head_at_is : (k : ℕ) → (link_at ks k).head_at ≡ (link_at links k).head_at
  pub few : (k : ℕ) → k < length links → ((link_at ks k).tail_rank < 65536) × ((link_at ks k).head_rank < 65536)

module _ (a : Plain) (ks : List Link) (sound : IsSound a) (links : AreRelinked a.links ks) where
  alike : AreAlike a (with_links a ks)
  alike =
      record {
        layers_are = refl;
        as_many_units = refl;
        as_many_links = links.as_many;
        layer_is = λ u. refl;
        child_is = λ u. refl;
        edge_is = links.edge_is;
        tail_is = links.tail_is;
        head_is = links.head_is;
      }

  reranked : AreReranked a (with_links a ks)
  reranked =
      record {
        alike = alike;
        units_are = refl;
        tail_at_is = links.tail_at_is;
        head_at_is = links.head_at_is;
        node_node = refl;
        edge_node = refl;
        edge_edge = refl;
      }

  sound_link : (k : ℕ) → k < length a.links → IsSoundLink (with_links a ks) (link_at ks k)
  sound_link k h =
      let old = sound.links_are k h in
      let tail = links.tail_is k in
      let head = links.head_is k in
      let tail_in = old.tail in
      let head_in = old.head in
      record {
        tail = omega (arith, tail, tail_in);
        head = omega (arith, head, head_in);
        next_layer = ap (layer_of a) head ∙ old.next_layer ∙ ap (λ u. layer_of a u + 1) (sym tail);
        tail_rank = (links.few k h).0;
        head_rank = (links.few k h).1;
        tail_at = subst (λ z. IsFromZero z (unit_at a.units (link_at ks k).tail).height) (sym (links.tail_at_is k)) (subst (λ u. IsFromZero (link_at a.links k).tail_at (unit_at a.units u).height) (sym tail) old.tail_at);
        head_at = subst (λ z. IsFromZero z (unit_at a.units (link_at ks k).head).height) (sym (links.head_at_is k)) (subst (λ u. IsFromZero (link_at a.links k).head_at (unit_at a.units u).height) (sym head) old.head_at);
      }

  is_sound : IsSound (with_links a ks)
  is_sound =
      let many = links.as_many in
      let few = sound.few_links in
      record {
        node_node_is = sound.node_node_is;
        edge_node_is = sound.edge_node_is;
        edge_edge_is = sound.edge_edge_is;
        few_units = sound.few_units;
        few_links = omega (arith, many, few);
        layers_are = sound.layers_are;
        few_in_layer = sound.few_in_layer;
        links_are = λ k h. sound_link k (omega (arith, h, many));
        heights = sound.heights;
        together = sound.together;
        lanes_are_flat = sound.lanes_are_flat;
        bodies = sound.bodies;
      }

  flat : AreFlat (with_links a ks)
  flat u none =
      ⊎_elim
      (λ less. sound.lanes_are_flat u less (ap (λ k. not (is_some k)) none))
      (λ past. ap (λ (x : LayerUnit). x.height) (get_or_past a.units u (unit_at [] 0) past))
      (cases_lt u (length a.units))

  -- links with their ranks are all that is asked
  pub ranking : (l : PlainLevel) (reversed : List ℕ) → AreRanked l (with_links a ks) reversed → IsRanking l a (with_links a ks) reversed
  ranking l reversed ranks =
      record {
        ranks = ranks;
        sound = is_sound;
        rows = λ rows h. record { as_many = h.as_many; in_range = h.in_range; in_layer = h.in_layer; complete = h.complete; once = h.once };
        linked = λ from to tops layers h. no_heights.linked l (plan_of a to [] reversed) (with_links a ks) tops layers alike refl flat (linked_rows l (plan_of a from [] reversed) to layers h);
        kept = reranked;
      }

module _ (l : PlainLevel) (p : PlainPlan) (o : Orders) (t : Table) (marks : List Bool) (vs : List PlainRanks) (ks : List Link) (made : IsMade l p o t marks vs)
    (links : AreRankedLinks l t vs p.layered.units marks p.layered.links (length p.layered.links) ks) where
  field_is : {X : Type 0} (f : Link → X) → ((x : Link) → f (link_with l t vs p.layered.units marks x) ≡ f x) → (k : ℕ) → f (link_at ks k) ≡ f (link_at p.layered.links k)
  field_is f kept k =
      ⊎_elim
      (λ less. ap f (links.each k less) ∙ kept (link_at p.layered.links k))
      (λ past. ap f (links.rest k past))
      (cases_lt k (length p.layered.links))

  pub relinked : AreRelinked p.layered.links ks
  relinked =
      record {
        as_many = links.as_many;
        edge_is = field_is (λ (x : Link). x.edge) (λ x. (is_link_with l t vs p.layered.units marks x).edge);
        tail_is = field_is (λ (x : Link). x.tail) (λ x. (is_link_with l t vs p.layered.units marks x).tail);
        head_is = field_is (λ (x : Link). x.head) (λ x. (is_link_with l t vs p.layered.units marks x).head);
        tail_at_is = field_is (λ (x : Link). x.tail_at) (λ x. (is_link_with l t vs p.layered.units marks x).tail_at);
        head_at_is = field_is (λ (x : Link). x.head_at) (λ x. (is_link_with l t vs p.layered.units marks x).head_at);
        few = links.few;
      }

  unit_rank_is : (u e : ℕ) (a b : Bool) (q : PlainPlan) (r : Orders) → p.reversed ≡ q.reversed → AreOrders l q r → e < length l.edges → is_loop l e ≡ false → enters p (end_at e a) ≡ b
      → unit_rank l t vs (unit_at p.layered.units u) e a b ≡ cond (is_some (unit_at p.layered.units u).child) (rank_of_end l q r (end_at e a)) 0
  unit_rank_is u e a b q r is_reversed are h loop way = step (is_some (unit_at p.layered.units u).child) refl
    where
      step : (z : Bool) → is_some (unit_at p.layered.units u).child ≡ z → unit_rank l t vs (unit_at p.layered.units u) e a b ≡ cond z (rank_of_end l q r (end_at e a)) 0
      step true is = unit_child l t vs (unit_at p.layered.units u) e a b is ∙ edge_rank_is l p o t marks vs made e a b h loop way ∙ need_no_rows l p q o r (end_at e a) made.level is_reversed made.orders are h loop
      step false is = unit_lane l t vs (unit_at p.layered.units u) e a b is

  pub are_ranked : AreRanked l (with_links p.layered ks) p.reversed
  are_ranked rows tops r k are less =
      let many = links.as_many in
      let h : k < length p.layered.links = omega (arith, less, many) in
      let is = made.is_reversed.linked.links k h in
      let q = plan_of (with_links p.layered ks) rows tops p.reversed in
      record {
        tail = ap (λ (x : Link). x.tail_rank) (links.each k h)
            ∙ (is_link_with l t vs p.layered.units marks (link_at p.layered.links k)).tail_rank
            ∙ ap (λ m. unit_rank l t vs (unit_at p.layered.units (link_at p.layered.links k).tail) (link_at p.layered.links k).edge (not m) false) (made.is_reversed.marks.each (link_at p.layered.links k).edge is.edge_in)
            ∙ unit_rank_is (link_at p.layered.links k).tail (link_at p.layered.links k).edge (not (holds p.reversed (link_at p.layered.links k).edge)) false (plan_of (with_links p.layered ks) rows tops p.reversed) r refl are is.edge_in is.no_loop (tail_leaves p (link_at p.layered.links k).edge)
            ∙ sym (ap₂ (λ u e. cond (is_some (unit_at p.layered.units u).child) (rank_of_end l (plan_of (with_links p.layered ks) rows tops p.reversed) r (end_at e (not (holds p.reversed e)))) 0) (relinked.tail_is k) (relinked.edge_is k));
        head = ap (λ (x : Link). x.head_rank) (links.each k h)
            ∙ (is_link_with l t vs p.layered.units marks (link_at p.layered.links k)).head_rank
            ∙ ap (λ m. unit_rank l t vs (unit_at p.layered.units (link_at p.layered.links k).head) (link_at p.layered.links k).edge m true) (made.is_reversed.marks.each (link_at p.layered.links k).edge is.edge_in)
            ∙ unit_rank_is (link_at p.layered.links k).head (link_at p.layered.links k).edge (holds p.reversed (link_at p.layered.links k).edge) true (plan_of (with_links p.layered ks) rows tops p.reversed) r refl are is.edge_in is.no_loop (head_enters p (link_at p.layered.links k).edge)
            ∙ sym (ap₂ (λ u e. cond (is_some (unit_at p.layered.units u).child) (rank_of_end l (plan_of (with_links p.layered ks) rows tops p.reversed) r (end_at e (holds p.reversed e))) 0) (relinked.head_is k) (relinked.edge_is k));
      }

-- ---- a level none of whose ports are ranked

none_fixed : (cs : List Child) → has_ranks cs ≡ false → (i : ℕ) (d : Child) → i < length cs → is_fixed (get_or cs i d).rule ≡ false
none_fixed [] e i d h = absurd (omega (arith, h))
none_fixed (c ∷ cs) e zero d h = (or_parts (is_fixed c.rule) (has_ranks cs) e).0
none_fixed (c ∷ cs) e (suc i) d h = none_fixed cs (or_parts (is_fixed c.rule) (has_ranks cs) e).1 i d (omega (arith, h))

without : (b : Bool) (x : ℕ) → b ≡ false → cond (not b) 0 x ≡ 0
without b x e = ap (λ c. cond (not c) 0 x) e

nothing : (b : Bool) (x : ℕ) → x ≡ 0 → cond b x 0 ≡ 0
nothing true x e = e
nothing false x e = refl

module _ (l : PlainLevel) (a : Plain) (ks : List Link) (reversed : List ℕ) (none : has_ranks l.children ≡ false) (links : AreBareLinks a.links (length a.links) ks) where
  field_kept : {X : Type 0} (f : Link → X) → ((x : Link) → f (bare_link x) ≡ f x) → (k : ℕ) → f (link_at ks k) ≡ f (link_at a.links k)
  field_kept f kept k =
      ⊎_elim
      (λ less. ap f (links.each k less) ∙ kept (link_at a.links k))
      (λ past. ap f (links.rest k past))
      (cases_lt k (length a.links))

  few_bare : (k : ℕ) → k < length a.links → ((link_at ks k).tail_rank < 65536) × ((link_at ks k).head_rank < 65536)
  few_bare k h =
      let tail = ap (λ (x : Link). x.tail_rank) (links.each k h) in
      let head = ap (λ (x : Link). x.head_rank) (links.each k h) in
      (omega (arith, tail), omega (arith, head))

  pub bare_relinked : AreRelinked a.links ks
  bare_relinked =
      record {
        as_many = links.as_many;
        edge_is = field_kept (λ (x : Link). x.edge) (λ x. refl);
        tail_is = field_kept (λ (x : Link). x.tail) (λ x. refl);
        head_is = field_kept (λ (x : Link). x.head) (λ x. refl);
        tail_at_is = field_kept (λ (x : Link). x.tail_at) (λ x. refl);
        head_at_is = field_kept (λ (x : Link). x.head_at) (λ x. refl);
        few = few_bare;
      }

  free : (c : ℕ) → is_fixed (child_at l c).rule ≡ false
  free c =
      ⊎_elim
      (λ less. none_fixed l.children none c (child_at (record { children = []; edges = []; spacing = l.spacing; choices = l.choices }) 0) less)
      (λ past. ap (λ (x : Child). is_fixed x.rule) (get_or_past l.children c (child_at (record { children = []; edges = []; spacing = l.spacing; choices = l.choices }) 0) past))
      (cases_lt c (length l.children))

  no_rank : (q : PlainPlan) (o : Orders) (n : End) → rank_of_end l q o n ≡ 0
  no_rank q o n = without (is_fixed (child_at l (spoke l n).child).rule) _ (free (spoke l n).child)

  pub bare_ranked : AreRanked l (with_links a ks) reversed
  bare_ranked rows tops o k are less =
      let many = links.as_many in
      let h : k < length a.links = omega (arith, less, many) in
      let q = plan_of (with_links a ks) rows tops reversed in
      record {
        tail = ap (λ (x : Link). x.tail_rank) (links.each k h) ∙ sym (nothing _ _ (no_rank q o (tail_end q (link_at ks k).edge)));
        head = ap (λ (x : Link). x.head_rank) (links.each k h) ∙ sym (nothing _ _ (no_rank q o (head_end q (link_at ks k).edge)));
      }
