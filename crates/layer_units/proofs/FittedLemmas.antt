-- What is read off a table are the heights and pins of the plan, and they keep what is asked of units and links.
use Rattle.std.proofs.Common.{◌≡◌, ⊎_elim, ℕ, ◌+◌, ◌*◌, ◌<◌, ◌≤◌, ◌^◌, cond, Bool, true, false, not, ◌||◌, ℤ, pos, ◌+ℤ◌, ◌-ℤ◌, ◌≤ℤ◌, List, [], length, IfSome, refl, sym, subst, ap, ap₂, ◌∙◌, arith}
use Rattle.std.proofs.lemmas.Bool.{cases_lt, or_parts}
use Rattle.std.proofs.lemmas.Int.{ints}
use Rattle.std.proofs.lemmas.List.{get_or_past}
use Rattle.std.specs.Prelude.{Option, None, Some, is_some}
use Rattle.drawing_types.specs.declared.shape.Dock.{Dock}
use Rattle.drawing_types.specs.declared.shape.Point.{Point}
use Rattle.drawing_types.specs.declared.shape.Rect.{Rect}
use Rattle.drawing_types.specs.declared.shape.Side.TheVariants.{North, South}
use Rattle.drawing_types.specs.Ranges.{IsWithin}
use Rattle.elk_layers.specs.declared.units.Unit.{Unit as LayerUnit}
use Rattle.elk_layers.specs.declared.units.Link.{Link}
use Rattle.elk_layers.specs.Layered.{Plain, AreRows, HasBodyWithin, HasUnit, IsSound, IsSoundLink, is_child, layer_of, link_at, row_at, total_height, unit_at}
use Rattle.self_loops.specs.Loops.{is_upright}
use Rattle.level_model.specs.Stage.{anchor_line, dock_lane, long_lane}
use Rattle.level_model.specs.declared.table.Table.{Table}
use Rattle.level_model.specs.Conditions.{IsLevel}
use Rattle.level_model.specs.Conditions as level
use Rattle.level_model.specs.Level.{PlainLevel, PlainPlan, Orders, End, child_at, dock_of, end_at, enters, head_end, holds, is_loop, outline, spoke, spot_of, tail_end}
use Rattle.level_model.specs.Lanes.{body_top, lanes, lanes_room, unit_height, room}
use Rattle.level_model.specs.Nets.{below_top, head_line, is_inverted, is_number, line_of_end, tail_line, unit_of}
use Rattle.level_model.specs.Table.{IsEndAt, IsTable, child_in, end_in, end_of}
use Rattle.level_model.specs.Units.{AreLinked, AreOrders, HasRoom}
use Rattle.level_model.proofs.LaneLemmas.{end_has_lane}
use Rattle.level_model.proofs.LinkLemmas.{head_ends, head_enters, tail_ends, tail_leaves, unit_of_end}
use Rattle.dock_table.specs.Bounds.{AreNumbersIn}
use Rattle.dock_table.proofs.ReadyLemmas.{have_children}
use Rattle.dock_table.specs.Courses.{ReversedAreMarked}
use Rattle.layer_units.specs.Alike.{AreAlike, AreFlat, LanesStay, with_layered}
use Rattle.layer_units.specs.Tabled.{IsTableOf}
use Rattle.layer_units.specs.Fitted.{AreFitted, AreKept}
use Rattle.layer_units.specs.Reading.{AreFittedLinks, AreFittedUnits, HasChildIn, IsLinkIn, IsReadable, anchor_below, is_on_lane, pin_at, pin_of, roomy}
use Rattle.layer_units.proofs.AlikeLemmas.{child_same, no_heights, unit_same}
use Rattle.layer_units.proofs.ReadLemmas.{count_same, field_same, half, is_link_with, lanes_few, link_field, number_some, pin_child, pin_lane, pin_off, pin_on, room_low, with_child, with_layer, with_none, with_some}
use Rattle.layer_units.proofs.SizeLemmas.{heights_least, heights_of, outline_high}
use Rattle.layer_units.proofs.TotalLemmas.{IsCounted, first, first_double, first_heights, total_within}
use Rattle.level_model.proofs.SpotLemmas.{spoke_there}
use Rattle.level_model.proofs.EndLemmas.{lanes_from_zero, outline_deep}
use Rattle.level_model.proofs.LaneHeights.{IsUpTo}
use Rattle.level_model.proofs.LineLemmas.{level_offset}
use Rattle.layer_units.proofs.WithinLemmas.{end_within, inverted_is}

-- the units and links with heights and pins
abbrev pub plain_with : PlainPlan → List LayerUnit → List Link → Plain
plain_with p us ks =
    record {
      layers = p.layered.layers;
      units = us;
      links = ks;
      node_node = p.layered.node_node;
      edge_node = p.layered.edge_node;
      edge_edge = p.layered.edge_edge;
    }

-- a level with its units and links, rows and table
pub record IsTabled (l : PlainLevel) (p : PlainPlan) (o : Orders) (t : Table) (marks : List Bool) : Type 0 where
  pub level : IsLevel l
  pub sound : IsSound p.layered
  pub rows : AreRows p.layered p.rows
  pub layers_are : p.layers ≡ p.layered.layers
  pub node_node : p.layered.node_node ≡ l.spacing.node_node
  pub edge_node : p.layered.edge_node ≡ l.spacing.edge_node
  pub edge_edge : p.layered.edge_edge ≡ l.spacing.edge_edge
  pub is_reversed : ReversedAreMarked l marks p
  pub orders : AreOrders l p o
  pub table : IsTable l p o t
  pub numbers : AreNumbersIn t

-- ---- what the code asks of the table

module _ (l : PlainLevel) (p : PlainPlan) (o : Orders) (t : Table) (marks : List Bool) (made : IsTabled l p o t marks) where
  end_node : (e : ℕ) (a : Bool) → e < length l.edges → (end_of t e a).dock.node < length t.children
  end_node e true h = let node = ap (λ (d : Dock). d.node) (made.table.sources e h).dock in let inside = (made.level.edges e h).source.child in let many = made.table.child_count in omega (arith, node, inside, many)
  end_node e false h = let node = ap (λ (d : Dock). d.node) (made.table.targets e h).dock in let inside = (made.level.edges e h).target.child in let many = made.table.child_count in omega (arith, node, inside, many)

  dock_node : (i : ℕ) → i < length t.ends → (end_in t.ends i).dock.node < length t.children
  dock_node i h =
      let many = made.table.end_count in
      let twice = half i in
      ⊎_elim
      (λ (even : i ≡ 2 * twice.0). subst (λ j. (end_in t.ends j).dock.node < length t.children) (sym even) (end_node twice.0 true (omega (arith, h, many, even))))
      (λ (odd : i ≡ 2 * twice.0 + 1). subst (λ j. (end_in t.ends j).dock.node < length t.children) (sym odd) (end_node twice.0 false (omega (arith, h, many, odd))))
      twice.1

  pub readable : IsReadable l t marks
  readable =
      let many = made.table.child_count in
      record {
        spacing = made.level.spacing;
        few_edges = made.level.few_edges;
        as_many_children = made.table.child_count;
        as_many_ends = made.table.end_count;
        as_many_marks = made.is_reversed.marks.as_many;
        numbers = made.numbers;
        north = λ c h. let is = (made.table.children c (omega (arith, h, many))).north in let few = lanes_few l p o c North made.level in omega (arith, is, few);
        south = λ c h. let is = (made.table.children c (omega (arith, h, many))).south in let few = lanes_few l p o c South made.level in omega (arith, is, few);
        docks = dock_node;
      }

  pub children_in : (u : ℕ) → u < length p.layered.units → HasChildIn t (unit_at p.layered.units u)
  children_in u h = step (unit_at p.layered.units u).child refl
    where
      step : (k : Option ℕ) → (unit_at p.layered.units u).child ≡ k → IfSome k (λ c. c < length t.children)
      step None e = tt
      step (Some c) e = let less = have_children l p made.is_reversed.layers made.is_reversed.linked u c h e in let many = made.table.child_count in omega (arith, less, many)

  pub links_in : (us : List LayerUnit) → length us ≡ length p.layered.units → (k : ℕ) → k < length p.layered.links → IsLinkIn l us (link_at p.layered.links k)
  links_in us many k h =
      let is = made.sound.links_are k h in
      let tail = is.tail in
      let head = is.head in
      record { edge = (made.is_reversed.linked.links k h).edge_in; tail = omega (arith, tail, many); head = omega (arith, head, many) }

-- ---- what the code gives

module _ (l : PlainLevel) (p : PlainPlan) (o : Orders) (t : Table) (marks : List Bool) (us : List LayerUnit) (ks : List Link) (made : IsTabled l p o t marks)
    (units : AreFittedUnits l.spacing t.children p.layered.units (length p.layered.units) us)
    (links : AreFittedLinks l.spacing t us marks p.layered.links (length p.layered.links) ks) where
  pub alike : AreAlike p.layered (plain_with p us ks)
  alike =
      record {
        layers_are = refl;
        as_many_units = units.as_many;
        as_many_links = links.as_many;
        layer_is = field_same (λ (x : LayerUnit). x.layer) l.spacing t.children p.layered.units us units (with_layer l.spacing t.children);
        child_is = field_same (λ (x : LayerUnit). x.child) l.spacing t.children p.layered.units us units (with_child l.spacing t.children);
        edge_is = link_field (λ (x : Link). x.edge) l.spacing t us marks p.layered.links ks links (λ x. (is_link_with l.spacing t us marks x).edge);
        tail_is = link_field (λ (x : Link). x.tail) l.spacing t us marks p.layered.links ks links (λ x. (is_link_with l.spacing t us marks x).tail);
        head_is = link_field (λ (x : Link). x.head) l.spacing t us marks p.layered.links ks links (λ x. (is_link_with l.spacing t us marks x).head);
      }

  lanes_stay : LanesStay p.layered (plain_with p us ks)
  lanes_stay u none =
      ⊎_elim
      (λ less. units.each u less ∙ with_none l.spacing t.children (unit_at p.layered.units u) none)
      (λ past. let many = units.as_many in get_or_past us u (unit_at [] 0) (omega (arith, past, many)) ∙ sym (get_or_past p.layered.units u (unit_at [] 0) past))
      (cases_lt u (length p.layered.units))

  pub are_kept : AreKept p.layered (plain_with p us ks)
  are_kept =
      record {
        alike = alike;
        lanes = lanes_stay;
        tail_rank_is = link_field (λ (x : Link). x.tail_rank) l.spacing t us marks p.layered.links ks links (λ x. (is_link_with l.spacing t us marks x).tail_rank);
        head_rank_is = link_field (λ (x : Link). x.head_rank) l.spacing t us marks p.layered.links ks links (λ x. (is_link_with l.spacing t us marks x).head_rank);
        node_node = refl;
        edge_node = refl;
        edge_edge = refl;
      }

  -- a lane of a long edge stays flat
  flat_in : (u : ℕ) → u < length p.layered.units → (unit_at us u).child ≡ None → (unit_at us u).height ≡ pos 0
  flat_in u less none =
      let old : (unit_at p.layered.units u).child ≡ None = sym (alike.child_is u) ∙ none in
      ap (λ (x : LayerUnit). x.height) (units.each u less ∙ with_none l.spacing t.children (unit_at p.layered.units u) old)
      ∙ made.sound.lanes_are_flat u less (ap (λ k. not (is_some k)) old)

  flat : AreFlat (plain_with p us ks)
  flat u none =
      ⊎_elim
      (λ less. flat_in u less none)
      (λ past. let many = units.as_many in ap (λ (x : LayerUnit). x.height) (get_or_past us u (unit_at [] 0) (omega (arith, past, many))))
      (cases_lt u (length p.layered.units))

  module _ (tops : List ℤ) where
    abbrev q : PlainPlan
    q = with_layered p (plain_with p us ks) tops

    table_q : IsTable l (with_layered p (plain_with p us ks) tops) o t
    table_q = no_heights.table l p (plain_with p us ks) tops o t alike made.table

    orders_q : AreOrders l (with_layered p (plain_with p us ks) tops) o
    orders_q = no_heights.orders l p (plain_with p us ks) tops o alike made.orders

    -- the table is that of the units and links that have them
    pub tabled_on : IsTableOf l (with_layered p (plain_with p us ks) tops) t
    tabled_on = record { orders = o; are_orders = orders_q; table = table_q; numbers = made.numbers }

    linked_q : AreLinked l (with_layered p (plain_with p us ks) tops) made.is_reversed.layers
    linked_q = no_heights.linked l p (plain_with p us ks) tops made.is_reversed.layers alike made.layers_are flat made.is_reversed.linked

    -- a child's unit has room
    unit_is : (c : ℕ) → c < length l.children → unit_at us (unit_of q c) ≡ roomy l.spacing (child_in t.children c) (unit_at p.layered.units (unit_of q c))
    unit_is c h =
        let unit = linked_q.children c h in
        let in_range = unit.in_range in
        let many = units.as_many in
        let old : (unit_at p.layered.units (unit_of q c)).child ≡ Some c = sym (alike.child_is (unit_of q c)) ∙ unit.child in
        units.each (unit_of q c) (omega (arith, in_range, many)) ∙ with_some l.spacing t.children (unit_at p.layered.units (unit_of q c)) c old

    room_is : (c : ℕ) → c < length l.children → HasRoom l (with_layered p (plain_with p us ks) tops) o c
    room_is c h =
        let is = unit_is c h in
        let entry = table_q.children c h in
        record {
          height = ap (λ (y : LayerUnit). y.height) is
              ∙ ap (λ n. room l.spacing n +ℤ (child_in t.children c).outline.height +ℤ room l.spacing (child_in t.children c).south) entry.north
              ∙ ap (λ (r : Rect). lanes_room l (length (lanes l q o c North)) +ℤ r.height +ℤ room l.spacing (child_in t.children c).south) entry.outline_is
              ∙ ap (λ n. lanes_room l (length (lanes l q o c North)) +ℤ (outline l q o c).height +ℤ room l.spacing n) entry.south;
          top = ap (λ (y : LayerUnit). y.body_top) is ∙ ap (λ n. room l.spacing n) entry.north;
          body = ap (λ (y : LayerUnit). y.body_height) is ∙ ap (λ (r : Rect). r.height) entry.outline_is;
          north = ap (λ (y : LayerUnit). y.north) is ∙ entry.north;
          south = ap (λ (y : LayerUnit). y.south) is ∙ entry.south;
        }

    -- ---- pins

    end_is : (e : ℕ) (a : Bool) → e < length l.edges → IsEndAt l (with_layered p (plain_with p us ks) tops) o (end_at e a) (end_of t e a)
    end_is e true h = table_q.sources e h
    end_is e false h = table_q.targets e h

    anchor_is : (e : ℕ) (a : Bool) → e < length l.edges → is_upright (dock_of l q o (end_at e a)).side ≡ false
        → anchor_below l.spacing (child_in t.children (end_of t e a).dock.node) (end_of t e a) ≡ below_top l q o (anchor_line (dock_of l q o (end_at e a)))
    anchor_is e a h beside =
        let at = end_is e a h in
        let inside = (spoke_there l e a made.level h).child in
        let entry = table_q.children (spoke l (end_at e a)).child inside in
        let y : (end_of t e a).anchor.y ≡ (dock_of l q o (end_at e a)).offset =
        ap (λ (z : Point). z.y) at.anchor ∙ level_offset (child_at l (spoke l (end_at e a)).child) (dock_of l q o (end_at e a)).side (spot_of l q (end_at e a)).port (dock_of l q o (end_at e a)).offset beside
        in
        ap (λ (d : Dock). anchor_below l.spacing (child_in t.children d.node) (end_of t e a)) at.dock
        ∙ ap (λ n. (room l.spacing n -ℤ (child_in t.children (spoke l (end_at e a)).child).outline.y) +ℤ (end_of t e a).anchor.y) entry.north
        ∙ ap₂ (λ (r : Rect) (z : ℤ). (body_top l q o (spoke l (end_at e a)).child -ℤ r.y) +ℤ z) entry.outline_is y

    pin_is : (e : ℕ) (a b : Bool) → e < length l.edges → is_loop l e ≡ false → enters q (end_at e a) ≡ b → pin_of l.spacing t (end_of t e a) b ≡ below_top l q o (line_of_end l q o (end_at e a))
    pin_is e a b h loop way = step (is_upright (dock_of l q o (end_at e a)).side || is_inverted l q o (end_at e a)) refl
      where
        same : is_on_lane (end_of t e a).dock.side b ≡ (is_upright (dock_of l q o (end_at e a)).side || is_inverted l q o (end_at e a))
        same =
            ap (λ (d : Dock). is_on_lane d.side b) (end_is e a h).dock
            ∙ ap (λ z. is_on_lane (dock_of l q o (end_at e a)).side z) (sym way)
            ∙ sym (inverted_is l q o (end_at e a) loop)

        step : (z : Bool) → (is_upright (dock_of l q o (end_at e a)).side || is_inverted l q o (end_at e a)) ≡ z
            → pin_of l.spacing t (end_of t e a) b ≡ below_top l q o (cond z (dock_lane (dock_of l q o (end_at e a))) (anchor_line (dock_of l q o (end_at e a))))
        step true lies =
            pin_on l.spacing t (end_of t e a) b (same ∙ lies)
            ∙ (end_is e a h).lane (end_has_lane l q o e a made.level h loop (sym (inverted_is l q o (end_at e a) loop) ∙ lies))
        step false lies = pin_off l.spacing t (end_of t e a) b (same ∙ lies) ∙ anchor_is e a h (or_parts (is_upright (dock_of l q o (end_at e a)).side) (is_inverted l q o (end_at e a)) lies).0

    pin_line : (u e : ℕ) (a b : Bool) → e < length l.edges → is_loop l e ≡ false → enters q (end_at e a) ≡ b
        → pin_at l.spacing t (unit_at us u) e a b ≡ below_top l q o (cond (is_child (plain_with p us ks) u) (line_of_end l q o (end_at e a)) (long_lane u))
    pin_line u e a b h loop way = step (is_some (unit_at us u).child) refl
      where
        step : (z : Bool) → is_some (unit_at us u).child ≡ z → pin_at l.spacing t (unit_at us u) e a b ≡ below_top l q o (cond z (line_of_end l q o (end_at e a)) (long_lane u))
        step true is = pin_child l.spacing t (unit_at us u) e a b is ∙ pin_is e a b h loop way
        step false is = pin_lane l.spacing t (unit_at us u) e a b is

    pub tail_pin : (k : ℕ) → k < length p.layered.links → (link_at ks k).tail_at ≡ below_top l q o (tail_line l q o k)
    tail_pin k h =
        let is = made.is_reversed.linked.links k h in
        ap (λ (y : Link). y.tail_at) (links.each k h)
        ∙ (is_link_with l.spacing t us marks (link_at p.layered.links k)).tail_at
        ∙ ap (λ m. pin_at l.spacing t (unit_at us (link_at p.layered.links k).tail) (link_at p.layered.links k).edge (not m) false) (made.is_reversed.marks.each (link_at p.layered.links k).edge is.edge_in)
        ∙ pin_line (link_at p.layered.links k).tail (link_at p.layered.links k).edge (not (holds p.reversed (link_at p.layered.links k).edge)) false is.edge_in is.no_loop (tail_leaves q (link_at p.layered.links k).edge)
        ∙ sym (ap₂ (λ u e. below_top l q o (cond (is_child (plain_with p us ks) u) (line_of_end l q o (tail_end q e)) (long_lane u))) (alike.tail_is k) (alike.edge_is k))

    pub head_pin : (k : ℕ) → k < length p.layered.links → (link_at ks k).head_at ≡ below_top l q o (head_line l q o k)
    head_pin k h =
        let is = made.is_reversed.linked.links k h in
        ap (λ (y : Link). y.head_at) (links.each k h)
        ∙ (is_link_with l.spacing t us marks (link_at p.layered.links k)).head_at
        ∙ ap (λ m. pin_at l.spacing t (unit_at us (link_at p.layered.links k).head) (link_at p.layered.links k).edge m true) (made.is_reversed.marks.each (link_at p.layered.links k).edge is.edge_in)
        ∙ pin_line (link_at p.layered.links k).head (link_at p.layered.links k).edge (holds p.reversed (link_at p.layered.links k).edge) true is.edge_in is.no_loop (head_enters q (link_at p.layered.links k).edge)
        ∙ sym (ap₂ (λ u e. below_top l q o (cond (is_child (plain_with p us ks) u) (line_of_end l q o (head_end q e)) (long_lane u))) (alike.head_is k) (alike.edge_is k))

    pub are_fitted : (layers : List ℕ) → AreLinked l p layers → AreFitted l (with_layered p (plain_with p us ks) tops) o layers
    are_fitted layers linked =
        let many = links.as_many in
        record {
          orders = orders_q;
          linked = no_heights.linked l p (plain_with p us ks) tops layers alike made.layers_are flat linked;
          rooms = room_is;
          tails = λ k h. tail_pin k (omega (arith, h, many));
          heads = λ k h. head_pin k (omega (arith, h, many));
          node_node = made.node_node;
          edge_node = made.edge_node;
          edge_edge = made.edge_edge;
        }

  -- ---- the result is sound

  abbrev r : PlainPlan
  r = with_layered p (plain_with p us ks) []

  child_height : (u c : ℕ) → u < length us → (unit_at us u).child ≡ Some c → c < length l.children → u ≡ unit_of r c
  child_height u c less is h = ((linked_q []).children c h).alone u less is

  child_below : (u c : ℕ) → u < length us → (unit_at us u).child ≡ Some c → c < length l.children
  child_below u c less is = let many = units.as_many in have_children l p made.is_reversed.layers made.is_reversed.linked u c (omega (arith, less, many)) (sym (alike.child_is u) ∙ is)

  abbrev bound : ℕ → ℤ
  bound c = heights_of (child_at l c) +ℤ heights_of (child_at l c) +ℤ pos (2 ^ 37)

  -- a child's unit is not much higher than the child and its ports
  unit_high : (c : ℕ) → c < length l.children → IsUpTo (heights_of (child_at l c) +ℤ heights_of (child_at l c) +ℤ pos (2 ^ 37)) (unit_height l r o c)
  unit_high c h =
      let north = room_low l.spacing (length (lanes l r o c North)) made.level.spacing (lanes_few l r o c North made.level) in
      let south = room_low l.spacing (length (lanes l r o c South)) made.level.spacing (lanes_few l r o c South made.level) in
      sum_high (lanes_room l (length (lanes l r o c North))) (outline l r o c).height (lanes_room l (length (lanes l r o c South))) (heights_of (child_at l c)) north south
      (outline_deep l r o made.level (orders_q []) c h) (outline_high l r o made.level (orders_q []) c h)
    where
      sum_high : (a b c s : ℤ) → IsWithin (pos 0) (pos (2 ^ 35)) a → IsWithin (pos 0) (pos (2 ^ 35)) c → pos 0 ≤ℤ b → b ≤ℤ ((s +ℤ pos (2 ^ 21)) +ℤ (s +ℤ pos (2 ^ 21)))
          → (pos 0 ≤ℤ (a +ℤ b +ℤ c)) × ((a +ℤ b +ℤ c) ≤ℤ (s +ℤ s +ℤ pos (2 ^ 37)))
      sum_high a b c s ha hc hb hs =
          let al = ha.above in
          let ah = ha.below in
          let cl = hc.above in
          let ch = hc.below in
          (omega (arith, ints, al, cl, hb), omega (arith, ints, ah, ch, hs))

  height_in : (u c : ℕ) → u < length us → (unit_at us u).child ≡ Some c → IsUpTo (heights_of (child_at l c) +ℤ heights_of (child_at l c) +ℤ pos (2 ^ 37)) (unit_at us u).height
  height_in u c less is =
      let h = child_below u c less is in
      subst (IsUpTo (heights_of (child_at l c) +ℤ heights_of (child_at l c) +ℤ pos (2 ^ 37)))
      (sym (ap (λ w. (unit_at us w).height) (child_height u c less is h) ∙ (room_is [] c h).height)) (unit_high c h)

  height_least : (u : ℕ) → u < length us → pos 0 ≤ℤ (unit_at us u).height
  height_least u less = step (unit_at us u).child refl
    where
      step : (k : Option ℕ) → (unit_at us u).child ≡ k → pos 0 ≤ℤ (unit_at us u).height
      step None e = let none = flat u e in omega (arith, ints, none)
      step (Some c) e = (height_in u c less e).0

  counted : (u : ℕ) → u < length us → IsCounted (length l.children) (unit_at us u)
  counted u less = record { least = height_least u less; flat = flat u; child = λ c is. child_below u c less is }

  bound_least : (m : ℕ) → m < length l.children → pos 0 ≤ℤ bound m
  bound_least m h = let least = heights_least l r o made.level (orders_q []) m h in twice (heights_of (child_at l m)) least
    where
      twice : (s : ℤ) → pos 0 ≤ℤ s → pos 0 ≤ℤ (s +ℤ s +ℤ pos (2 ^ 37))
      twice s h = omega (arith, ints, h)

  one_unit : (u m : ℕ) → u < length us → m < length l.children → is_number (unit_at us u).child m ≡ true → ((unit_at us u).height ≤ℤ bound m) × (u ≡ unit_of r m)
  one_unit u m less h is =
      let named = number_some (unit_at us u).child m is in
      ((height_in u m less named).1, child_height u m less named h)

  pub together : total_height us ≤ℤ pos (3 * 2 ^ 47)
  together =
      let total = total_within (length l.children) bound (unit_of r) us bound_least counted one_unit in
      let doubled = first_double (λ m. heights_of (child_at l m)) (length l.children) in
      let heights = first_heights l.children (child_at (record { children = []; edges = []; spacing = l.spacing; choices = l.choices }) 0) in
      let high = made.level.heights in
      let few = made.level.few_children in
      small (total_height us) (first bound (length l.children)) (first (λ m. heights_of (child_at l m)) (length l.children)) (level.total_height l.children) (length l.children) total doubled heights high few
    where
      small : (a b c d : ℤ) (n : ℕ) → a ≤ℤ b → b ≡ c +ℤ c +ℤ pos (n * 2 ^ 37) → c ≡ d → d ≤ℤ pos (2 ^ 46) → n ≤ 2048 → a ≤ℤ pos (3 * 2 ^ 47)
      small a b c d n h e f k few = omega (arith, ints, h, e, f, k, few)

  bodies : (u : ℕ) → u < length us → is_child (plain_with p us ks) u ≡ true → HasBodyWithin (unit_at us u)
  bodies u less is = step (unit_at us u).child refl is
    where
      body : (b h s x y z : ℤ) → x ≡ b → y ≡ h → z ≡ b +ℤ h +ℤ s → pos 0 ≤ℤ b → pos 0 ≤ℤ h → pos 0 ≤ℤ s → (pos 0 ≤ℤ x) × (pos 0 ≤ℤ y) × ((x +ℤ y) ≤ℤ z)
      body b h s x y z e f g lb lh ls = (omega (arith, ints, e, lb), omega (arith, ints, f, lh), omega (arith, ints, e, f, g, ls))

      step : (k : Option ℕ) → (unit_at us u).child ≡ k → is_some k ≡ true → HasBodyWithin (unit_at us u)
      step None e some = absurd (let bad : false ≡ true = some in cc)
      step (Some c) e some =
          let h = child_below u c less e in
          let room = room_is [] c h in
          let at = child_height u c less e h in
          let parts = body (body_top l r o c) (outline l r o c).height (lanes_room l (length (lanes l r o c South))) (unit_at us (unit_of r c)).body_top (unit_at us (unit_of r c)).body_height (unit_at us (unit_of r c)).height
          room.top room.body room.height (lanes_from_zero l r o made.level (orders_q []) (length (lanes l r o c North))) (outline_deep l r o made.level (orders_q []) c h) (lanes_from_zero l r o made.level (orders_q []) (length (lanes l r o c South))) in
          subst (λ w. HasBodyWithin (unit_at us w)) (sym at) (record { top = parts.0; height = parts.1; bottom = parts.2 })

  -- the line of a link's end lies in its unit
  end_in_unit : (u : ℕ) (n : End) (z : ℤ) → u < length us → n.edge < length l.edges → is_loop l n.edge ≡ false
      → (is_child (plain_with p us ks) u ≡ true → u ≡ unit_of r (spoke l n).child)
      → z ≡ below_top l r o (cond (is_child (plain_with p us ks) u) (line_of_end l r o n) (long_lane u)) → IsUpTo (unit_at us u).height z
  end_in_unit u n z less h loop there is = step (is_child (plain_with p us ks) u) refl is
    where
      step : (b : Bool) → is_child (plain_with p us ks) u ≡ b → z ≡ below_top l r o (cond b (line_of_end l r o n) (long_lane u)) → IsUpTo (unit_at us u).height z
      step true child e =
          let at = there child in
          subst (IsUpTo (unit_at us u).height) (sym e)
          (subst (λ y. IsUpTo y (below_top l r o (line_of_end l r o n)))
          (sym (ap (λ w. (unit_at us w).height) at ∙ (room_is [] (spoke l n).child (spoke_there l n.edge n.at_source made.level h).child).height))
          (end_within l r o made.level (orders_q []) n.edge n.at_source h loop))
      step false child e = let least = height_least u less in (omega (arith, ints, e), omega (arith, ints, e, least))

  sound_link : (k : ℕ) → k < length p.layered.links → IsSoundLink (plain_with p us ks) (link_at ks k)
  sound_link k h =
      let old = made.sound.links_are k h in
      let is = made.is_reversed.linked.links k h in
      let many = units.as_many in
      let tail = alike.tail_is k in
      let head = alike.head_is k in
      let edge = alike.edge_is k in
      let tail_in = old.tail in
      let head_in = old.head in
      let tail_less : (link_at ks k).tail < length us = omega (arith, tail, tail_in, many) in
      let head_less : (link_at ks k).head < length us = omega (arith, head, head_in, many) in
      let edge_in : (link_at ks k).edge < length l.edges = subst (λ e. e < length l.edges) (sym edge) is.edge_in in
      let no_loop : is_loop l (link_at ks k).edge ≡ false = subst (λ e. is_loop l e ≡ false) (sym edge) is.no_loop in
      let tail_rank = are_kept.tail_rank_is k in
      let head_rank = are_kept.head_rank_is k in
      let tail_small = old.tail_rank in
      let head_small = old.head_rank in
      let next = old.next_layer in
      let tail_layer = ap (layer_of (plain_with p us ks)) tail ∙ alike.layer_is (link_at p.layered.links k).tail in
      let head_layer = ap (layer_of (plain_with p us ks)) head ∙ alike.layer_is (link_at p.layered.links k).head in
      record {
        tail = tail_less;
        head = head_less;
        next_layer = omega (arith, next, tail_layer, head_layer);
        tail_rank = omega (arith, tail_rank, tail_small);
        head_rank = omega (arith, head_rank, head_small);
        tail_at = end_in_unit (link_at ks k).tail (tail_end r (link_at ks k).edge) (link_at ks k).tail_at tail_less edge_in no_loop
            (λ child. tail ∙ unit_of_end (tail_ends l p made.is_reversed.layers made.level made.is_reversed.linked made.sound made.layers_are k h) (sym (ap (is_child p.layered) tail) ∙ sym (child_same l p (plain_with p us ks) [] alike (link_at ks k).tail) ∙ child)
            ∙ ap (λ e. unit_of p (spoke l (tail_end p e)).child) (sym edge)
            ∙ sym (unit_same l p (plain_with p us ks) [] alike (spoke l (tail_end p (link_at ks k).edge)).child))
            (tail_pin [] k h);
        head_at = end_in_unit (link_at ks k).head (head_end r (link_at ks k).edge) (link_at ks k).head_at head_less edge_in no_loop
            (λ child. head ∙ unit_of_end (head_ends l p made.is_reversed.layers made.level made.is_reversed.linked made.sound made.layers_are k h) (sym (ap (is_child p.layered) head) ∙ sym (child_same l p (plain_with p us ks) [] alike (link_at ks k).head) ∙ child)
            ∙ ap (λ e. unit_of p (spoke l (head_end p e)).child) (sym edge)
            ∙ sym (unit_same l p (plain_with p us ks) [] alike (spoke l (head_end p (link_at ks k).edge)).child))
            (head_pin [] k h);
      }

  pub is_sound : IsSound (plain_with p us ks)
  is_sound =
      let many = units.as_many in
      let links_many = links.as_many in
      let few = made.sound.few_units in
      let few_links = made.sound.few_links in
      record {
        node_node_is = made.sound.node_node_is;
        edge_node_is = made.sound.edge_node_is;
        edge_edge_is = made.sound.edge_edge_is;
        few_units = omega (arith, many, few);
        few_links = omega (arith, links_many, few_links);
        layers_are = λ u h. let layer = alike.layer_is u in let below = made.sound.layers_are u (omega (arith, h, many)) in omega (arith, layer, below);
        few_in_layer = λ g. let same = count_same g us p.layered.units many alike.layer_is in let most = made.sound.few_in_layer g in omega (arith, same, most);
        links_are = λ k h. sound_link k (omega (arith, h, links_many));
        heights = height_least;
        together = let high = together in omega (arith, ints, high);
        lanes_are_flat = λ u h lane. flat u (none_child (unit_at us u).child lane);
        bodies = bodies;
      }
    where
      none_child : (k : Option ℕ) → not (is_some k) ≡ true → k ≡ None
      none_child None e = refl
      none_child (Some c) e = absurd (let bad : false ≡ true = e in cc)

  pub are_rows : AreRows (plain_with p us ks) p.rows
  are_rows =
      let many = units.as_many in
      record {
        as_many = made.rows.as_many;
        in_range = λ n h i k. let below = made.rows.in_range n h i k in omega (arith, below, many);
        in_layer = λ n h i k. alike.layer_is _ ∙ made.rows.in_layer n h i k;
        complete = λ u h. subst (λ n. HasUnit (row_at p.rows n) u) (sym (alike.layer_is u)) (made.rows.complete u (omega (arith, h, many)));
        once = made.rows.once;
      }
