-- The ports of a drawing, and the ends at its children, obey the constraints of their children.
use Rattle.std.proofs.Common.{◌≡◌, ℕ, ◌+◌, ◌<◌, ◌≤◌, Bool, false, not, ℤ, pos, ◌+ℤ◌, ◌-ℤ◌, ◌≤ℤ◌, ◌<ℤ◌, List, map, length, get_or, refl, sym, subst, ap, ◌∙◌, arith}
use Rattle.std.proofs.lemmas.Int.{ints}
use Rattle.std.proofs.lemmas.List.{length-map}
use Rattle.std.specs.Prelude.{None, Some, IsFalse, is_some}
use Rattle.std.specs.List.{filter}
use Rattle.drawing_types.specs.declared.shape.Point.{Point}
use Rattle.drawing_types.specs.declared.shape.Size.{Size}
use Rattle.drawing_types.specs.declared.shape.Side.{Side}
use Rattle.drawing_types.specs.declared.shape.Side.TheVariants.{North, East, South, West}
use Rattle.elk_doc.specs.declared.document.PortRule.{PortRule}
use Rattle.elk_doc.specs.declared.document.PortRule.TheVariants.{FixedOrder}
use Rattle.drawing_types.specs.Shapes.{no_size}
use Rattle.drawing_types.specs.Shapes.{rect_at, moved_by, point_rect}
use Rattle.elk_doc.specs.Sound.{along}
use Rattle.drawing_types.specs.Ranges.{IsWithin}
use Rattle.elk_doc.specs.PortsKept.{size_along, IsOnSide, pins, Spot as Place, a_port, an_end, counted}
use Rattle.elk_doc.specs.Places.{offset_on}
use Rattle.port_order.specs.declared.children.Child.{Child}
use Rattle.port_order.specs.declared.spots.Spot.{Spot}
use Rattle.port_order.specs.Child.{no_spot, spot_at, port_at, is_pinned, is_pinned_spot}
use Rattle.port_order.specs.Sides.{side_of, is_forward}
use Rattle.port_order.specs.Places as order_places
use Rattle.port_order.specs.Places.{HoldsOnce, spread_offset, offset_of, outer_face, on_side, corner_of, face_of}
use Rattle.port_order.specs.Order.{IsSpreadOn, ClockwiseFirst}
use Rattle.port_order.specs.Ranks.{is_spread_on}
use Rattle.port_order.proofs.KeptLemmas.{ports_stand, dock_inside, order_kept}
use Rattle.port_order.proofs.PlaceLemmas.{offsets_rise}
use Rattle.port_order.proofs.OrderLemmas.{test_from_spread}
use Rattle.level_model.specs.Level.{PlainLevel, PlainPlan, Orders, End, end_at, child_at, spoke, implicit_ends, place_of_end, port_spot, implicit_spot, spots, spot_of, spot_at_port, dock_of, dock_of_spot, anchor_of_spot}
use Rattle.level_model.specs.FromPlan.{LevelDrawing, point_or, box_place, anchor}
use Rattle.level_model.specs.Units.{AreOrders}
use Rattle.level_model.specs.Conditions.{IsLevel}
use Rattle.level_model.specs.Apart.{drawn_box, drawn_port}
use Rattle.level_model.specs.PortsKept.{port_side, port_offset, KeepsPort, KeepsEnd, KeepsOrder, IsSpreadAt, drawn_offset, spread_count, SpreadsApart, KeepsPorts, ArePortsPlaced, PortsAreKept}
use Rattle.level_model.proofs.Lists.{Has, has_filter, has_map, has_at, at_has}
use Rattle.level_model.proofs.FirstPlaces.{Distinct, distinct_from, no_more}
use Rattle.level_model.proofs.SpotLemmas.{spoke_there, at_child, port_spot_there, implicit_spot_there, held_once}
use Rattle.level_model.proofs.NumberedSpots.{one_end, port_spot_at, spots_many, spots_are}

-- a port's start and half make up its offset
corner_offset : (side : Side) (face offset half : ℤ) (size : Size) → along side (corner_of side face (offset -ℤ half) size) +ℤ half ≡ offset
corner_offset North face offset half size = omega (arith, ints)
corner_offset East face offset half size = omega (arith, ints)
corner_offset South face offset half size = omega (arith, ints)
corner_offset West face offset half size = omega (arith, ints)

-- an end without a port, at its place
on_line : (side : Side) (b : Point) (size : Size) (offset : ℤ) → IsOnSide side (rect_at b size) (moved_by (point_rect b) (on_side side (outer_face side size no_size) offset))
on_line North b size offset = omega (arith, ints)
on_line East b size offset = omega (arith, ints)
on_line South b size offset = omega (arith, ints)
on_line West b size offset = omega (arith, ints)

end_offset : (side : Side) (b : Point) (size : Size) (face offset : ℤ) → offset_on side (rect_at b size) (moved_by (point_rect b) (on_side side face offset)) ≡ offset
end_offset North b size face offset = omega (arith, ints)
end_offset East b size face offset = omega (arith, ints)
end_offset South b size face offset = omega (arith, ints)
end_offset West b size face offset = omega (arith, ints)

-- the offset of a spot that is not pinned
spread_one : (c : Child) (s : Spot) (order : List ℕ) → is_pinned_spot c s ≡ false → order_places.dock_of c s order ≡ spread_offset c (side_of c s) order s.number
spread_one c s order e = ap (λ b. offset_of c (side_of c s) b s.port order s.number) e

-- no port is pinned under a fixed order
none_pinned : (rule : PortRule) (leaf asked : Bool) → rule ≡ FixedOrder → pins rule leaf asked ≡ false
none_pinned rule leaf asked e = rw e refl

-- the spot of an end without a port
end_is : (l : PlainLevel) (p : PlainPlan) (e c : ℕ) (t : Bool) → (spoke l (end_at e t)).child ≡ c → (spoke l (end_at e t)).port ≡ None → spot_of l p (end_at e t) ≡ implicit_spot l p c (end_at e t)
end_is l p e c t node port = ap (spot_at_port l p (spoke l (end_at e t)).child (end_at e t)) port ∙ ap (λ z. implicit_spot l p z (end_at e t)) node

module _ (l : PlainLevel) (p : PlainPlan) (o : Orders) (d : LevelDrawing) (level : IsLevel l) (orders : AreOrders l p o) (placed : ArePortsPlaced l p o d) (c : ℕ) (there : c < length l.children) where
  abbrev child : Child
  child = child_at l c

  abbrev many : ℕ
  many = length (child_at l c).ports

  port_once : (k : ℕ) → k < many → IsFalse (is_pinned child k) → HoldsOnce (o c (port_side l p c k)) k
  port_once k h free = held_once l p o c (port_spot l p c k) orders there (port_spot_there l p c k h) free

  -- a drawn port's offset is that of its dock
  offset_drawn : (k : ℕ) → k < many → port_offset child (port_side l p c k) k (drawn_port d c k) ≡ (dock_of_spot l o c (port_spot l p c k)).offset
  offset_drawn k h =
      ap (port_offset child (port_side l p c k) k) (placed.ports c k there h)
      ∙ corner_offset (port_side l p c k) (face_of child (port_side l p c k) k) (dock_of_spot l o c (port_spot l p c k)).offset (port_at child k).half (port_at child k).size

  keeps_port : (k : ℕ) → k < many → KeepsPort child (port_side l p c k) k (drawn_port d c k)
  keeps_port k h =
      let kept = ports_stand.port child (port_spot l p c k) k (o c (port_side l p c k)) (level.children c there).sound refl (port_once k h) in
      let place = placed.ports c k there h in
      record {
        along_kept = λ pinned. rw place (kept.along_kept pinned);
        across_kept = λ pinned. rw place (kept.across_kept pinned);
        flush_outside = λ loose. rw place (kept.flush_outside loose);
        on_side = λ free. rw (offset_drawn k h) (kept.on_side free);
      }

  free_port : (k : ℕ) → child.rule ≡ FixedOrder → is_pinned child k ≡ false
  free_port k rule = none_pinned child.rule (not child.compound) (is_some (port_at child k).side) rule

  spread_port : (k : ℕ) (side : Side) → k < many → is_pinned child k ≡ false → port_side l p c k ≡ side → IsSpreadOn child side (spot_at (spots l p c) k)
  spread_port k side h free on = subst (IsSpreadOn child side) (sym (port_spot_at l p c k h)) (record { spread = free; on_side = on })

  port_there : (k : ℕ) → k < many → k < length (spots l p c)
  port_there k h = let total = spots_many l p c in omega (arith, h, total)

  port_of : (k : ℕ) → k < many → (spot_at (spots l p c) k).port ≡ Some k
  port_of k h = ap (λ (s : Spot). s.port) (port_spot_at l p c k h)

  number_of : (k : ℕ) → k < many → (spot_at (spots l p c) k).number ≡ k
  number_of k h = ap (λ (s : Spot). s.number) (port_spot_at l p c k h)

  keeps_order : KeepsOrder l p d c
  keeps_order j k rule hj hk same first =
      let side = port_side l p c k in
      let named : ClockwiseFirst child side j (spot_at (spots l p c) j).number k (spot_at (spots l p c) k).number =
      subst (λ m. ClockwiseFirst child side j m k (spot_at (spots l p c) k).number) (sym (number_of j hj)) (subst (λ n. ClockwiseFirst child side j j k n) (sym (number_of k hk)) first)
      in
      let kept = order_kept child side (spots l p c) (o c side) j k j k (spots_are l p c) (orders c side there) rule (port_there j hj) (port_there k hk) (spread_port j side hj (free_port j rule) same) (spread_port k side hk (free_port k rule) refl) (port_of j hj) (port_of k hk) named in
      let here : order_places.dock_of child (spot_at (spots l p c) j) (o c side) ≡ port_offset child (port_side l p c j) j (drawn_port d c j) =
      ap (λ s. order_places.dock_of child s (o c side)) (port_spot_at l p c j hj) ∙ ap (λ z. order_places.dock_of child (port_spot l p c j) (o c z)) (sym same) ∙ sym (offset_drawn j hj)
      in
      let also : order_places.dock_of child (spot_at (spots l p c) k) (o c side) ≡ port_offset child side k (drawn_port d c k) =
      ap (λ s. order_places.dock_of child s (o c side)) (port_spot_at l p c k hk) ∙ sym (offset_drawn k hk)
      in
      subst (λ z. counted (is_forward child.direction side) z ≤ℤ counted (is_forward child.direction side) (port_offset child side k (drawn_port d c k))) here
      (subst (λ z. counted (is_forward child.direction side) (order_places.dock_of child (spot_at (spots l p c) j) (o c side)) ≤ℤ counted (is_forward child.direction side) z) also kept)

  -- an end at the child, without a port
  abbrev end_spot : End → Spot
  end_spot n = implicit_spot l p c n

  abbrev end_side : End → Side
  end_side n = side_of child (end_spot n)

  end_once : (n : End) → Has (implicit_ends l c) n → HoldsOnce (o c (end_side n)) (end_spot n).number
  end_once n has = held_once l p o c (end_spot n) orders there (implicit_spot_there l p c n has) refl

  pub end_inside : (n : End) → Has (implicit_ends l c) n → IsWithin (pos 0) (size_along (end_side n) child.size) (dock_of_spot l o c (end_spot n)).offset
  end_inside n has = dock_inside child (end_spot n) (o c (end_side n)) (level.children c there).sound (λ free. end_once n has) refl

  -- the anchor of such an end
  abbrev end_anchor : End → Point
  end_anchor n = moved_by (point_rect (box_place l p o d c)) (anchor_of_spot l o c (end_spot n))

  pub end_on_line : (n : End) → point_or d.boxes c ≡ box_place l p o d c → IsOnSide (end_side n) (drawn_box l d c) (end_anchor n)
  end_on_line n box = subst (λ b. IsOnSide (end_side n) (rect_at b child.size) (end_anchor n)) (sym box) (on_line (end_side n) (box_place l p o d c) child.size (dock_of_spot l o c (end_spot n)).offset)

  pub end_offset_is : (n : End) → point_or d.boxes c ≡ box_place l p o d c → offset_on (end_side n) (drawn_box l d c) (end_anchor n) ≡ (dock_of_spot l o c (end_spot n)).offset
  end_offset_is n box =
      ap (λ b. offset_on (end_side n) (rect_at b child.size) (end_anchor n)) box
      ∙ end_offset (end_side n) (box_place l p o d c) child.size (outer_face (end_side n) child.size no_size) (dock_of_spot l o c (end_spot n)).offset

  -- an order is no longer than its side has spread spots
  abbrev spread_spots : Side → List Spot
  spread_spots side = filter (is_spread_on child side) (spots l p c)

  order_distinct : (side : Side) → Distinct (o c side)
  order_distinct side = distinct_from (o c side) 0 apart
    where
      apart : (i j : ℕ) → i < j → j < length (o c side) → get_or (o c side) i 0 ≡ get_or (o c side) j 0 → ⊥
      apart i j less within same =
          let order = orders c side there in
          let s = order.spread i (omega (arith, less, within)) in
          let once = order.once s.0 s.1 s.3 in
          let first = once.alone i (omega (arith, less, within)) (sym s.2) in
          let last = once.alone j within (sym same ∙ sym s.2) in
          absurd (omega (arith, first, last, less))

  order_known : (side : Side) (m : ℕ) → Has (o c side) m → Has (map (λ (s : Spot). s.number) (spread_spots side)) m
  order_known side m has =
      let at = at_has (o c side) 0 m has in
      let s = (orders c side there).spread at.0 at.1 in
      let spot = spot_at (spots l p c) s.0 in
      subst (Has (map (λ (s : Spot). s.number) (spread_spots side))) (s.2 ∙ at.2)
      (has_map (λ (s : Spot). s.number) (spread_spots side) spot
      (has_filter (is_spread_on child side) (spots l p c) spot (has_at (spots l p c) s.0 no_spot s.1) (test_from_spread child side spot s.3)))

  order_short : (side : Side) → length (o c side) ≤ spread_count l p c side
  order_short side =
      subst (λ n. length (o c side) ≤ n) (length-map (spread_spots side) (λ (s : Spot). s.number))
      (no_more (o c side) (map (λ (s : Spot). s.number) (spread_spots side)) (order_distinct side) (order_known side))

  -- a spread port or end of a side, with its number and offset
  record IsSpreadSpot (side : Side) (x : Place) (number : ℕ) : Type 0 where
    once : HoldsOnce (o c side) number
    offset : drawn_offset l p o d c side x ≡ spread_offset child side (o c side) number

  abbrev number_at : Place → ℕ
  number_at (a_port k) = k
  number_at (an_end e t) = many + place_of_end (implicit_ends l c) (end_at e t)

  port_spread : (k : ℕ) (side : Side) → k < many → IsFalse (is_pinned child k) → port_side l p c k ≡ side → IsSpreadSpot side (a_port k) k
  port_spread k side h free on =
      subst (λ z. IsSpreadSpot z (a_port k) k) on
      (record { once = port_once k h free; offset = offset_drawn k h ∙ spread_one child (port_spot l p c k) (o c (port_side l p c k)) free })

  end_spread : (e : ℕ) (t : Bool) (side : Side) → Has (implicit_ends l c) (end_at e t) → point_or d.boxes c ≡ box_place l p o d c → anchor l p o d (end_at e t) ≡ end_anchor (end_at e t) → end_side (end_at e t) ≡ side
      → IsSpreadSpot side (an_end e t) (many + place_of_end (implicit_ends l c) (end_at e t))
  end_spread e t side has box at on =
      subst (λ z. IsSpreadSpot z (an_end e t) (many + place_of_end (implicit_ends l c) (end_at e t))) on
      (record {
        once = end_once (end_at e t) has;
        offset = ap (offset_on (end_side (end_at e t)) (drawn_box l d c)) at ∙ end_offset_is (end_at e t) box ∙ spread_one child (end_spot (end_at e t)) (o c (end_side (end_at e t))) refl;
      })

  end_known : (e : ℕ) (t : Bool) → e < length l.edges → (spoke l (end_at e t)).child ≡ c → (spoke l (end_at e t)).port ≡ None → Has (implicit_ends l c) (end_at e t)
  end_known e t h node port = subst (λ z. Has (implicit_ends l z) (end_at e t)) node (at_child l e t h port)

  end_anchor_is : (e : ℕ) (t : Bool) → (spoke l (end_at e t)).child ≡ c → (spoke l (end_at e t)).port ≡ None → anchor l p o d (end_at e t) ≡ end_anchor (end_at e t)
  end_anchor_is e t node port =
      ap (λ s. moved_by (point_rect (box_place l p o d (spoke l (end_at e t)).child)) (anchor_of_spot l o (spoke l (end_at e t)).child s)) (end_is l p e c t node port)
      ∙ ap (λ z. moved_by (point_rect (box_place l p o d z)) (anchor_of_spot l o z (implicit_spot l p c (end_at e t)))) node

  end_side_is : (e : ℕ) (t : Bool) → (spoke l (end_at e t)).child ≡ c → (spoke l (end_at e t)).port ≡ None → (dock_of l p o (end_at e t)).side ≡ end_side (end_at e t)
  end_side_is e t node port =
      ap (λ s. side_of (child_at l (spoke l (end_at e t)).child) s) (end_is l p e c t node port) ∙ ap (λ z. side_of (child_at l z) (implicit_spot l p c (end_at e t))) node

  spread_of : (side : Side) (x : Place) → IsSpreadAt l p o c side x → IsSpreadSpot side x (number_at x)
  spread_of side (a_port k) h = port_spread k side h.0 h.1 h.2
  spread_of side (an_end e t) h = end_spread e t side (end_known e t h.0 h.1 h.2) (subst (λ z. point_or d.boxes z ≡ box_place l p o d z) h.1 (placed.boxes e t h.0)) (end_anchor_is e t h.1 h.2) (sym (end_side_is e t h.1 h.2) ∙ h.3)

  numbers_differ : (side : Side) (x y : Place) → IsSpreadAt l p o c side x → IsSpreadAt l p o c side y → number_at x ≡ number_at y → x ≡ y
  numbers_differ side (a_port j) (a_port k) h g same = ap a_port same
  numbers_differ side (a_port j) (an_end f u) h g same = let less = h.0 in absurd (omega (arith, less, same))
  numbers_differ side (an_end e t) (a_port k) h g same = let less = g.0 in absurd (omega (arith, less, same))
  numbers_differ side (an_end e t) (an_end f u) h g same =
      ap (λ (n : End). an_end n.edge n.at_source)
      (one_end (implicit_ends l c) (end_at e t) (end_at f u) (end_known e t h.0 h.1 h.2) (end_known f u g.0 g.1 g.2) (cancel many _ _ same))
    where
      cancel : (m a b : ℕ) → m + a ≡ m + b → a ≡ b
      cancel m a b e = omega (arith, e)

  keeps_spread : SpreadsApart l p o d c
  keeps_spread side x y long hx hy differ same =
      let a = spread_of side x hx in
      let b = spread_of side y hy in
      let short = order_short side in
      offsets_rise.apart child side (o c side) (number_at x) (number_at y) a.once b.once (λ one. differ (numbers_differ side x y hx hy one)) (roomy _ _ _ short long) (sym a.offset ∙ same ∙ b.offset)
    where
      roomy : (m n : ℕ) (z : ℤ) → m ≤ n → pos n <ℤ z → pos m <ℤ z
      roomy m n z h k = omega (arith, ints, h, k)

module _ (l : PlainLevel) (p : PlainPlan) (o : Orders) (d : LevelDrawing) (level : IsLevel l) (orders : AreOrders l p o) (placed : ArePortsPlaced l p o d) where
  keeps_end : (e : ℕ) (t : Bool) → e < length l.edges → (spoke l (end_at e t)).port ≡ None → KeepsEnd l p o d (end_at e t)
  keeps_end e t h port =
      let n = end_at e t in
      let c = (spoke l n).child in
      let there = (spoke_there l e t level h).child in
      let box = placed.boxes e t h in
      let has = at_child l e t h port in
      let spot : implicit_spot l p c n ≡ spot_of l p n = sym (end_is l p e c t refl port) in
      record {
        on_line = subst (λ s. IsOnSide (side_of (child_at l c) s) (drawn_box l d c) (moved_by (point_rect (box_place l p o d c)) (anchor_of_spot l o c s))) spot (end_on_line l p o d level orders placed c there n box);
        on_side = subst (λ s. IsWithin (pos 0) (size_along (side_of (child_at l c) s) (child_at l c).size) (offset_on (side_of (child_at l c) s) (drawn_box l d c) (moved_by (point_rect (box_place l p o d c)) (anchor_of_spot l o c s)))) spot
            (subst (λ z. IsWithin (pos 0) (size_along (side_of (child_at l c) (implicit_spot l p c n)) (child_at l c).size) z) (sym (end_offset_is l p o d level orders placed c there n box)) (end_inside l p o d level orders placed c there n has));
      }

  pub keeps_ports : (c : ℕ) → c < length l.children → KeepsPorts l p o d c
  keeps_ports c there =
      record {
        ports = keeps_port l p o d level orders placed c there;
        ends = λ e t h node port. keeps_end e t h port;
        order = keeps_order l p o d level orders placed c there;
        spread = keeps_spread l p o d level orders placed c there;
      }

pub ports_are_kept : PortsAreKept
ports_are_kept =
    record {
      placed = keeps_ports;
      drawn = λ l p o d level orders drawn.
          keeps_ports l p o d level orders (record { ports = λ c k there h. (drawn.children c there).ports k h; boxes = λ e t h. (drawn.children (spoke l (end_at e t)).child (spoke_there l e t level h).child).box });
    }
