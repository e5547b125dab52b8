-- Documents that are the same but for the places of ports, where the other one has the places of the drawing: what the
-- one asks of its ports the drawing does for the other too.
use Rattle.std.proofs.Common.{◌≡◌, ℕ, ◌+◌, ◌<◌, List, length, map, Bool, true, false, not, ◌&&◌, ◌⊎◌, ⊎_elim, inl, refl, sym, ap, ◌∙◌, subst, arith}
use Rattle.std.specs.Prelude.{◌==◌, ℤ, pos, ◌+ℤ◌, ◌≤ℤ◌, ◌<ℤ◌, IsTrue, IsFalse, is_some}
use Rattle.std.proofs.Math.Path.{fun_ext}
use Rattle.std.proofs.lemmas.Int.{ints}
use Rattle.drawing_types.specs.declared.shape.Point.{Point}
use Rattle.drawing_types.specs.declared.shape.Size.{Size}
use Rattle.drawing_types.specs.declared.shape.Rect.{Rect}
use Rattle.drawing_types.specs.declared.shape.Side.{Side}
use Rattle.drawing_types.specs.declared.shape.Side.TheVariants.{North}
use Rattle.elk_doc.specs.declared.document.Node.{Node}
use Rattle.elk_doc.specs.declared.document.Port.{Port}
use Rattle.elk_doc.specs.declared.document.Edge.{Edge}
use Rattle.elk_doc.specs.declared.drawing.Placed.{Placed}
use Rattle.elk_doc.specs.Document.{Document, document, node_at, port_at, node_of_port}
use Rattle.elk_doc.specs.Numbers.{count_below}
use Rattle.elk_doc.specs.Drawing.{box_of, port_place}
use Rattle.drawing_types.specs.Shapes.{half_of, rect_at, moved_by}
use Rattle.elk_doc.specs.Sides.{is_leaf, given_side, side_of_port, side_of_end, end_of}
use Rattle.elk_doc.specs.Sound.{along}
use Rattle.drawing_types.specs.Ranges.{IsWithin}
use Rattle.elk_doc.specs.Places.{port_box, middle_of, offset_on, section_end}
use Rattle.elk_doc.specs.PortsKept.{PortsKept, KeepsPorts, KeepsPort, KeepsEnd, KeepsOrder, SpreadsApart, IsSpread, IsOnSide, Spot, a_port, an_end, across, side_length, size_along, flush, clockwise, pins, is_pinned, port_offset, given_clockwise, is_at_node, is_spread_port, is_spread_end, spread_count, spot_offset}
use Rattle.drawing_types.specs.Shapes.{is_side}
use Rattle.elk_write.specs.ReadBack.{without_place}
use Rattle.elk_write.proofs.OtherPlaces.{same_count, owner_same, size_same, asked_same, index_same, sides, port_boxes, end_of_same, end_sides}
use Rattle.elk_write.proofs.OtherLevels.{child_back}

-- the offset of a port's anchor is that of its place
offset_is : (s : Side) (box : Rect) (place : Point) (size : Size) → offset_on s box (middle_of s (rect_at (moved_by box place) size)) ≡ along s place +ℤ half_of (size_along s size)
offset_is North box place size = omega (arith, ints)
offset_is s box place size = omega (arith, ints)

less_or_same : (x y : ℤ) → x <ℤ y → x ≤ℤ y
less_or_same x y h = omega (arith, ints)

same_stays : (x y : ℤ) → x ≡ y → x ≤ℤ y
same_stays x y h = omega (arith, ints)

module _ (ns : List Node) (es : List Edge) (ps qs : List Port) (same : map without_place qs ≡ map without_place ps) (p : Placed)
    (given : (k : ℕ) → given_side (document ns qs es) k ≡ given_side (document ns ps es) k) where
  abbrev doc : Document
  doc = document ns ps es

  abbrev other : Document
  other = document ns qs es

  owner : (k : ℕ) → node_of_port other k ≡ node_of_port doc k
  owner k = owner_same ns es ps qs same k

  side : (k : ℕ) → side_of_port other p k ≡ side_of_port doc p k
  side k = ap (λ f. f k) (sides ns es ps qs same p given)

  pub pinned_same : (k : ℕ) → is_pinned other k ≡ is_pinned doc k
  pinned_same k =
      ap (λ n. pins (node_at doc n).rule (is_leaf doc n) (is_some (port_at other k).side)) (owner k)
      ∙ ap (λ s. pins (node_at doc (node_of_port doc k)).rule (is_leaf doc (node_of_port doc k)) (is_some s)) (asked_same ns es ps qs same k)

  offset : (k : ℕ) → port_offset other p k ≡ port_offset doc p k
  offset k =
      ap (λ s. offset_on s (box_of p (node_of_port other k)) (middle_of s (port_box other p k))) (side k)
      ∙ ap (λ n. offset_on (side_of_port doc p k) (box_of p n) (middle_of (side_of_port doc p k) (port_box other p k))) (owner k)
      ∙ ap (λ f. offset_on (side_of_port doc p k) (box_of p (node_of_port doc k)) (middle_of (side_of_port doc p k) (f k))) (port_boxes ns es ps qs same p given)

  -- ---- spots

  spread_ports : (m : ℕ) (s : Side) → is_spread_port other p m s ≡ is_spread_port doc p m s
  spread_ports m s = fun_ext (λ k.
      ap (λ n. (n == m) && (not (is_pinned other k) && is_side (side_of_port other p k) s)) (owner k)
      ∙ ap (λ b. (node_of_port doc k == m) && (not b && is_side (side_of_port other p k) s)) (pinned_same k)
      ∙ ap (λ t. (node_of_port doc k == m) && (not (is_pinned doc k) && is_side t s)) (side k))

  spread_ends : (m : ℕ) (s : Side) (b : Bool) → is_spread_end other p m s b ≡ is_spread_end doc p m s b
  spread_ends m s b = fun_ext (λ e.
      ap (λ x. is_at_node x m && is_side (side_of_end other p e b) s) (end_of_same ns es ps qs same p given e b)
      ∙ ap (λ t. is_at_node (end_of doc e b) m && is_side t s) (end_sides ns es ps qs same p given e b))

  count_same : (m : ℕ) (s : Side) → spread_count other p m s ≡ spread_count doc p m s
  count_same m s =
      ap (λ n. count_below (is_spread_port other p m s) n + count_below (is_spread_end other p m s true) (length es) + count_below (is_spread_end other p m s false) (length es)) (same_count ns es ps qs same)
      ∙ ap (λ f. count_below f (length ps) + count_below (is_spread_end other p m s true) (length es) + count_below (is_spread_end other p m s false) (length es)) (spread_ports m s)
      ∙ ap (λ f. count_below (is_spread_port doc p m s) (length ps) + count_below f (length es) + count_below (is_spread_end other p m s false) (length es)) (spread_ends m s true)
      ∙ ap (λ f. count_below (is_spread_port doc p m s) (length ps) + count_below (is_spread_end doc p m s true) (length es) + count_below f (length es)) (spread_ends m s false)

  spread_back : (m : ℕ) (s : Side) (x : Spot) → IsSpread other p m s x → IsSpread doc p m s x
  spread_back m s (a_port k) h = (subst (λ n. k < n) (same_count ns es ps qs same) h.0, subst (λ f. IsTrue (f k)) (spread_ports m s) h.1)
  spread_back m s (an_end e b) h = (h.0, subst (λ f. IsTrue (f e)) (spread_ends m s b) h.1)

  spot_same : (m : ℕ) (s : Side) (x : Spot) → spot_offset other p m s x ≡ spot_offset doc p m s x
  spot_same m s (a_port k) = offset k
  spot_same m s (an_end e b) = refl

  spread_over : (m : ℕ) → SpreadsApart doc p m → SpreadsApart other p m
  spread_over m h s x y room a b differ is =
      h s x y (subst (λ n. pos n <ℤ side_length s (box_of p m)) (count_same m s) room) (spread_back m s x a) (spread_back m s y b) differ
      (sym (spot_same m s x) ∙ is ∙ spot_same m s y)

  -- ---- ends

  end_over : (m e : ℕ) (b : Bool) → KeepsEnd doc p m e b → KeepsEnd other p m e b
  end_over m e b h =
      let is = sym (end_sides ns es ps qs same p given e b) in
      record {
        on_line = subst (λ s. IsOnSide s (box_of p m) (section_end p e b)) is h.on_line;
        on_side = subst (λ s. IsWithin (pos 0) (side_length s (box_of p m)) (offset_on s (box_of p m) (section_end p e b))) is h.on_side;
      }

  -- ---- ports

  abbrev IsFlush : ℕ → ℕ → Side → Size → Type 0
  IsFlush k n s size = across s (port_place p k) ≡ flush s (box_of p n) size

  module _ (places : (k : ℕ) → k < length qs → (port_at other k).place ≡ port_place p k) where
    port_over : (k : ℕ) → k < length qs → KeepsPort doc p k → KeepsPort other p k
    port_over k lt h = record {
      along_kept = λ t. ap (along (side_of_port other p k)) (sym (places k lt));
      across_kept = λ t. ap (across (side_of_port other p k)) (sym (places k lt));
      flush_outside = λ t.
          subst (λ n. IsFlush k n (side_of_port other p k) (port_at other k).size) (sym (owner k))
          (subst (λ s. IsFlush k (node_of_port doc k) s (port_at other k).size) (sym (side k))
          (subst (λ z. IsFlush k (node_of_port doc k) (side_of_port doc p k) z) (sym (size_same ns es ps qs same k))
          (h.flush_outside (subst (λ b. IsFalse (b && is_leaf doc (node_of_port doc k))) (pinned_same k)
          (subst (λ n. IsFalse (is_pinned other k && is_leaf doc n)) (owner k) t)))));
      on_side = λ t.
          subst (λ n. IsWithin (pos 0) (side_length (side_of_port other p k) (box_of p n)) (port_offset other p k)) (sym (owner k))
          (subst (λ s. IsWithin (pos 0) (side_length s (box_of p (node_of_port doc k))) (port_offset other p k)) (sym (side k))
          (subst (λ z. IsWithin (pos 0) (side_length (side_of_port doc p k) (box_of p (node_of_port doc k))) z) (sym (offset k))
          (h.on_side (subst IsFalse (pinned_same k) t))));
    }

    -- A port stands where it is given, so the given order along a side is that of the offsets.
    given_is : (k : ℕ) → k < length qs → given_clockwise other p k ≡ clockwise (side_of_port other p k) (port_offset other p k)
    given_is k lt =
        ap (λ z. clockwise (side_of_port other p k) (along (side_of_port other p k) z +ℤ half_of (size_along (side_of_port other p k) (port_at other k).size))) (places k lt)
        ∙ ap (clockwise (side_of_port other p k)) (sym (offset_is (side_of_port other p k) (box_of p (node_of_port other k)) (port_place p k) (port_at other k).size))

    abbrev Stands : ℕ → ℕ → Type 0
    Stands j k = clockwise (side_of_port other p j) (port_offset other p j) ≤ℤ clockwise (side_of_port other p k) (port_offset other p k)

    order_over : (m : ℕ) → KeepsOrder doc p m → KeepsOrder other p m
    order_over m h j k jl kl jm km s before =
        let count = same_count ns es ps qs same in
        let by_index = λ (less : (port_at other j).index <ℤ (port_at other k).index).
        subst (λ t. clockwise t (port_offset other p j) ≤ℤ clockwise (side_of_port other p k) (port_offset other p k)) (sym (side j))
        (subst (λ t. clockwise (side_of_port doc p j) (port_offset other p j) ≤ℤ clockwise t (port_offset other p k)) (sym (side k))
        (subst (λ z. clockwise (side_of_port doc p j) z ≤ℤ clockwise (side_of_port doc p k) (port_offset other p k)) (sym (offset j))
        (subst (λ z. clockwise (side_of_port doc p j) (port_offset doc p j) ≤ℤ clockwise (side_of_port doc p k) z) (sym (offset k))
        (h j k (subst (λ n. j < n) count jl) (subst (λ n. k < n) count kl) (sym (owner j) ∙ jm) (sym (owner k) ∙ km) (sym (side j) ∙ s ∙ side k)
        (inl (subst (λ i. i <ℤ (port_at doc k).index) (index_same ns es ps qs same j) (subst (λ i. (port_at other j).index <ℤ i) (index_same ns es ps qs same k) less))))))) in
        let less_given = λ (less : given_clockwise other p j <ℤ given_clockwise other p k).
        less_or_same _ _ (subst (λ z. z <ℤ clockwise (side_of_port other p k) (port_offset other p k)) (given_is j jl) (subst (λ z. given_clockwise other p j <ℤ z) (given_is k kl) less)) in
        let same_given = λ (is : (given_clockwise other p j ≡ given_clockwise other p k) × (j < k)).
        same_stays _ _ (sym (given_is j jl) ∙ is.0 ∙ given_is k kl) in
        ⊎_elim by_index
        (λ (x : ((port_at other j).index ≡ (port_at other k).index) × ((given_clockwise other p j <ℤ given_clockwise other p k) ⊎ ((given_clockwise other p j ≡ given_clockwise other p k) × (j < k)))).
        ⊎_elim less_given same_given x.1)
        before

    ports_over : (m : ℕ) → KeepsPorts doc p m → KeepsPorts other p m
    ports_over m h = record {
      ports = λ k lt is. port_over k lt (h.ports k (subst (λ n. k < n) (same_count ns es ps qs same) lt) (sym (owner k) ∙ is));
      ends = λ e b lt is. end_over m e b (h.ends e b lt (sym (end_of_same ns es ps qs same p given e b) ∙ is));
      order = λ rule. order_over m (h.order rule);
      spread = spread_over m h.spread;
    }

    pub kept_over : (n : ℕ) → PortsKept doc p n → PortsKept other p n
    kept_over n h = record {
      children = λ m c. ports_over m (h.children m (child_back ns es ps qs same n m c));
      root = λ z. ports_over 0 (h.root z);
    }
