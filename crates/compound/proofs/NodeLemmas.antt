-- A planned node is no larger than its children together and its cost.
use Rattle.std.proofs.Common.{◌≡◌, inl, ⊎_elim, ℕ, ◌+◌, ◌<◌, ◌^◌, cond, Bool, true, false, map, length, ℤ, pos, neg_ℤ, ◌+ℤ◌, ◌≤ℤ◌, Option, Some, None, refl, sym, ap₂, subst, ◌∙◌, arith, rules}
use Rattle.std.proofs.lemmas.Int.{ints}
use Rattle.std.proofs.lemmas.List.{length-map}
use Rattle.std.specs.Prelude.{IfSome, IsNone, IsSome}
use Rattle.drawing_types.specs.declared.shape.Point.{Point}
use Rattle.drawing_types.specs.declared.shape.Size.{Size}
use Rattle.drawing_types.specs.declared.shape.Side.{Side}
use Rattle.drawing_types.specs.declared.shape.Side.TheVariants.{North, East, South, West}
use Rattle.elk_doc.specs.declared.document.Direction.{Direction}
use Rattle.elk_doc.specs.declared.document.Direction.TheVariants.{Right, Left, Down, Up}
use Rattle.elk_doc.specs.declared.document.LevelOptions.{LevelOptions}
use Rattle.elk_doc.specs.declared.document.PortRule.{PortRule}
use Rattle.elk_doc.specs.declared.document.PortRule.TheVariants.{Free, FixedSide, FixedOrder, FixedPos}
use Rattle.elk_doc.specs.declared.drawing.Placed.{Placed}
use Rattle.elk_doc.specs.Document.{Document, node_at, node_of_port, port_at}
use Rattle.elk_doc.specs.Drawing.{box_of}
use Rattle.elk_doc.specs.Fits.{IsSolid, KeepsSize, child_count, edge_count}
use Rattle.elk_doc.specs.Fitted.{IsGreatestOf}
use Rattle.elk_doc.specs.Level.{children, edges_of, is_child, is_edge_of}
use Rattle.elk_doc.specs.Numbers.{total_below}
use Rattle.elk_doc.specs.Sound.{IsDistance, IsSound, IsSoundSize, along}
use Rattle.drawing_types.specs.Ranges.{IsWithin}
use Rattle.elk_doc.proofs.NumberLaws.{length-numbers_below}
use Rattle.port_order.specs.declared.children.ChildPort.{ChildPort}
use Rattle.level_model.specs.Conditions.{plain_level}
use Rattle.level_model.specs.Level.{PlainLevel}
use Rattle.level_draw.specs.Drawing.{drawn_in, plan_from}
use Rattle.working_frame.specs.Numbered.{IsPortOf}
use Rattle.working_frame.specs.Rotated.{box_size, child_number, level_child, level_edge, level_of, port_number, ports_of, rotated_size}
use Rattle.working_frame.proofs.NumberedLemmas.{levels_are_listed, numbers_match}
use Rattle.level_io.proofs.ReadLemmas.{rotated_sound}
use Rattle.rotated_levels.proofs.Bounded.{extents_bounded, extents_small}
use Rattle.level_io.specs.Sizes.{Asks, IsSizeRound, end_across, end_down, end_of, padded_height, padded_width, pinned_under}
use Rattle.compound.specs.Parted.{IsPartedPlan}
use Rattle.compound.specs.Planned.{IsLayeredPlan}
use Rattle.compound.proofs.EdgeLemmas.{level_sound}
use Rattle.compound.proofs.ExtentLemmas.{AllShort, extent_most, high, wide}
use Rattle.compound.proofs.PartLemmas.{parts_most}
use Rattle.level_split.proofs.BoundLemmas.{parts_are_bounded}
use Rattle.rotated_levels.proofs.Sums.{over}
use Rattle.compound.proofs.ListLemmas.{over_both, over_numbers}
use Rattle.compound.proofs.SumLemmas.{cost, room}

-- the width and the height of a node's box together, which are the same in every frame
abbrev pub size_sum : Placed → ℕ → ℤ
size_sum p n = (box_of p n).width +ℤ (box_of p n).height

-- ---- sizes in the frame

pub rotated_sum : (way : Direction) (s : Size) → ((rotated_size way s).width +ℤ (rotated_size way s).height) ≡ (s.width +ℤ s.height)
rotated_sum Right s = refl
rotated_sum Left s = refl
rotated_sum Down s = omega (arith, ints)
rotated_sum Up s = omega (arith, ints)

pub rotated_least : (way : Direction) (s : Size) → pos 0 ≤ℤ s.width → pos 0 ≤ℤ s.height → (pos 0 ≤ℤ (rotated_size way s).width) × (pos 0 ≤ℤ (rotated_size way s).height)
rotated_least Right s w h = (w, h)
rotated_least Left s w h = (w, h)
rotated_least Down s w h = (h, w)
rotated_least Up s w h = (h, w)

pub children_sum : (d : Document) (p : Placed) (n : ℕ) (way : Direction)
    → (over wide (map (level_child d p way) (children d n)) +ℤ over high (map (level_child d p way) (children d n))) ≡ total_below (is_child d n) (size_sum p) (length d.nodes)
children_sum d p n way =
    over_both (level_child d p way) wide high (size_sum p) (children d n) (λ c. rotated_sum way (box_size p c)) ∙ over_numbers (is_child d n) (size_sum p) (length d.nodes)

-- the ports of a level are short
pub level_short : (d : Document) (p : Placed) (n : ℕ) (o : LevelOptions) → IsSound d → AllShort (level_of d p n o)
level_short d p n o s c h k less =
    let listed = levels_are_listed d p n o in
    let all = listed.child_count in
    let inside : c < length (children d n) = omega (arith, h, all) in
    let many = listed.port_count c inside in
    let own : k < length (ports_of d (child_number d n c)) = omega (arith, less, many) in
    let of = (numbers_match d (child_number d n c)).ports.meant k own in
    subst (λ (q : ChildPort). IsSoundSize q.size) (sym (listed.port c k inside own))
    (rotated_sound o.direction (port_at d (port_number d (child_number d n c) k)).size (s.ports.each (port_number d (child_number d n c) k) of.port_in).size)

room_is : (d : Document) (p : Placed) (n : ℕ) (o : LevelOptions) → room (length (level_of d p n o).children) (length (level_of d p n o).edges) ≡ room (child_count d n) (edge_count d n)
room_is d p n o =
    ap₂ room
    (length-map (children d n) (level_child d p o.direction) ∙ length-numbers_below (is_child d n) (length d.nodes))
    (length-map (edges_of d n) (level_edge d n) ∙ length-numbers_below (is_edge_of d n) (length d.edges))

-- ---- pinned ports

abbrev IsNear : ℤ → Type 0
IsNear z = IsWithin (neg_ℤ (pos (2 ^ 20))) (pos (2 ^ 20)) z

pinned_near : (rule : PortRule) (asked : Option Side) (P : Side → Type 0) → (rule ≡ FixedPos → IfSome asked P) → IfSome (pinned_under rule asked) P
pinned_near Free asked P h = search rules
pinned_near FixedSide asked P h = search rules
pinned_near FixedOrder asked P h = search rules
pinned_near FixedPos asked P h = h refl

end_sum : (a b z : ℤ) → a ≤ℤ pos (2 ^ 20) → b ≤ℤ pos (2 ^ 20) → Some (a +ℤ b) ≡ Some z → z ≤ℤ pos (2 ^ 21)
end_sum a b z h k e = let same : a +ℤ b ≡ z = cc in omega (arith, ints, h, k, same)

end_near : (o : Option Side) (q : Point) (s : Size) (across : Bool) (z : ℤ) → IsSoundSize s → IfSome o (λ side. IsNear (along side q)) → cond across (end_across o q s) (end_down o q s) ≡ Some z
    → z ≤ℤ pos (2 ^ 21)
end_near None q s true z h k e = absurd cc
end_near None q s false z h k e = absurd cc
end_near (Some North) q s true z h k e = end_sum q.x s.width z k.below h.width.below e
end_near (Some North) q s false z h k e = absurd cc
end_near (Some East) q s true z h k e = absurd cc
end_near (Some East) q s false z h k e = end_sum q.y s.height z k.below h.height.below e
end_near (Some South) q s true z h k e = end_sum q.x s.width z k.below h.width.below e
end_near (Some South) q s false z h k e = absurd cc
end_near (Some West) q s true z h k e = absurd cc
end_near (Some West) q s false z h k e = end_sum q.y s.height z k.below h.height.below e

asked_near : (d : Document) (n k : ℕ) (across : Bool) (z : ℤ) → IsSound d → IsSome (node_at d n).level → IsPortOf d n k → end_of d across k ≡ Some z → z ≤ℤ pos (2 ^ 21)
asked_near d n k across z s level of e =
    let port = s.ports.each k of.port_in in
    let own : IsSome (node_at d (node_of_port d k)).level = subst (λ m. IsSome (node_at d m).level) (sym of.of_node) level in
    end_near (pinned_under (node_at d (node_of_port d k)).rule (port_at d k).side) (port_at d k).place (port_at d k).size across z port.size
    (pinned_near (node_at d (node_of_port d k)).rule (port_at d k).side (λ side. IsNear (along side (port_at d k).place)) (port.pinned own)) e

-- a side of a node is that of its padded content, or hardly longer
asked_most : (d : Document) (n : ℕ) (across : Bool) (base z : ℤ) → IsSound d → IsSome (node_at d n).level → pos 0 ≤ℤ base → IsGreatestOf (Asks d across base n) z
    → (base ≤ℤ z) × (z ≤ℤ (base +ℤ pos (2 ^ 21)))
asked_most d n across base z s level least greatest = (
  greatest.bound base (inl refl),
  ⊎_elim
      (λ (same : z ≡ base). omega (arith, ints, same))
      (λ (port : (k : ℕ) × IsPortOf d n k × (end_of d across k ≡ Some z)). let near = asked_near d n port.0 across z s level port.1 port.2 in omega (arith, ints, near, least))
      greatest.itself,
)

-- ---- nodes

some_is : (l : Option LevelOptions) (o : LevelOptions) → l ≡ Some o → IsSome l
some_is l o e = subst IsSome (sym e) (search rules)

sum_least : (a b c : ℤ) → pos 0 ≤ℤ a → pos 0 ≤ℤ b → pos 0 ≤ℤ c → pos 0 ≤ℤ ((a +ℤ b) +ℤ c)
sum_least a b c h k m = omega (arith, ints, h, k, m)

-- a node that is framed round content of this extent in the frame
module _ (d : Document) (p : Placed) (n : ℕ) (o : LevelOptions) (s : IsSound d) (there : n < length d.nodes) (is : (node_at d n).level ≡ Some o)
    (extent : Size) (wide_enough : pos 0 ≤ℤ extent.width) (high_enough : pos 0 ≤ℤ extent.height) (framed : IsSizeRound d n o extent (box_size p n)) where
  rotated_content : (pos 0 ≤ℤ (rotated_size o.direction extent).width) × (pos 0 ≤ℤ (rotated_size o.direction extent).height)
  rotated_content = rotated_least o.direction extent wide_enough high_enough

  width_least : pos 0 ≤ℤ padded_width o extent
  width_least =
      let sound = (level_sound d n o s there is).padding in
      sum_least o.padding.left (rotated_size o.direction extent).width o.padding.right sound.left.above rotated_content.0 sound.right.above

  height_least : pos 0 ≤ℤ padded_height o extent
  height_least =
      let sound = (level_sound d n o s there is).padding in
      sum_least o.padding.top (rotated_size o.direction extent).height o.padding.bottom sound.top.above rotated_content.1 sound.bottom.above

  width_within : (padded_width o extent ≤ℤ (box_of p n).width) × ((box_of p n).width ≤ℤ (padded_width o extent +ℤ pos (2 ^ 21)))
  width_within = asked_most d n true (padded_width o extent) (box_of p n).width s (some_is (node_at d n).level o is) width_least framed.width

  height_within : (padded_height o extent ≤ℤ (box_of p n).height) × ((box_of p n).height ≤ℤ (padded_height o extent +ℤ pos (2 ^ 21)))
  height_within = asked_most d n false (padded_height o extent) (box_of p n).height s (some_is (node_at d n).level o is) height_least framed.height

  pub framed_solid : IsSolid (box_of p n)
  framed_solid = record { width = less _ _ width_least width_within.0; height = less _ _ height_least height_within.0 }
    where
      less : (a b : ℤ) → pos 0 ≤ℤ a → a ≤ℤ b → pos 0 ≤ℤ b
      less a b h k = omega (arith, ints, h, k)

  pub framed_most : (extent.width +ℤ extent.height) ≤ℤ (total_below (is_child d n) (size_sum p) (length d.nodes) +ℤ pos (room (child_count d n) (edge_count d n)))
      → size_sum p n ≤ℤ (total_below (is_child d n) (size_sum p) (length d.nodes) +ℤ pos (cost d n))
  framed_most most =
      let sound = (level_sound d n o s there is).padding in
      sums (box_of p n).width (box_of p n).height o.padding.left o.padding.right o.padding.top o.padding.bottom (rotated_size o.direction extent).width (rotated_size o.direction extent).height
      (extent.width +ℤ extent.height) (total_below (is_child d n) (size_sum p) (length d.nodes)) (room (child_count d n) (edge_count d n))
      width_within.1 height_within.1 sound.left.below sound.right.below sound.top.below sound.bottom.below (rotated_sum o.direction extent) most
    where
      sums : (w h a b c e x y z t : ℤ) (r : ℕ) → w ≤ℤ (((a +ℤ x) +ℤ b) +ℤ pos (2 ^ 21)) → h ≤ℤ (((c +ℤ y) +ℤ e) +ℤ pos (2 ^ 21))
          → a ≤ℤ pos (2 ^ 20) → b ≤ℤ pos (2 ^ 20) → c ≤ℤ pos (2 ^ 20) → e ≤ℤ pos (2 ^ 20) → (x +ℤ y) ≡ z → z ≤ℤ (t +ℤ pos r) → (w +ℤ h) ≤ℤ (t +ℤ pos (r + 2 ^ 23))
      sums w h a b c e x y z t r h1 h2 h3 h4 h5 h6 same most = omega (arith, ints, h1, h2, h3, h4, h5, h6, same, most)

-- what is drawn from a plan is hardly larger than its children
module _ (d : Document) (p : Placed) (n : ℕ) (o : LevelOptions) (s : IsSound d) (planned : IsLayeredPlan d p n o) where
  pub content_least : (pos 0 ≤ℤ planned.out.extent.width) × (pos 0 ≤ℤ planned.out.extent.height)
  content_least = let small = extents_small planned.level planned.out planned.laid_out in (small.width.above, small.height.above)

  pub content_most : (planned.out.extent.width +ℤ planned.out.extent.height) ≤ℤ (total_below (is_child d n) (size_sum p) (length d.nodes) +ℤ pos (room (child_count d n) (edge_count d n)))
  content_most =
      let laid = planned.laid_out in
      let out = planned.out in
      let most = extent_most (plain_level planned.level) (plan_from out.certificate out.plan.layered out.plan.order out.plan.lines) laid.orders out.certificate.layers (drawn_in out laid.drawn.left laid.drawn.top) laid.ready
      (laid.drawn.drawing.from_plan laid.orders laid.ready) (subst AllShort (sym planned.is) (level_short d p n o s))
      (extents_bounded planned.level planned.out laid.drawn.left laid.drawn.top laid)
      in
      let here = subst (λ (l : PlainLevel). (planned.out.extent.width +ℤ planned.out.extent.height) ≤ℤ ((over wide l.children +ℤ over high l.children) +ℤ pos (room (length l.children) (length l.edges)))) planned.is most in
      joined _ _ _ _ _ here (children_sum d p n o.direction) (room_is d p n o)
    where
      joined : (w a b : ℤ) (x y : ℕ) → w ≤ℤ (a +ℤ pos x) → a ≡ b → x ≡ y → w ≤ℤ (b +ℤ pos y)
      joined w a b x y h e f = omega (arith, ints, h, e, f)

-- and so is a level that is laid out part by part
module _ (d : Document) (p : Placed) (n : ℕ) (o : LevelOptions) (s : IsSound d) (there : n < length d.nodes) (is : (node_at d n).level ≡ Some o) (planned : IsPartedPlan d p n o) where
  apart : IsDistance o.component
  apart = (level_sound d n o s there is).component

  pub parted_least : (pos 0 ≤ℤ planned.out.extent.width) × (pos 0 ≤ℤ planned.out.extent.height)
  parted_least = let most = parts_are_bounded planned.level o.component planned.out apart planned.laid_out in (most.wide.above, most.high.above)

  pub parted_most : (planned.out.extent.width +ℤ planned.out.extent.height) ≤ℤ (total_below (is_child d n) (size_sum p) (length d.nodes) +ℤ pos (room (child_count d n) (edge_count d n)))
  parted_most =
      let most = parts_most planned.level o.component planned.out apart planned.laid_out (subst AllShort (sym planned.is) (level_short d p n o s)) in
      let here = subst (λ (l : PlainLevel). (planned.out.extent.width +ℤ planned.out.extent.height) ≤ℤ ((over wide l.children +ℤ over high l.children) +ℤ pos (room (length l.children) (length l.edges)))) planned.is most in
      joined _ _ _ _ _ here (children_sum d p n o.direction) (room_is d p n o)
    where
      joined : (w a b : ℤ) (x y : ℕ) → w ≤ℤ (a +ℤ pos x) → a ≡ b → x ≡ y → w ≤ℤ (b +ℤ pos y)
      joined w a b x y h e f = omega (arith, ints, h, e, f)

-- ---- leaves

leaf_size : (d : Document) (p : Placed) (n : ℕ) → IsSound d → n < length d.nodes → IsNone (node_at d n).level → KeepsSize d p n
    → IsWithin (pos 0) (pos (2 ^ 20)) (box_of p n).width × IsWithin (pos 0) (pos (2 ^ 20)) (box_of p n).height
leaf_size d p n s h leaf kept =
    let size = (s.nodes n h).leaf leaf in
    (subst (λ z. IsWithin (pos 0) (pos (2 ^ 20)) z) (sym kept.width) size.width, subst (λ z. IsWithin (pos 0) (pos (2 ^ 20)) z) (sym kept.height) size.height)

pub leaf_solid : (d : Document) (p : Placed) (n : ℕ) → IsSound d → n < length d.nodes → IsNone (node_at d n).level → KeepsSize d p n → IsSolid (box_of p n)
leaf_solid d p n s h leaf kept = let size = leaf_size d p n s h leaf kept in record { width = size.0.above; height = size.1.above }

pub leaf_most : (d : Document) (p : Placed) (n : ℕ) (t : ℤ) → IsSound d → n < length d.nodes → IsNone (node_at d n).level → KeepsSize d p n → pos 0 ≤ℤ t → size_sum p n ≤ℤ (t +ℤ pos (cost d n))
leaf_most d p n t s h leaf kept least =
    let size = leaf_size d p n s h leaf kept in
    sums (box_of p n).width (box_of p n).height t (room (child_count d n) (edge_count d n)) size.0.below size.1.below least
  where
    sums : (w h t : ℤ) (r : ℕ) → w ≤ℤ pos (2 ^ 20) → h ≤ℤ pos (2 ^ 20) → pos 0 ≤ℤ t → (w +ℤ h) ≤ℤ (t +ℤ pos (r + 2 ^ 23))
    sums w h t r a b c = omega (arith, ints, a, b, c)
