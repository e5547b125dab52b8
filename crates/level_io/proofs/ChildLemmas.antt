-- A child of a document's level is a child of a level.
use Rattle.std.proofs.Common.{◌≡◌, ℕ, ◌<◌, ◌^◌, Bool, true, false, not, ℤ, pos, neg_ℤ, length, Option, None, Some, is_some, is_none, arith, refl, sym, ap, ap₂, subst, ◌∙◌, inl, inr, rules}
use Rattle.std.proofs.lemmas.Bool.{cases_Bool}
use Rattle.std.proofs.lemmas.Int.{ints}
use Rattle.std.specs.Prelude.{IsSome, IsNone, IsSomeAnd, IfSome, IsTrue, IsFalse}
use Rattle.std.proofs.lemmas.List.{get_or-map, length-map}
use Rattle.drawing_types.specs.declared.shape.Size.{Size}
use Rattle.drawing_types.specs.declared.shape.Side.{Side}
use Rattle.elk_doc.specs.declared.document.Direction.{Direction}
use Rattle.elk_doc.specs.declared.document.Direction.TheVariants.{Right, Left, Down, Up}
use Rattle.elk_doc.specs.declared.document.LevelOptions.{LevelOptions}
use Rattle.elk_doc.specs.declared.document.Node.{Node}
use Rattle.elk_doc.specs.declared.document.PortRule.{PortRule}
use Rattle.elk_doc.specs.declared.document.PortRule.TheVariants.{Free, FixedSide, FixedOrder, FixedPos}
use Rattle.elk_doc.specs.declared.drawing.Placed.{Placed}
use Rattle.elk_doc.specs.Document.{Document, node_at, port_at}
use Rattle.elk_doc.specs.Drawing.{box_of}
use Rattle.elk_doc.specs.Fits.{KeepsSize}
use Rattle.elk_doc.specs.PortsKept.{pins, size_along}
use Rattle.elk_doc.specs.Sides.{given_side, side_by_place, side_from}
use Rattle.elk_doc.specs.Sound.{IsOutside, IsSound, IsSoundPort, IsSoundSize, along}
use Rattle.drawing_types.specs.Ranges.{IsPlaceWithin, IsWithin}
use Rattle.drawing_laws.specs.Rotating.{rotated_side}
use Rattle.port_order.specs.declared.children.ChildPort.{ChildPort}
use Rattle.port_order.specs.declared.children.Child.{Child}
use Rattle.port_order.specs.Child as laid
use Rattle.port_order.specs.Conditions.{IsChildPort, IsSmall}
use Rattle.port_order.specs.Sides as framed
use Rattle.level_model.specs.Conditions.{IsLevelChild, IsNear, IsNearPort}
use Rattle.working_frame.specs.Rotated.{box_size, half_along, level_child, level_port, port_number, ports_of, rotated_given, rotated_place, rotated_size}
use Rattle.working_frame.specs.Numbered.{IsPortOf}
use Rattle.working_frame.proofs.NumberedLemmas.{numbers_match}
use Rattle.level_io.proofs.PortLemmas.{IsNearPlace, along_near, from_rotated, given_and, half_within, near_along, outside_rotated, place_far, place_near, place_rotated}
use Rattle.level_io.proofs.ReadLemmas.{rotated_sound}

not_some : (o : Option LevelOptions) → not (is_some o) ≡ is_none o
not_some None = refl
not_some (Some x) = refl

leaf_none : (o : Option LevelOptions) → is_none o ≡ true → IsNone o
leaf_none None h = search rules
leaf_none (Some x) h = absurd cc

none_leaf : (o : Option LevelOptions) → IsFalse (is_some o) → IsNone o
none_leaf None h = search rules
none_leaf (Some x) h = absurd (search rules)

some_level : (o : Option LevelOptions) → is_some o ≡ true → IsSome o
some_level None h = absurd cc
some_level (Some x) h = search rules

false_is : (b : Bool) → b ≡ false → IsFalse b
false_is false h = search rules
false_is true h = absurd cc

-- a pinned port of a compound node asks for a side
pinned_asked : (way : Direction) (rule : PortRule) (asked : Option Side) → IsTrue (pins rule (not true) (is_some (rotated_given way asked))) → (rule ≡ FixedPos) × (a : Side) × (asked ≡ Some a)
pinned_asked way Free asked h = absurd (search rules)
pinned_asked way FixedSide asked h = absurd (search rules)
pinned_asked way FixedOrder asked h = absurd (search rules)
pinned_asked way FixedPos None h = absurd (search rules)
pinned_asked way FixedPos (Some a) h = (refl, a, refl)

sound_small : (s : Size) → IsSoundSize s → IsSmall s
sound_small s h = record { width = record { above = h.width.above; below = omega (arith, ints, h.width.below) }; height = record { above = h.height.above; below = omega (arith, ints, h.height.below) } }

-- a port of the child c, whose rule, level and size are those of its node
module _ (d : Document) (way : Direction) (box : Size) (c m : ℕ) (s : IsSound d) (of : IsPortOf d c m) (small : IsSmall box) (kept : IsNone (node_at d c).level → box ≡ (node_at d c).size) where
  abbrev node : Node
  node = node_at d c

  abbrev by_place : Option Side
  by_place = side_by_place (node_at d c).size (port_at d m).place (port_at d m).size

  abbrev there : Option Side
  there = framed.side_of_place way (rotated_size way box) (rotated_place way box (port_at d m).size (port_at d m).place) (rotated_size way (port_at d m).size)

  abbrev given_there : Option Side
  given_there = side_from (node_at d c).rule (rotated_given way (port_at d m).side) (not (is_some (node_at d c).level)) there

  abbrev given_here : Option Side
  given_here = side_from (node_at d c).rule (port_at d m).side (is_none (node_at d c).level) by_place

  -- what is sound of a port of its node is so of the node c
  sound_port : IsSoundPort (node_at d c) (port_at d m) given_here
  sound_port =
      subst (λ n. IsSoundPort (node_at d n) (port_at d m) (side_from (node_at d n).rule (port_at d m).side (is_none (node_at d n).level) (side_by_place (node_at d n).size (port_at d m).place (port_at d m).size))) of.of_node
      (s.ports.each m of.port_in)

  given_is : given_there ≡ rotated_given way given_here
  given_is =
      ap (λ b. side_from (node_at d c).rule (rotated_given way (port_at d m).side) b there) (not_some (node_at d c).level)
      ∙ from_rotated way (node_at d c).rule (port_at d m).side (is_none (node_at d c).level) there by_place
      (λ leaf. place_rotated way box (port_at d m).place (port_at d m).size
      ∙ ap (λ (z : Size). rotated_given way (side_by_place z (port_at d m).place (port_at d m).size)) (kept (leaf_none (node_at d c).level leaf)))

  outside : IsFalse (is_some (node_at d c).level) → (node_at d c).rule ≡ FixedPos
      → IsSomeAnd given_there (IsOutside (rotated_size way box) (rotated_place way box (port_at d m).size (port_at d m).place) (rotated_size way (port_at d m).size))
  outside leaf rule =
      let none = none_leaf (node_at d c).level leaf in
      let here = subst (λ (z : Size). IsSomeAnd given_here (IsOutside z (port_at d m).place (port_at d m).size)) (sym (kept none)) (sound_port.outside none rule) in
      subst (λ o. IsSomeAnd o (IsOutside (rotated_size way box) (rotated_place way box (port_at d m).size (port_at d m).place) (rotated_size way (port_at d m).size))) (sym given_is)
      (given_and way given_here (IsOutside box (port_at d m).place (port_at d m).size)
      (IsOutside (rotated_size way box) (rotated_place way box (port_at d m).size (port_at d m).place) (rotated_size way (port_at d m).size))
      (outside_rotated way box (port_at d m).place (port_at d m).size) here)

  given_of_port : given_side d m ≡ given_here
  given_of_port =
      ap (λ n. side_from (node_at d n).rule (port_at d m).side (is_none (node_at d n).level) (side_by_place (node_at d n).size (port_at d m).place (port_at d m).size)) of.of_node

  half : IsWithin (pos 0) (size_along (framed.side_else given_there false) (rotated_size way (port_at d m).size))
      (half_along way (framed.side_else (rotated_given way (given_side d m)) false) (rotated_size way (port_at d m).size))
  half =
      let side : rotated_given way (given_side d m) ≡ given_there = ap (rotated_given way) given_of_port ∙ sym given_is in
      subst (λ o. IsWithin (pos 0) (size_along (framed.side_else given_there false) (rotated_size way (port_at d m).size)) (half_along way (framed.side_else o false) (rotated_size way (port_at d m).size))) (sym side)
      (half_within way (framed.side_else given_there false) (rotated_size way (port_at d m).size) (rotated_sound way (port_at d m).size sound_port.size))

  near_leaf : IsFalse (is_some (node_at d c).level) → IsNearPlace (rotated_size way box) (rotated_place way box (port_at d m).size (port_at d m).place)
  near_leaf leaf = place_near way box (port_at d m).size (port_at d m).place small sound_port.size (sound_port.near (none_leaf (node_at d c).level leaf))

  near_asked : (a : Side) → IsSome (node_at d c).level → (node_at d c).rule ≡ FixedPos → (port_at d m).side ≡ Some a
      → IsNear (size_along (framed.side_else given_there false) (rotated_size way box)) (along (framed.side_else given_there false) (rotated_place way box (port_at d m).size (port_at d m).place))
  near_asked a compound rule asked =
      let far = subst (λ o. IfSome o (λ z. IsWithin (neg_ℤ (pos (2 ^ 20))) (pos (2 ^ 20)) (along z (port_at d m).place))) asked (sound_port.pinned compound rule) in
      let given : given_there ≡ Some (rotated_side way a) = ap₂ (λ r o. side_from r (rotated_given way o) (not (is_some (node_at d c).level)) there) rule asked in
      subst (λ o. IsNear (size_along (framed.side_else o false) (rotated_size way box)) (along (framed.side_else o false) (rotated_place way box (port_at d m).size (port_at d m).place))) (sym given)
      (along_near way a box (port_at d m).size (port_at d m).place small sound_port.size far)

  near_pinned : IsTrue (pins (node_at d c).rule (not (is_some (node_at d c).level)) (is_some (rotated_given way (port_at d m).side)))
      → IsNear (size_along (framed.side_else given_there false) (rotated_size way box)) (along (framed.side_else given_there false) (rotated_place way box (port_at d m).size (port_at d m).place))
  near_pinned h = elim (cases_Bool (is_some (node_at d c).level)) [
    | inl e ↦
        let pinned = pinned_asked way (node_at d c).rule (port_at d m).side (subst (λ b. IsTrue (pins (node_at d c).rule (not b) (is_some (rotated_given way (port_at d m).side)))) e h) in
        near_asked pinned.1 (some_level (node_at d c).level e) pinned.0 pinned.2
    | inr e ↦
        near_along (framed.side_else given_there false) (rotated_size way box) (rotated_place way box (port_at d m).size (port_at d m).place) (near_leaf (false_is (is_some (node_at d c).level) e))
  ]

rotated_small : (way : Direction) (s : Size) → IsSmall s → IsSmall (rotated_size way s)
rotated_small Right s h = h
rotated_small Left s h = h
rotated_small Down s h = record { width = h.height; height = h.width }
rotated_small Up s h = record { width = h.height; height = h.width }

abbrev given_at : Child → ChildPort → Option Side
given_at c q = side_from c.rule q.side (not c.compound) (framed.side_of_place c.direction c.size q.place q.size)

port_sound : (d : Document) (p : Placed) (way : Direction) (c j : ℕ) → IsSound d → IsSmall (box_size p c) → (IsNone (node_at d c).level → box_size p c ≡ (node_at d c).size)
    → j < length (level_child d p way c).ports → IsChildPort (level_child d p way c) j × IsNearPort (level_child d p way c) j
port_sound d p way c j s small kept h =
    let box = box_size p c in
    let long = length-map (ports_of d c) (level_port d way box) in
    let inside : j < length (ports_of d c) = omega (arith, h, long) in
    let m = port_number d c j in
    let of : IsPortOf d c m = (numbers_match d c).ports.meant j inside in
    let child : Child = level_child d p way c in
    let e : laid.port_at child j ≡ level_port d way box m = get_or-map (level_port d way box) (ports_of d c) j 0 _ inside in
    let sound = sound_port d way box c m s of small kept in (
      record {
        size = subst (λ (q : ChildPort). IsSmall q.size) (sym e) (sound_small (rotated_size way (port_at d m).size) (rotated_sound way (port_at d m).size sound.size));
        place = subst (λ (q : ChildPort). IsPlaceWithin (2 ^ 54) q.place) (sym e) (place_far way box (port_at d m).size (port_at d m).place small sound.size sound.far);
        half = subst (λ (q : ChildPort). IsWithin (pos 0) (size_along (framed.side_else (given_at (level_child d p way c) q) false) q.size) q.half) (sym e) (half d way box c m s of small kept);
        outside = λ leaf rule.
            subst (λ (q : ChildPort). IsSomeAnd (given_at (level_child d p way c) q) (IsOutside (rotated_size way (box_size p c)) q.place q.size)) (sym e) (outside d way box c m s of small kept leaf rule);
      },
      record {
        leaf_x = λ leaf. subst (λ (q : ChildPort). IsNear (rotated_size way (box_size p c)).width q.place.x) (sym e) (near_leaf d way box c m s of small kept leaf).x;
        leaf_y = λ leaf. subst (λ (q : ChildPort). IsNear (rotated_size way (box_size p c)).height q.place.y) (sym e) (near_leaf d way box c m s of small kept leaf).y;
        pinned =
            subst (λ (q : ChildPort). IsTrue (pins (node_at d c).rule (not (is_some (node_at d c).level)) (is_some q.side)) → IsNear (size_along (framed.side_else (given_at (level_child d p way c) q) false) (rotated_size way (box_size p c))) (along (framed.side_else (given_at (level_child d p way c) q) false) q.place)) (sym e)
            (near_pinned d way box c m s of small kept);
      },
    )

pub child_sound : (d : Document) (p : Placed) (way : Direction) (c : ℕ) → IsSound d → IsSmall (box_size p c) → (IsNone (node_at d c).level → box_size p c ≡ (node_at d c).size)
    → IsLevelChild (level_child d p way c)
child_sound d p way c s small kept =
    record {
      sound = record { size = rotated_small way (box_size p c) small; ports = λ j h. (port_sound d p way c j s small kept h).0 };
      near = λ j h. (port_sound d p way c j s small kept h).1;
    }

-- a leaf whose box keeps its size
pub kept_size : (d : Document) (p : Placed) (c : ℕ) → KeepsSize d p c → box_size p c ≡ (node_at d c).size
kept_size d p c k =
    let with_width : ℤ → Size = λ z. record { width = z; height = (box_of p c).height } in
    let with_height : ℤ → Size = λ z. record { width = (node_at d c).size.width; height = z } in
    ap with_width k.width ∙ ap with_height k.height
