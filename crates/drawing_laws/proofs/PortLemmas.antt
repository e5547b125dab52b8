-- The ports of a drawing are small.
use Rattle.std.proofs.Common.{◌≡◌, ℕ, zero, suc, ◌<◌, ◌⊎◌, inl, inr, ⊎_elim, Bool, true, false, ◌&&◌, length, All, not, Option, Some, None, IfSome, IsTrue, IsFalse, IsSome, is_none, is_some, ℤ, pos, neg_ℤ, ◌^◌, ◌+ℤ◌, ◌-ℤ◌, ◌≤ℤ◌, refl, sym, subst, arith, rules}
use Rattle.std.proofs.lemmas.Int.{ints}
use Rattle.std.proofs.lemmas.List.Elements.{All-from_get_or}
use Rattle.drawing_types.specs.declared.shape.Point.{Point}
use Rattle.drawing_types.specs.declared.shape.Size.{Size}
use Rattle.drawing_types.specs.declared.shape.Rect.{Rect}
use Rattle.drawing_types.specs.declared.shape.Side.{Side}
use Rattle.drawing_types.specs.declared.shape.Side.TheVariants.{North, East, South, West}
use Rattle.elk_doc.specs.declared.document.Direction.{Direction}
use Rattle.elk_doc.specs.declared.document.LevelOptions.{LevelOptions}
use Rattle.elk_doc.specs.declared.document.PortRule.{PortRule}
use Rattle.elk_doc.specs.declared.document.PortRule.TheVariants.{Free, FixedSide, FixedOrder, FixedPos}
use Rattle.elk_doc.specs.declared.drawing.Placed.{Placed}
use Rattle.elk_doc.specs.Document.{Document, frame_of, node_at, port_at, node_of_port}
use Rattle.drawing_types.specs.Shapes.{origin}
use Rattle.elk_doc.specs.Drawing.{box_of, port_place}
use Rattle.elk_doc.specs.Places.{outline_of, middle_of, offset_on}
use Rattle.elk_doc.specs.PortsKept.{KeepsPort, across, flush, is_pinned, pins, side_length}
use Rattle.drawing_types.specs.Shapes.{Holds, half_of, moved_by, rect_at}
use Rattle.elk_doc.specs.Sides.{is_entered, is_leaf, is_left, side_by_place, side_from, side_of_port, side_or}
use Rattle.elk_doc.specs.Sound.{IsSound, IsSoundSize, along}
use Rattle.drawing_types.specs.Ranges.{IsWithin}
use Rattle.elk_doc.proofs.PlaceLaws.{outline_to-least}
use Rattle.elk_doc.proofs.ShapeLaws.{half_of-bounds}
use Rattle.drawing_laws.specs.Held.{IsHeld, IsModest, IsSmall, IsSmallPoint}
use Rattle.drawing_laws.proofs.BoxLemmas.{outline_in_reach}
use Rattle.drawing_laws.proofs.ParentLemmas.{reach}

-- ---- ports of nodes in a level

held_port_small : (outline r : Rect) (q : Point) (size : Size) → IsModest r → IsSoundSize size → Holds reach outline → Holds outline r → Holds outline (rect_at (moved_by r q) size) → IsSmallPoint q
held_port_small outline r q size modest small inside box port = omega (arith, ints)

-- a port of a node that is not the root lies in the node's outline
port_in_level : (d : Document) (p : Placed) (k : ℕ) → IsSound d → IsHeld d p → k < length d.ports → 0 < node_of_port d k → IsSmallPoint (port_place p k)
port_in_level d p k sound held there above =
    let c = node_of_port d k in
    let node_there = sound.ports.nodes k there in
    let least = outline_to-least d p c (length d.ports) in
    held_port_small (outline_of d p c) (box_of p c) (port_place p k) (port_at d k).size (held.sizes c node_there) (sound.ports.each k there).size (outline_in_reach d p c sound held above node_there) least.box (least.ports k there refl)

-- ---- ports of the root

-- a point is small where it is small along a side and across it
small_by_side : (s : Side) (q : Point) → IsSmall (along s q) → IsSmall (across s q) → IsSmallPoint q
small_by_side North q a b = record { x = a; y = b }
small_by_side East q a b = record { x = b; y = a }
small_by_side South q a b = record { x = a; y = b }
small_by_side West q a b = record { x = b; y = a }

-- where a node is no leaf, a pinned port's given place is small along its side
pinned_small : (rule : PortRule) (asked : Option Side) (leaf : Bool) (by_place : Option Side) (only_entered : Bool) (frame : Direction) (q : Point) → leaf ≡ false
    → (rule ≡ FixedPos → IfSome asked (λ s. IsWithin (neg_ℤ (pos (2 ^ 20))) (pos (2 ^ 20)) (along s q)))
    → IsTrue (pins rule leaf (is_some asked)) → IsSmall (along (side_or (side_from rule asked leaf by_place) only_entered frame) q)
pinned_small Free asked leaf by_place only_entered frame q none near pinned = absurd (search rules)
pinned_small FixedSide asked leaf by_place only_entered frame q none near pinned = absurd (search rules)
pinned_small FixedOrder asked leaf by_place only_entered frame q none near pinned = absurd (search rules)
pinned_small FixedPos None true by_place only_entered frame q none near pinned = absurd cc
pinned_small FixedPos None false by_place only_entered frame q none near pinned = absurd (search rules)
pinned_small FixedPos (Some s) leaf by_place only_entered frame q none near pinned =
    let within = near refl in record { above = omega (arith, ints, within.above); below = omega (arith, ints, within.below) }

flush_small : (s : Side) (r : Rect) (size : Size) → IsModest r → IsSoundSize size → IsSmall (flush s r size)
flush_small North r size modest small = omega (arith, ints)
flush_small East r size modest small = omega (arith, ints)
flush_small South r size modest small = omega (arith, ints)
flush_small West r size modest small = omega (arith, ints)

small_by_middle : (low size begin length half : ℤ) → IsWithin (pos 0) (pos (2 ^ 51)) size → IsWithin (pos 0) (pos (2 ^ 20)) length → pos 0 ≤ℤ half → half ≤ℤ length → IsWithin (pos 0) size (((low +ℤ begin) +ℤ half) -ℤ low) → IsSmall begin
small_by_middle low size begin length half modest small least most on_side = omega (arith, ints)

-- a port whose middle lies on a stretch of at most 2^51 begins at a small number
begins_small : (low size begin length : ℤ) → IsWithin (pos 0) (pos (2 ^ 51)) size → IsWithin (pos 0) (pos (2 ^ 20)) length → IsWithin (pos 0) size (((low +ℤ begin) +ℤ half_of length) -ℤ low) → IsSmall begin
begins_small low size begin length modest small on_side =
    let half = half_of-bounds length small.above in
    small_by_middle low size begin length (half_of length) modest small half.0 half.1 on_side

anchored_small : (s : Side) (r : Rect) (q : Point) (size : Size) → IsModest r → IsSoundSize size → IsWithin (pos 0) (side_length s r) (offset_on s r (middle_of s (rect_at (moved_by r q) size))) → IsSmall (along s q)
anchored_small North r q size modest small on_side = begins_small r.x r.width q.x size.width modest.width small.width on_side
anchored_small East r q size modest small on_side = begins_small r.y r.height q.y size.height modest.height small.height on_side
anchored_small South r q size modest small on_side = begins_small r.x r.width q.x size.width modest.width small.width on_side
anchored_small West r q size modest small on_side = begins_small r.y r.height q.y size.height modest.height small.height on_side

no_leaf : (b c : Bool) → c ≡ false → IsFalse (b && c)
no_leaf true c h = h
no_leaf false c h = refl

pinned_or_not : (b : Bool) → IsTrue b ⊎ IsFalse b
pinned_or_not true = inl refl
pinned_or_not false = inr refl

compound_node : (o : Option LevelOptions) → IsSome o → is_none o ≡ false
compound_node None h = absurd (search rules)
compound_node (Some x) h = refl

-- a kept port of a node that is no leaf
port_of_root : (d : Document) (p : Placed) (k : ℕ) → IsSound d → IsHeld d p → k < length d.ports → IsSome (node_at d (node_of_port d k)).level → KeepsPort d p k → IsSmallPoint (port_place p k)
port_of_root d p k sound held there compound kept =
    let s = side_of_port d p k in
    let r = box_of p (node_of_port d k) in
    let q = port_place p k in
    let port = sound.ports.each k there in
    let modest = held.sizes (node_of_port d k) (sound.ports.nodes k there) in
    let outside = kept.flush_outside (no_leaf (is_pinned d k) (is_leaf d (node_of_port d k)) (compound_node _ compound)) in
    small_by_side s q
    (⊎_elim
    (λ pinned. subst (λ z. IsSmall z) (sym (kept.along_kept pinned)) (pinned_small (node_at d (node_of_port d k)).rule (port_at d k).side (is_leaf d (node_of_port d k))
    (side_by_place (node_at d (node_of_port d k)).size (port_at d k).place (port_at d k).size) (is_entered d p k && not (is_left d p k)) (frame_of d (node_of_port d k))
    (port_at d k).place (compound_node _ compound) (port.pinned compound) pinned))
    (λ free. anchored_small s r q (port_at d k).size modest port.size (kept.on_side free))
    (pinned_or_not (is_pinned d k)))
    (subst (λ z. IsSmall z) (sym outside) (flush_small s r (port_at d k).size modest port.size))

above_or_root : (n : ℕ) → (0 < n) ⊎ (n ≡ 0)
above_or_root zero = inr refl
above_or_root (suc n) = inl (omega arith)

port_small : (d : Document) (p : Placed) → IsSound d → IsHeld d p → (k : ℕ) → k < length d.ports → IsSmallPoint (port_place p k)
port_small d p sound held k there =
    ⊎_elim
    (λ above. port_in_level d p k sound held there above)
    (λ rooted. port_of_root d p k sound held there (subst (λ n. IsSome (node_at d n).level) (sym rooted) sound.levels.root) (held.root_ports.ports k there rooted))
    (above_or_root (node_of_port d k))

pub ports_small : (d : Document) (p : Placed) → IsSound d → IsHeld d p → All IsSmallPoint p.ports
ports_small d p sound held =
    All-from_get_or IsSmallPoint p.ports origin (λ k there. port_small d p sound held k (omega (arith, held.counts.ports)))
