-- Ports of a child that are kept are near enough to be rotated back.
use Rattle.std.proofs.Common.{◌≡◌, ℕ, ◌<◌, ◌^◌, not, ◌&&◌, Bool, true, false, IsTrue, IsFalse, ⊎_elim, ℤ, pos, ◌+ℤ◌, ◌≤ℤ◌, length, sym, subst, arith, rules}
use Rattle.std.proofs.lemmas.Bool.{cases_Bool}
use Rattle.std.proofs.lemmas.Int.{ints}
use Rattle.drawing_types.specs.declared.shape.Point.{Point}
use Rattle.drawing_types.specs.declared.shape.Side.{Side}
use Rattle.drawing_types.specs.declared.shape.Side.TheVariants.{North, East, South, West}
use Rattle.drawing_types.specs.declared.shape.Size.{Size}
use Rattle.drawing_types.specs.Shapes.{origin}
use Rattle.elk_doc.specs.PortsKept.{across, flush, size_along}
use Rattle.drawing_types.specs.Shapes.{rect_at}
use Rattle.elk_doc.specs.Sound.{along}
use Rattle.drawing_types.specs.Ranges.{IsPlaceWithin, IsWithin}
use Rattle.port_order.specs.declared.children.Child.{Child}
use Rattle.port_order.specs.Child.{is_pinned, port_at}
use Rattle.port_order.specs.Conditions.{IsChild, IsSmall}
use Rattle.level_model.specs.PortsKept.{KeepsPort}
use Rattle.working_frame.specs.Ranges.{IsFar, IsFarPoint}

true_is : (b : Bool) → b ≡ true → IsTrue b
true_is true h = search rules
true_is false h = absurd cc

false_is : (b : Bool) → b ≡ false → IsFalse b
false_is false h = search rules
false_is true h = absurd cc

far_along : (s : Side) (q : Point) → IsPlaceWithin (2 ^ 54) q → IsFar (along s q)
far_along North q h = record { above = omega (arith, ints, h.x.above); below = omega (arith, ints, h.x.below) }
far_along East q h = record { above = omega (arith, ints, h.y.above); below = omega (arith, ints, h.y.below) }
far_along South q h = record { above = omega (arith, ints, h.x.above); below = omega (arith, ints, h.x.below) }
far_along West q h = record { above = omega (arith, ints, h.y.above); below = omega (arith, ints, h.y.below) }

far_across : (s : Side) (q : Point) → IsPlaceWithin (2 ^ 54) q → IsFar (across s q)
far_across North q h = record { above = omega (arith, ints, h.y.above); below = omega (arith, ints, h.y.below) }
far_across East q h = record { above = omega (arith, ints, h.x.above); below = omega (arith, ints, h.x.below) }
far_across South q h = record { above = omega (arith, ints, h.y.above); below = omega (arith, ints, h.y.below) }
far_across West q h = record { above = omega (arith, ints, h.x.above); below = omega (arith, ints, h.x.below) }

small_along : (s : Side) (z : Size) → IsSmall z → size_along s z ≤ℤ pos (2 ^ 47)
small_along North z h = h.width.below
small_along East z h = h.height.below
small_along South z h = h.width.below
small_along West z h = h.height.below

far_flush : (s : Side) (box z : Size) → IsSmall box → IsSmall z → IsFar (flush s (rect_at origin box) z)
far_flush North box z b h = record { above = omega (arith, ints, h.height.below); below = omega (arith, ints, h.height.above) }
far_flush East box z b h = record { above = omega (arith, ints, b.width.above); below = omega (arith, ints, b.width.below) }
far_flush South box z b h = record { above = omega (arith, ints, b.height.above); below = omega (arith, ints, b.height.below) }
far_flush West box z b h = record { above = omega (arith, ints, h.width.below); below = omega (arith, ints, h.width.above) }

-- an offset on a side, less a part of the port's length
far_offset : (z half length size : ℤ) → IsWithin (pos 0) length (z +ℤ half) → IsWithin (pos 0) size half → length ≤ℤ pos (2 ^ 47) → size ≤ℤ pos (2 ^ 47) → IsFar z
far_offset z half length size on part long short =
    let a = on.above in
    let b = on.below in
    let c = part.above in
    let d = part.below in
    record { above = omega (arith, ints, a, d, short); below = omega (arith, ints, b, c, long) }

far_point : (s : Side) (q : Point) → IsFar (along s q) → IsFar (across s q) → IsFarPoint q
far_point North q a b = record { x = a; y = b }
far_point East q a b = record { x = b; y = a }
far_point South q a b = record { x = a; y = b }
far_point West q a b = record { x = b; y = a }

pub kept_far : (c : Child) (s : Side) (k : ℕ) (q : Point) → IsChild c → k < length c.ports → KeepsPort c s k q → IsFarPoint q
kept_far c s k q child h kept =
    let port = child.ports k h in
    far_point s q
    (⊎_elim
    (λ pinned. subst IsFar (sym (kept.along_kept (true_is (is_pinned c k) pinned))) (far_along s (port_at c k).place port.place))
    (λ free. far_offset _ _ _ _ (kept.on_side (false_is (is_pinned c k) free)) port.half (small_along s c.size child.size) (small_along _ (port_at c k).size port.size))
    (cases_Bool (is_pinned c k)))
    (⊎_elim
    (λ pinned. subst IsFar (sym (kept.across_kept (true_is (is_pinned c k && not c.compound) pinned))) (far_across s (port_at c k).place port.place))
    (λ free. subst IsFar (sym (kept.flush_outside (false_is (is_pinned c k && not c.compound) free))) (far_flush s c.size (port_at c k).size child.size port.size))
    (cases_Bool (is_pinned c k && not c.compound)))
