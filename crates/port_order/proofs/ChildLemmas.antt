-- Bounds on what a child gives its ports.
use Rattle.std.proofs.Common.{◌^◌, ℕ, ℤ, pos, neg_ℤ, ◌+ℤ◌, arith, w64, FitsSigned}
use Rattle.std.proofs.lemmas.Int.{ints}
use Rattle.drawing_types.specs.declared.shape.Point.{Point}
use Rattle.drawing_types.specs.declared.shape.Size.{Size}
use Rattle.drawing_types.specs.declared.shape.Side.{Side}
use Rattle.drawing_types.specs.declared.shape.Side.TheVariants.{North, East, South, West}
use Rattle.elk_doc.specs.PortsKept.{size_along}
use Rattle.elk_doc.specs.Sound.{along}
use Rattle.drawing_types.specs.Ranges.{IsWithin, IsPlaceWithin}
use Rattle.port_order.specs.declared.children.Child.{Child}
use Rattle.port_order.specs.Child.{port_at}
use Rattle.port_order.specs.Conditions.{IsChildPort, IsSmall}

pub along_within : (far : ℕ) (side : Side) (p : Point) → IsPlaceWithin far p → IsWithin (neg_ℤ (pos far)) (pos far) (along side p)
along_within far North p h = h.x
along_within far East p h = h.y
along_within far South p h = h.x
along_within far West p h = h.y

pub size_along_small : (side : Side) (s : Size) → IsSmall s → IsWithin (pos 0) (pos (2 ^ 47)) (size_along side s)
size_along_small North s h = h.width
size_along_small East s h = h.height
size_along_small South s h = h.width
size_along_small West s h = h.height

narrower : (low high most z : ℤ) → IsWithin low high z → IsWithin low most high → IsWithin low most z
narrower low high most z a b = record { above = a.above; below = omega (arith, ints, a.below, b.below) }

pub half_small : (c : Child) (k : ℕ) → IsChildPort c k → IsWithin (pos 0) (pos (2 ^ 47)) (port_at c k).half
half_small c k h = narrower _ _ _ _ h.half (size_along_small _ _ h.size)

-- a coordinate and a length make a sum that a number of 64 bits holds
pub sum_fits : (a b : ℤ) → IsWithin (neg_ℤ (pos (2 ^ 54))) (pos (2 ^ 54)) a → IsWithin (pos 0) (pos (2 ^ 47)) b → FitsSigned w64 (a +ℤ b)
sum_fits a b p q = omega (arith, ints, p.above, p.below, q.above, q.below)

pub small_fits : (b : ℤ) → IsWithin (pos 0) (pos (2 ^ 47)) b → FitsSigned w64 b
small_fits b q = omega (arith, ints, q.above, q.below)

pub far_fits : (a : ℤ) → IsWithin (neg_ℤ (pos (2 ^ 54))) (pos (2 ^ 54)) a → FitsSigned w64 a
far_fits a p = omega (arith, ints, p.above, p.below)
