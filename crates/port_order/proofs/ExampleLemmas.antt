-- Small children in tests, and their spots, meet the conditions.
use Rattle.std.proofs.Common.{◌≡◌, ◌<◌, ◌≤◌, ℕ, zero, suc, ℤ, pos, negsuc, List, [], ◌∷◌, length, get_or, Bool, true, false, arith, refl, sym, rules, ◌≤ℤ◌, ◌∙◌}
use Rattle.std.proofs.lemmas.Int.{ints}
use Rattle.std.specs.Prelude.{◌≢◌, None, Some, IfSome, IsSomeAnd, IsNone, IsFalse, slice_index, ◌&&◌}
use Rattle.drawing_types.specs.declared.shape.Side.{Side}
use Rattle.drawing_types.specs.declared.shape.Side.TheVariants.{North, East, South, West}
use Rattle.elk_doc.specs.declared.document.PortRule.TheVariants.{FixedPos}
use Rattle.elk_doc.specs.declared.document.Direction.{Direction}
use Rattle.elk_doc.specs.declared.document.Direction.TheVariants.{Right, Left, Down, Up}
use Rattle.elk_doc.specs.PortsKept.{size_along}
use Rattle.elk_doc.specs.Sound.{IsOutside}
use Rattle.drawing_types.specs.Ranges.{IsWithin}
use Rattle.port_order.specs.declared.children.ChildPort.{ChildPort}
use Rattle.port_order.specs.declared.children.Child.{Child}
use Rattle.port_order.specs.declared.spots.Spot.{Spot}
use Rattle.port_order.specs.Child.{port_at, no_port, spot_at, is_pinned_spot}
use Rattle.port_order.specs.Conditions.{IsChild, IsChildPort, IsSmall, IsSpot, AreSpots}
use Rattle.port_order.specs.Examples.{IsExamplePort, IsPinnedCorner}
use Rattle.port_order.specs.Places.{HoldsOnce}
use Rattle.port_order.specs.Sides.{given_side}

within : (z low high : ℤ) → low ≤ℤ z → z ≤ℤ high → IsWithin low high z
within z low high a b = record { above = a; below = b }

ten_along : (side : Side) → size_along side (record { width = pos 10; height = pos 10 }) ≡ pos 10
ten_along North = refl
ten_along East = refl
ten_along South = refl
ten_along West = refl

ten_small : IsSmall (record { width = pos 10; height = pos 10 })
ten_small = record { width = within _ _ _ (omega (arith, ints)) (omega (arith, ints)); height = within _ _ _ (omega (arith, ints)) (omega (arith, ints)) }

leaf_small : IsSmall (record { width = pos 30; height = pos 60 })
leaf_small = record { width = within _ _ _ (omega (arith, ints)) (omega (arith, ints)); height = within _ _ _ (omega (arith, ints)) (omega (arith, ints)) }

half_within : (side : Side) → IsWithin (pos 0) (size_along side (record { width = pos 10; height = pos 10 })) (pos 5)
half_within side = rw (ten_along side) (within _ _ _ (omega (arith, ints)) (omega (arith, ints)))

example_port : (c : Child) (k : ℕ) → IsExamplePort (port_at c k) → c.rule ≢ FixedPos → IsChildPort c k
example_port c k p free =
    record { size = rw p.size ten_small; place = p.place; half = rw (p.size, p.half) (half_within _); outside = λ leaf e. absurd (free e) }

pub three_ports : (c : Child) (p q r : ChildPort) → c.ports ≡ p ∷ q ∷ r ∷ [] → c.size ≡ record { width = pos 30; height = pos 60 } → c.rule ≢ FixedPos → IsExamplePort p → IsExamplePort q → IsExamplePort r → IsChild c
three_ports c p q r e size free ep eq er = record { size = rw size leaf_small; ports = λ k h. example_port c k (rw e (at k (rw e at h))) free }
  where
    at : (k : ℕ) → k < 3 → IsExamplePort (get_or (p ∷ q ∷ r ∷ []) k no_port)
    at zero h = ep
    at (suc zero) h = eq
    at (suc (suc zero)) h = er
    at (suc (suc (suc k))) h = absurd (omega (arith, h))

-- spots with the numbers 0 to 3
pub four_spots : (c : Child) (p q r s : Spot) → p.number ≡ 0 → q.number ≡ 1 → r.number ≡ 2 → s.number ≡ 3 → IsSpot c p → IsSpot c q → IsSpot c r → IsSpot c s → AreSpots c (p ∷ q ∷ r ∷ s ∷ [])
four_spots c p q r s ep eq er es cp cq cr cs = record { each = each; differ = λ i j hi hj e. sym (number i hi) ∙ e ∙ number j hj }
  where
    each : (i : ℕ) → i < 4 → IsSpot c (spot_at (p ∷ q ∷ r ∷ s ∷ []) i)
    each zero h = cp
    each (suc zero) h = cq
    each (suc (suc zero)) h = cr
    each (suc (suc (suc zero))) h = cs
    each (suc (suc (suc (suc i)))) h = absurd (omega (arith, h))

    number : (i : ℕ) → i < 4 → (spot_at (p ∷ q ∷ r ∷ s ∷ []) i).number ≡ i
    number zero h = ep
    number (suc zero) h = eq
    number (suc (suc zero)) h = er
    number (suc (suc (suc zero))) h = es
    number (suc (suc (suc (suc i)))) h = absurd (omega (arith, h))

pub port_spot : (c : Child) (s : Spot) (k : ℕ) → s.port ≡ Some k → k < length c.ports → IfSome s.mean (λ m. 1 ≤ m.count) → IsSpot c s
port_spot c s k e h mean = record { port = rw e h; mean = mean; implicit = λ none. no_port_there (rw e at none) }
  where
    no_port_there : IsNone (Some k) → IsFalse (s.leaves && s.enters)
    no_port_there none = absurd (search rules)

pub leaving_end : (c : Child) (s : Spot) → s.port ≡ None → s.enters ≡ false → IfSome s.mean (λ m. 1 ≤ m.count) → IsSpot c s
leaving_end c s e enters mean = record { port = rw e tt; mean = mean; implicit = λ none. rw enters (both s.leaves) }
  where
    both : (b : Bool) → IsFalse (b && false)
    both true = refl
    both false = refl

abbrev three : List ℕ
three = 0 ∷ 2 ∷ 1 ∷ []

pub zero_once : HoldsOnce three 0
zero_once = record { place = 0; inside = omega arith; there = refl; alone = alone }
  where
    alone : (j : ℕ) → j < 3 → slice_index three j ≡ 0 → j ≡ 0
    alone zero h e = refl
    alone (suc zero) h e = absurd (omega (arith, e))
    alone (suc (suc zero)) h e = absurd (omega (arith, e))
    alone (suc (suc (suc j))) h e = absurd (omega (arith, h))

abbrev corner_leaf : Direction → List ChildPort → Child
corner_leaf d ps = record { size = record { width = pos 30; height = pos 60 }; compound = false; rule = FixedPos; direction = d; position = None; ports = ps }

abbrev corner : ChildPort
corner = record { size = record { width = pos 10; height = pos 10 }; place = record { x = negsuc 2; y = negsuc 3 }; half = pos 5; side = None; index = pos 0 }

corner_port : (d : Direction) → IsChildPort (corner_leaf d (corner ∷ [])) 0
corner_port d = record { size = ten_small; place = record { x = within _ _ _ (omega (arith, ints)) (omega (arith, ints)); y = within _ _ _ (omega (arith, ints)) (omega (arith, ints)) }; half = half_within _; outside = λ leaf rule. out d }
  where
    out : (d : Direction) → IsSomeAnd (given_side (corner_leaf d (corner ∷ [])) 0) (IsOutside (record { width = pos 30; height = pos 60 }) corner.place corner.size)
    out Right = omega (arith, ints)
    out Left = omega (arith, ints)
    out Down = omega (arith, ints)
    out Up = omega (arith, ints)

pub corner_child : (d : Direction) (ps : List ChildPort) → ps ≡ corner ∷ [] → IsPinnedCorner (corner_leaf d ps)
corner_child d ps e = rw e (record { child = record { size = leaf_small; ports = ports }; one = refl; rule = refl; leaf = refl })
  where
    ports : (k : ℕ) → k < 1 → IsChildPort (corner_leaf d (corner ∷ [])) k
    ports zero h = corner_port d
    ports (suc k) h = absurd (omega (arith, h))

pub pinned_spot : (c : Child) (s : Spot) (k : ℕ) → c.rule ≡ FixedPos → c.compound ≡ false → s.port ≡ Some k → is_pinned_spot c s ≡ true
pinned_spot c s k rule leaf port = rw (port, rule, leaf) refl
