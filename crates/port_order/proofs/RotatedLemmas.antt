-- Sides, orders and offsets of the document, in the frame of a direction.
use Rattle.std.proofs.Common.{◌≡◌, ◌<◌, ◌+◌, ◌-◌, ℕ, ℤ, pos, ◌+ℤ◌, ◌-ℤ◌, ◌<ℤ◌, neg_ℤ, Bool, true, false, arith, refl}
use Rattle.std.proofs.lemmas.Int.{ints}
use Rattle.std.specs.Prelude.{None, Some, int_lt, if◌then◌else◌, ◌↔◌}
use Rattle.std.specs.Bool.{one_answer}
use Rattle.std.proofs.lemmas.Bool.Decides.{Decides-int_eq}
use Rattle.std.specs.Ordering.{int_eq}
use Rattle.std.specs.Option.{option_map}
use Rattle.drawing_types.specs.declared.shape.Point.{Point}
use Rattle.drawing_types.specs.declared.shape.Size.{Size}
use Rattle.drawing_types.specs.declared.shape.Side.{Side}
use Rattle.drawing_types.specs.declared.shape.Side.TheVariants.{North, East, South, West}
use Rattle.elk_doc.specs.declared.document.Direction.{Direction}
use Rattle.elk_doc.specs.declared.document.Direction.TheVariants.{Right, Left, Down, Up}
use Rattle.elk_doc.specs.Sides.{side_by_place}
use Rattle.elk_doc.specs.Sound.{along}
use Rattle.elk_doc.specs.PortsKept.{size_along, clockwise, counted}
use Rattle.drawing_laws.specs.Rotating.{rotated_side}
use Rattle.port_order.specs.Sides.{is_mirrored, is_forward, side_of_place}
use Rattle.port_order.specs.Places.{spread_at, rotated_spread}
use Rattle.port_order.specs.Rotated.{framed_size, framed_point, framed_place, rotated_place, DirectionsRotate}

-- the first of eight tests that holds names a side, and a function turns it
first_rotated : (t : Side → Side) (a b c d e f g h : Bool)
    → (if a then Some (t West) else (if b then Some (t East) else (if c then Some (t North) else (if d then Some (t South) else
    (if e then Some (t West) else (if f then Some (t East) else (if g then Some (t North) else (if h then Some (t South) else None))))))))
    ≡ option_map t (if a then Some West else (if b then Some East else (if c then Some North else (if d then Some South else
    (if e then Some West else (if f then Some East else (if g then Some North else (if h then Some South else None))))))))
first_rotated t true b c d e f g h = refl
first_rotated t false true c d e f g h = refl
first_rotated t false false true d e f g h = refl
first_rotated t false false false true e f g h = refl
first_rotated t false false false false true f g h = refl
first_rotated t false false false false false true g h = refl
first_rotated t false false false false false false true h = refl
first_rotated t false false false false false false false true = refl
first_rotated t false false false false false false false false = refl

-- the same for the tests of a port's place, where they are replaced by equal ones
side_by_tests : (t : Side → Side) (box : Size) (place : Point) (size : Size) (a b c d e f g h : Bool)
    → a ≡ int_lt place.x (pos 0) → b ≡ int_lt box.width (place.x +ℤ size.width) → c ≡ int_lt place.y (pos 0) → d ≡ int_lt box.height (place.y +ℤ size.height)
    → e ≡ int_eq place.x (pos 0) → f ≡ int_eq (place.x +ℤ size.width) box.width → g ≡ int_eq place.y (pos 0) → h ≡ int_eq (place.y +ℤ size.height) box.height
    → (if a then Some (t West) else (if b then Some (t East) else (if c then Some (t North) else (if d then Some (t South) else
    (if e then Some (t West) else (if f then Some (t East) else (if g then Some (t North) else (if h then Some (t South) else None))))))))
    ≡ option_map t (side_by_place box place size)
side_by_tests t box place size a b c d e f g h ea eb ec ed ee ef eg eh =
    rw (ea, eb, ec, ed, ee, ef, eg, eh)
    (first_rotated t (int_lt place.x (pos 0)) (int_lt box.width (place.x +ℤ size.width)) (int_lt place.y (pos 0)) (int_lt box.height (place.y +ℤ size.height))
    (int_eq place.x (pos 0)) (int_eq (place.x +ℤ size.width) box.width) (int_eq place.y (pos 0)) (int_eq (place.y +ℤ size.height) box.height))

same_test : (p q : Bool) → (p ≡ true → q ≡ false → ⊥) → (q ≡ true → p ≡ false → ⊥) → p ≡ q
same_test true true f g = refl
same_test true false f g = absurd (f refl refl)
same_test false true f g = absurd (g refl refl)
same_test false false f g = refl

-- a mirrored port sticks out on the other side, and touches it
out_near : (w x s : ℤ) → int_lt w ((w -ℤ (x +ℤ s)) +ℤ s) ≡ int_lt x (pos 0)
out_near w x s = same_test _ _ (λ p q. absurd (omega (arith, ints, p, q))) (λ q p. absurd (omega (arith, ints, p, q)))

out_far : (w x s : ℤ) → int_lt (w -ℤ (x +ℤ s)) (pos 0) ≡ int_lt w (x +ℤ s)
out_far w x s = same_test _ _ (λ p q. absurd (omega (arith, ints, p, q))) (λ q p. absurd (omega (arith, ints, p, q)))

-- two tests whose equations follow from one another
same_equal : (a b c d : ℤ) → (a ≡ b → c ≡ d) → (c ≡ d → a ≡ b) → int_eq a b ≡ int_eq c d
same_equal a b c d to from =
    let first = Decides-int_eq a b in
    one_answer (int_eq a b) (int_eq c d) ((λ h. to (first.0 h)), (λ e. first.1 (from e))) (Decides-int_eq c d)

at_near : (w x s : ℤ) → int_eq ((w -ℤ (x +ℤ s)) +ℤ s) w ≡ int_eq x (pos 0)
at_near w x s = same_equal ((w -ℤ (x +ℤ s)) +ℤ s) w x (pos 0) (λ e. omega (arith, ints, e)) (λ e. omega (arith, ints, e))

at_far : (w x s : ℤ) → int_eq (w -ℤ (x +ℤ s)) (pos 0) ≡ int_eq (x +ℤ s) w
at_far w x s = same_equal (w -ℤ (x +ℤ s)) (pos 0) (x +ℤ s) w (λ e. omega (arith, ints, e)) (λ e. omega (arith, ints, e))

side_rotated : (d : Direction) (box : Size) (place : Point) (size : Size) → side_of_place d (framed_size d box) (framed_place d box place size) (framed_size d size) ≡ option_map (rotated_side d) (side_by_place box place size)
side_rotated Right box place size = side_by_tests (rotated_side Right) box place size _ _ _ _ _ _ _ _ refl refl refl refl refl refl refl refl
side_rotated Left box place size =
    side_by_tests (rotated_side Left) box place size _ _ _ _ _ _ _ _ (out_near box.width place.x size.width) (out_far box.width place.x size.width) refl refl
    (at_near box.width place.x size.width) (at_far box.width place.x size.width) refl refl
side_rotated Down box place size = side_by_tests (rotated_side Down) box place size _ _ _ _ _ _ _ _ refl refl refl refl refl refl refl refl
side_rotated Up box place size =
    side_by_tests (rotated_side Up) box place size _ _ _ _ _ _ _ _ refl refl (out_near box.height place.y size.height) (out_far box.height place.y size.height)
    refl refl (at_near box.height place.y size.height) (at_far box.height place.y size.height)

plain : (a b : ℤ) → (a <ℤ b) ↔ (a <ℤ b)
plain a b = (λ h. h, λ h. h)

-- a mirrored coordinate, counted the other way
mirrored : (w a b : ℤ) → (a <ℤ b) ↔ (neg_ℤ (w -ℤ a) <ℤ neg_ℤ (w -ℤ b))
mirrored w a b = (λ h. omega (arith, ints, h), λ h. omega (arith, ints, h))

mirrored_back : (w a b : ℤ) → (neg_ℤ a <ℤ neg_ℤ b) ↔ ((w -ℤ a) <ℤ (w -ℤ b))
mirrored_back w a b = (λ h. omega (arith, ints, h), λ h. omega (arith, ints, h))

clockwise_rotated : (d : Direction) (side : Side) (box : Size) (p q : Point)
    → (clockwise side (along side p) <ℤ clockwise side (along side q))
    ↔ (counted (is_forward d (rotated_side d side)) (along (rotated_side d side) (framed_point d box p)) <ℤ counted (is_forward d (rotated_side d side)) (along (rotated_side d side) (framed_point d box q)))
clockwise_rotated Right North box p q = plain p.x q.x
clockwise_rotated Right East box p q = plain p.y q.y
clockwise_rotated Right South box p q = plain (neg_ℤ p.x) (neg_ℤ q.x)
clockwise_rotated Right West box p q = plain (neg_ℤ p.y) (neg_ℤ q.y)
clockwise_rotated Left North box p q = mirrored box.width p.x q.x
clockwise_rotated Left East box p q = plain p.y q.y
clockwise_rotated Left South box p q = mirrored_back box.width p.x q.x
clockwise_rotated Left West box p q = plain (neg_ℤ p.y) (neg_ℤ q.y)
clockwise_rotated Down North box p q = plain p.x q.x
clockwise_rotated Down East box p q = plain p.y q.y
clockwise_rotated Down South box p q = plain (neg_ℤ p.x) (neg_ℤ q.x)
clockwise_rotated Down West box p q = plain (neg_ℤ p.y) (neg_ℤ q.y)
clockwise_rotated Up North box p q = plain p.x q.x
clockwise_rotated Up East box p q = mirrored box.height p.y q.y
clockwise_rotated Up South box p q = plain (neg_ℤ p.x) (neg_ℤ q.x)
clockwise_rotated Up West box p q = mirrored_back box.height p.y q.y

-- counted and rounded from the other end
spread_mirrored : (len z : ℤ) (k i : ℕ) → i < k → z ≡ spread_at len k i → len -ℤ z ≡ rotated_spread true len k (k - (i + 1))
spread_mirrored len z k i h e =
    let back : k - (k - (i + 1) + 1) ≡ i = omega (arith, h) in
    rw (back, e) refl

spread_rotated : (d : Direction) (side : Side) (box : Size) (k i : ℕ) (p : Point) → i < k → along side p ≡ spread_at (size_along side box) k i
    → along (rotated_side d side) (framed_point d box p) ≡ rotated_spread (is_mirrored d (rotated_side d side)) (size_along (rotated_side d side) (framed_size d box)) k (rotated_place (is_mirrored d (rotated_side d side)) k i)
spread_rotated Right North box k i p h e = e
spread_rotated Right East box k i p h e = e
spread_rotated Right South box k i p h e = e
spread_rotated Right West box k i p h e = e
spread_rotated Left North box k i p h e = spread_mirrored box.width p.x k i h e
spread_rotated Left East box k i p h e = e
spread_rotated Left South box k i p h e = spread_mirrored box.width p.x k i h e
spread_rotated Left West box k i p h e = e
spread_rotated Down North box k i p h e = e
spread_rotated Down East box k i p h e = e
spread_rotated Down South box k i p h e = e
spread_rotated Down West box k i p h e = e
spread_rotated Up North box k i p h e = e
spread_rotated Up East box k i p h e = spread_mirrored box.height p.y k i h e
spread_rotated Up South box k i p h e = e
spread_rotated Up West box k i p h e = spread_mirrored box.height p.y k i h e

pub directions_rotate : DirectionsRotate
directions_rotate = record { side = side_rotated; clockwise = clockwise_rotated; spread = spread_rotated }
