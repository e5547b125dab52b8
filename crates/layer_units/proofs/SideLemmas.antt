-- The places of ports under a fixed order, and the number of spots on a side, do not depend on means.
use Rattle.std.proofs.Common.{◌≡◌, ◌≢◌, inl, inr, ℕ, ◌<◌, Bool, true, false, List, length, get_or, refl, sym, subst, ap, ◌∙◌, arith}
use Rattle.std.specs.Prelude.{Option, None, Some, IsFalse}
use Rattle.std.proofs.lemmas.Bool.{cases_lt}
use Rattle.drawing_types.specs.declared.shape.Side.{Side}
use Rattle.elk_doc.specs.declared.document.PortRule.{PortRule}
use Rattle.elk_doc.specs.declared.document.PortRule.TheVariants.{FixedOrder}
use Rattle.port_order.specs.declared.children.Child.{Child}
use Rattle.port_order.specs.declared.spots.Spot.{Spot}
use Rattle.port_order.specs.Child.{spot_at, is_pinned, is_pinned_at}
use Rattle.port_order.specs.Sides.{is_forward, side_of}
use Rattle.port_order.specs.Places.{place_in}
use Rattle.port_order.specs.Order.{ComesFirst, FixedFirst, IsOrderOfSide, IsSpreadOn, PortFirst}
use Rattle.port_order.proofs.StrictLemmas.{clockwise_one_way}
use Rattle.layer_units.specs.Sides.{HavePorts, SamePorts, SameSpots}
use Rattle.layer_units.proofs.PlaceLemmas.{Before, Holds, Rises, no_more, places_agree}

-- a port's number
abbrev pub IsPort : Child → ℕ → Type 0
IsPort c n = n < length c.ports

-- one port comes before another from the top or the left
abbrev pub Precedes : Child → Side → ℕ → ℕ → Type 0
Precedes c side m n = PortFirst (is_forward c.direction side) c side m m n n

pub one_way : (c : Child) (side : Side) (m n : ℕ) → Precedes c side m n → Precedes c side n m → ⊥
one_way c side m n = by (is_forward c.direction side)
  where
    by : (forward : Bool) → PortFirst forward c side m m n n → PortFirst forward c side n n m m → ⊥
    by true p q = clockwise_one_way c side m m n n p q
    by false p q = clockwise_one_way c side n n m m p q

module _ (c : Child) (side : Side) (spots : List Spot) (order : List ℕ) (ports : HavePorts c spots) (is : IsOrderOfSide c side spots order) where
  -- a port's number in the order is that of the port's spot, which lies on the side
  port_held : (i : ℕ) → i < length order → IsPort c (get_or order i 0) → IsSpreadOn c side (spot_at spots (get_or order i 0))
  port_held i h port =
      let at = is.spread i h in
      let long = ports.long in
      let same : at.0 ≡ get_or order i 0 = ports.sound.differ at.0 (get_or order i 0) at.1 (omega (arith, port, long)) (at.2 ∙ sym (ports.number_is (get_or order i 0) port)) in
      subst (λ k. IsSpreadOn c side (spot_at spots k)) same at.3

  pub port_there : (n : ℕ) → IsPort c n → IsSpreadOn c side (spot_at spots n) → Holds order n
  port_there n port on =
      let long = ports.long in
      let once = is.once n (omega (arith, port, long)) on in
      (once.place, once.inside, once.there ∙ ports.number_is n port)

  pub port_on : (n : ℕ) → IsPort c n → Holds order n → IsSpreadOn c side (spot_at spots n)
  port_on n port h = subst (λ k. IsSpreadOn c side (spot_at spots k)) h.2 (port_held h.0 h.1 (subst (IsPort c) (sym h.2) port))

  -- what stands before a port under a fixed order is a port that comes first
  first_in : c.rule ≡ FixedOrder → (s t : Spot) (k n : ℕ) → k < length spots → spot_at spots k ≡ s → IsPort c n → t.port ≡ Some n → t.number ≡ n → ComesFirst c.rule c side s t
      → IsPort c s.number × PortFirst (is_forward c.direction side) c side s.number s.number n n
  first_in fixed s t k n h at port is_n number first =
      elim (cases_lt k (length c.ports)) [
        | inl less ↦
            let own : s.port ≡ Some k = ap (λ (x : Spot). x.port) (sym at) ∙ ports.port_is k less in
            let called : s.number ≡ k = ap (λ (x : Spot). x.number) (sym at) ∙ ports.number_is k less in (
              subst (IsPort c) (sym called) less,
              subst (λ m. PortFirst (is_forward c.direction side) c side s.number s.number n m) number
                  (subst (λ m. PortFirst (is_forward c.direction side) c side m s.number n t.number) (sym called) (by_ports (Some k) own)),
            )
        | inr more ↦
            let none : s.port ≡ None = ap (λ (x : Spot). x.port) (sym at) ∙ ports.behind k more h in
            absurd (subst (λ (x : Option ℕ). FixedFirst c side s t x (Some n)) none by_target)
      ]
    where
      by_target : FixedFirst c side s t s.port (Some n)
      by_target = subst (λ (x : Option ℕ). FixedFirst c side s t s.port x) is_n (subst (λ (r : PortRule). ComesFirst r c side s t) fixed first)

      by_ports : (x : Option ℕ) → s.port ≡ x → FixedFirst c side s t x (Some n)
      by_ports x e = subst (λ (y : Option ℕ). FixedFirst c side s t y (Some n)) e by_target

  pub ports_rise : c.rule ≡ FixedOrder → Rises (Before (IsPort c) (Precedes c side)) order
  ports_rise fixed i j less h port =
      let long = ports.long in
      let at = is.spread i (omega (arith, less, h)) in
      let there : get_or order j 0 < length spots = omega (arith, port, long) in
      let first = is.sorted i j at.0 (get_or order j 0) less h at.1 there at.2 (ports.number_is (get_or order j 0) port) in
      subst (λ m. IsPort c m × PortFirst (is_forward c.direction side) c side m m (get_or order j 0) (get_or order j 0)) at.2
      (first_in fixed (spot_at spots at.0) (spot_at spots (get_or order j 0)) at.0 (get_or order j 0) at.1 refl port (ports.port_is (get_or order j 0) port) (ports.number_is (get_or order j 0) port) first)

  -- numbers at two places differ
  pub apart : (i j : ℕ) → i < j → j < length order → get_or order i 0 ≢ get_or order j 0
  apart i j less h e =
      let at = is.spread j h in
      let once = is.once at.0 at.1 at.3 in
      let first = once.alone i (omega (arith, less, h)) (e ∙ sym at.2) in
      let second = once.alone j h (sym at.2) in
      omega (arith, less, first, second)

-- a port that lies on the side of one spot lies there by the other
spread_same : (c : Child) (side : Side) (s t : Spot) → s.port ≡ t.port → side_of c s ≡ side_of c t → IsSpreadOn c side s → IsSpreadOn c side t
spread_same c side s t port same on = record { spread = subst (λ (x : Option ℕ). IsFalse (is_pinned_at c x)) port on.spread; on_side = sym same ∙ on.on_side }

held_too : (c : Child) (side : Side) (s t : List Spot) (p q : List ℕ) → HavePorts c s → HavePorts c t → SamePorts c s t → IsOrderOfSide c side s p → IsOrderOfSide c side t q → (n : ℕ) → IsPort c n → Holds p n → Holds q n
held_too c side s t p q sp tp same op oq n port h =
    port_there c side t q tp oq n port
    (spread_same c side (spot_at s n) (spot_at t n) (sp.port_is n port ∙ sym (tp.port_is n port)) (same n port) (port_on c side s p sp op n port h))

-- under a fixed order a port has one place in all orders of its side
pub port_place_same : (c : Child) (side : Side) (s t : List Spot) (p q : List ℕ) → c.rule ≡ FixedOrder → HavePorts c s → HavePorts c t → SamePorts c s t → IsOrderOfSide c side s p → IsOrderOfSide c side t q
    → (n : ℕ) → IsPort c n → Holds p n → place_in p n ≡ place_in q n
port_place_same c side s t p q fixed sp tp same op oq n port h =
    places_agree (IsPort c) (Precedes c side) (one_way c side) p q (ports_rise c side s p sp op fixed) (ports_rise c side t q tp oq fixed)
    (held_too c side s t p q sp tp same op oq) (held_too c side t s q p tp sp (λ k k_in. sym (same k k_in)) oq op) n port h

all_held : (c : Child) (side : Side) (s t : List Spot) (p q : List ℕ) → SameSpots c s t → IsOrderOfSide c side s p → IsOrderOfSide c side t q → (i : ℕ) → i < length p → Holds q (get_or p i 0)
all_held c side s t p q same op oq i h =
    let at = op.spread i h in
    let many = same.as_many in
    let inside = at.1 in
    let once = oq.once at.0 (omega (arith, inside, many)) (spread_same c side (spot_at s at.0) (spot_at t at.0) (same.port_is at.0 at.1) (same.side_is at.0 at.1) at.3) in
    (once.place, once.inside, once.there ∙ sym (same.number_is at.0 at.1) ∙ at.2)

is_reversed : (c : Child) (s t : List Spot) → SameSpots c s t → SameSpots c t s
is_reversed c s t same =
    let many = same.as_many in
    record {
      as_many = sym same.as_many;
      port_is = λ k h. sym (same.port_is k (omega (arith, h, many)));
      number_is = λ k h. sym (same.number_is k (omega (arith, h, many)));
      side_is = λ k h. sym (same.side_is k (omega (arith, h, many)));
    }

-- the orders of a side are equally long
pub order_long : (c : Child) (side : Side) (s t : List Spot) (p q : List ℕ) → HavePorts c s → HavePorts c t → SameSpots c s t → IsOrderOfSide c side s p → IsOrderOfSide c side t q → length p ≡ length q
order_long c side s t p q sp tp same op oq =
    let up = no_more p q (apart c side s p sp op) (all_held c side s t p q same op oq) in
    let down = no_more q p (apart c side t q tp oq) (all_held c side t s q p (is_reversed c s t same) oq op) in
    omega (arith, up, down)

-- a port that is not pinned is spread on its side
pub spread_port : (c : Child) (side : Side) (spots : List Spot) → HavePorts c spots → (k : ℕ) → IsPort c k → is_pinned c k ≡ false → side_of c (spot_at spots k) ≡ side → IsSpreadOn c side (spot_at spots k)
spread_port c side spots ports k port spread on = record { spread = subst (λ (x : Option ℕ). IsFalse (is_pinned_at c x)) (sym (ports.port_is k port)) spread; on_side = on }
