-- Nets and routes that are moved up together stay free.
use Rattle.std.proofs.Common.{◌≡◌, ◌≢◌, ◌↔◌, ⊎_elim, inl, inr, ℕ, ◌+◌, ◌<◌, List, map, length, ℤ, pos, ◌+ℤ◌, ◌-ℤ◌, ◌≤ℤ◌, ◌<ℤ◌, arith, refl, sym, ◌∙◌, ap, ap₂, subst}
use Rattle.std.proofs.lemmas.Int.{ints, clamps}
use Rattle.std.proofs.lemmas.List.{get_or-map, length-map}
use Rattle.std.specs.Int.{int_min, int_max}
use Rattle.net_routes.specs.declared.Pin.{Pin}
use Rattle.net_routes.specs.declared.Net.{Net}
use Rattle.net_routes.specs.declared.NetRoute.{NetRoute}
use Rattle.net_routes.specs.declared.NetRoute.TheVariants.{Straight, One, Two}
use Rattle.net_routes.specs.Pieces.{Corner, corner, corners, corner_at, net_at, route_at, HorizontalOverlap, UprightOverlap, Overlap, RoutesOverlap, left_border}
use Rattle.net_routes.specs.GapFree.{HasPin, CommonPin, IsStraightNet, StandsIn, IsAtHeight, IsNearPins, IsFresh, GapFree}
use Rattle.net_routes.specs.Moved.{moved_pin, moved_net, moved_route}

-- numbers

pub same_height : (a b y : ℤ) → a -ℤ y ≡ b -ℤ y → a ≡ b
same_height a b y e = omega (arith, ints, e)

pub less_min : (a b z y : ℤ) → int_min a b ≤ℤ z → int_min (a -ℤ y) (b -ℤ y) ≤ℤ (z -ℤ y)
less_min a b z y h = omega (arith, ints, clamps, h)

less_max : (a b z y n : ℤ) → z ≤ℤ (int_max a b +ℤ n) → (z -ℤ y) ≤ℤ (int_max (a -ℤ y) (b -ℤ y) +ℤ n)
less_max a b z y n h = omega (arith, ints, clamps, h)

pub min_moves : (a b y : ℤ) → int_min (a -ℤ y) (b -ℤ y) ≡ int_min a b -ℤ y
min_moves a b y = omega (arith, ints, clamps)

pub max_moves : (a b y : ℤ) → int_max (a -ℤ y) (b -ℤ y) ≡ int_max a b -ℤ y
max_moves a b y = omega (arith, ints, clamps)

less_back : (a b y : ℤ) → (a -ℤ y) <ℤ (b -ℤ y) → a <ℤ b
less_back a b y h = omega (arith, ints, h)

-- an overlap of moved heights is one of the heights
over_back : (a b c d y : ℤ)
    → int_max (int_min (a -ℤ y) (b -ℤ y)) (int_min (c -ℤ y) (d -ℤ y)) <ℤ int_min (int_max (a -ℤ y) (b -ℤ y)) (int_max (c -ℤ y) (d -ℤ y))
    → int_max (int_min a b) (int_min c d) <ℤ int_min (int_max a b) (int_max c d)
over_back a b c d y h =
    let k : int_max (int_min a b -ℤ y) (int_min c d -ℤ y) <ℤ int_min (int_max a b -ℤ y) (int_max c d -ℤ y) =
    rw (min_moves a b y, min_moves c d y, max_moves a b y, max_moves c d y) at h in
    let m : (int_max (int_min a b) (int_min c d) -ℤ y) <ℤ (int_min (int_max a b) (int_max c d) -ℤ y) =
    rw (max_moves (int_min a b) (int_min c d) y, min_moves (int_max a b) (int_max c d) y) at k in
    less_back _ _ y m

-- pins

pub has_pin : (y : ℤ) (n : Net) (p : Pin) → HasPin n p → HasPin (moved_net y n) (moved_pin y p)
has_pin y n p h = ⊎_elim (λ e. inl (ap (moved_pin y) e)) (λ e. inr (ap (moved_pin y) e)) h

common_pin : (y : ℤ) (m n : Net) → CommonPin m n → CommonPin (moved_net y m) (moved_net y n)
common_pin y m n c =
    record { pin = moved_pin y c.pin; in_first = has_pin y m c.pin c.in_first; in_second = has_pin y n c.pin c.in_second }

-- routes

stands_back : (y : ℤ) (r : NetRoute) (s : ℕ) → StandsIn (moved_route y r) s → StandsIn r s
stands_back y Straight s h = h
stands_back y (One t) s h = h
stands_back y (Two t k u) s h = h

stands_too : (y : ℤ) (r : NetRoute) (s : ℕ) → StandsIn r s → StandsIn (moved_route y r) s
stands_too y Straight s h = h
stands_too y (One t) s h = h
stands_too y (Two t k u) s h = h

straight_back : (y : ℤ) (r : NetRoute) → moved_route y r ≡ Straight → r ≡ Straight
straight_back y Straight e = refl
straight_back y (One t) e = absurd cc
straight_back y (Two t k u) e = absurd cc

-- the height between the slots before it was moved
pub record IsMovedFrom (y : ℤ) (r : NetRoute) (s : ℕ) (h : ℤ) (t : ℕ) : Type 0 where
  pub height : ℤ
  pub is : r ≡ Two s height t
  pub moves : h ≡ height -ℤ y

pub two_back : (y : ℤ) (r : NetRoute) (s : ℕ) (h : ℤ) (t : ℕ) → moved_route y r ≡ Two s h t → IsMovedFrom y r s h t
two_back y Straight s h t e = absurd cc
two_back y (One u) s h t e = absurd cc
two_back y (Two u k v) s h t e =
    record { height = k; is = ap₂ (λ (a b : ℕ). Two a k b) (first_is e) (second_is e); moves = sym (height_is e) }
  where
    first : NetRoute → ℕ
    first Straight = 0
    first (One a) = 0
    first (Two a b c) = a

    second : NetRoute → ℕ
    second Straight = 0
    second (One a) = 0
    second (Two a b c) = c

    height : NetRoute → ℤ
    height Straight = pos 0
    height (One a) = pos 0
    height (Two a b c) = b

    first_is : Two u (k -ℤ y) v ≡ Two s h t → u ≡ s
    first_is e = ap first e

    second_is : Two u (k -ℤ y) v ≡ Two s h t → v ≡ t
    second_is e = ap second e

    height_is : Two u (k -ℤ y) v ≡ Two s h t → k -ℤ y ≡ h
    height_is e = ap height e

-- corners

abbrev moved_corner : ℤ → Corner → Corner
moved_corner y c = corner c.at (c.height -ℤ y)

corners_move : (y : ℤ) (n : Net) (r : NetRoute) → corners (moved_net y n) (moved_route y r) ≡ map (moved_corner y) (corners n r)
corners_move y n Straight = refl
corners_move y n (One s) = refl
corners_move y n (Two s h t) = refl

overlap_back : (y : ℤ) (count : ℕ) (a b c d : Corner) → Overlap count (moved_corner y a) (moved_corner y b) (moved_corner y c) (moved_corner y d) → Overlap count a b c d
overlap_back y count a b c d o =
    ⊎_elim
    (λ (v : HorizontalOverlap count (moved_corner y a) (moved_corner y b) (moved_corner y c) (moved_corner y d)). inl (record {
      first = same_height a.height b.height y v.first;
      second = same_height c.height d.height y v.second;
      same = same_height a.height c.height y v.same;
      over = v.over;
    }))
    (λ (v : UprightOverlap (moved_corner y a) (moved_corner y b) (moved_corner y c) (moved_corner y d)). inr (record {
      in_slot = v.in_slot;
      a_there = v.a_there;
      b_there = v.b_there;
      c_there = v.c_there;
      d_there = v.d_there;
      over = over_back a.height b.height c.height d.height y v.over;
    }))
    o

routes_overlap_back : (y : ℤ) (count : ℕ) (cs ds : List Corner) → RoutesOverlap count (map (moved_corner y) cs) (map (moved_corner y) ds) → RoutesOverlap count cs ds
routes_overlap_back y count cs ds o =
    let none : Corner = corner left_border (pos 0) in
    let lc = length-map cs (moved_corner y) in
    let ld = length-map ds (moved_corner y) in
    let hi = o.i_in in
    let hj = o.j_in in
    let i_in : o.i + 1 < length cs = omega (arith, lc, hi) in
    let j_in : o.j + 1 < length ds = omega (arith, ld, hj) in
    let at : (xs : List Corner) (i : ℕ) → i < length xs → corner_at (map (moved_corner y) xs) i ≡ moved_corner y (corner_at xs i) =
    λ xs i h. get_or-map (moved_corner y) xs i none none h in
    record {
      i = o.i;
      j = o.j;
      i_in = i_in;
      j_in = j_in;
      over = overlap_back y count (corner_at cs o.i) (corner_at cs (o.i + 1)) (corner_at ds o.j) (corner_at ds (o.j + 1))
          (rw (sym (at cs o.i (omega (arith, i_in))), sym (at cs (o.i + 1) i_in), sym (at ds o.j (omega (arith, j_in))), sym (at ds (o.j + 1) j_in)) o.over);
    }

pub net_moves : (y : ℤ) (nets : List Net) (k : ℕ) → k < length nets → net_at (map (moved_net y) nets) k ≡ moved_net y (net_at nets k)
net_moves y nets k h = get_or-map (moved_net y) nets k _ _ h

module _ (y : ℤ) (nets : List Net) (count : ℕ) (routes : List NetRoute) (free : GapFree nets count routes) where
  abbrev nets' : List Net
  nets' = map (moved_net y) nets

  abbrev routes' : List NetRoute
  routes' = map (moved_route y) routes

  many_nets : length nets' ≡ length nets
  many_nets = length-map nets (moved_net y)

  many_routes : length routes' ≡ length nets
  many_routes = length-map routes (moved_route y) ∙ free.as_many

  net_is : (k : ℕ) → k < length nets → net_at nets' k ≡ moved_net y (net_at nets k)
  net_is = net_moves y nets

  route_is : (k : ℕ) → k < length nets → route_at routes' k ≡ moved_route y (route_at routes k)
  route_is k h = let m = free.as_many in get_or-map (moved_route y) routes k _ _ (omega (arith, h, m))

  inside : (k : ℕ) → k < length nets' → k < length nets
  inside k h = let m = many_nets in omega (arith, h, m)

  at_height_back : (j : ℕ) (h : ℤ) → j < length nets → IsAtHeight (net_at nets' j) (h -ℤ y) → IsAtHeight (net_at nets j) h
  at_height_back j h hj at =
      let here : IsAtHeight (moved_net y (net_at nets j)) (h -ℤ y) = subst (λ n. IsAtHeight n (h -ℤ y)) (net_is j hj) at in
      ⊎_elim (λ e. inl (same_height (net_at nets j).a.height h y e)) (λ e. inr (same_height (net_at nets j).b.height h y e)) here

  near_moves : (h : ℤ) → IsNearPins nets h → IsNearPins nets' (h -ℤ y)
  near_moves h near =
      let m = many_nets in
      let hi = near.i_in in
      let hj = near.j_in in
      let low = less_min (net_at nets near.i).a.height (net_at nets near.i).b.height h y near.low in
      let high = less_max (net_at nets near.j).a.height (net_at nets near.j).b.height h y (pos (length nets)) near.high in
      record {
        i = near.i;
        j = near.j;
        i_in = omega (arith, hi, m);
        j_in = omega (arith, hj, m);
        low = subst (λ n. int_min n.a.height n.b.height ≤ℤ (h -ℤ y)) (sym (net_is near.i hi)) low;
        high = subst (λ k. (h -ℤ y) ≤ℤ (int_max (net_at nets' near.j).a.height (net_at nets' near.j).b.height +ℤ pos k)) (sym m)
            (subst (λ n. (h -ℤ y) ≤ℤ (int_max n.a.height n.b.height +ℤ pos (length nets))) (sym (net_is near.j hj)) high);
      }

  fresh_moves : (k s : ℕ) (h : ℤ) (t : ℕ) → k < length nets' → route_at routes' k ≡ Two s h t → IsFresh nets' routes' k s h t
  fresh_moves k s h t hk e =
      let hk' = inside k hk in
      let from = two_back y (route_at routes k) s h t (sym (route_is k hk') ∙ e) in
      let was = free.fresh k s from.height t hk' from.is in
      record {
        differ = was.differ;
        no_pin = λ j hj at. was.no_pin j (inside j hj) (at_height_back j from.height (inside j hj) (subst (IsAtHeight (net_at nets' j)) from.moves at));
        no_other = λ j s' h' t' hj ne e' same.
            let hj' = inside j hj in
            let other = two_back y (route_at routes j) s' h' t' (sym (route_is j hj') ∙ e') in
            was.no_other j s' other.height t' hj' ne other.is (same_height from.height other.height y (sym from.moves ∙ same ∙ other.moves));
        near = subst (IsNearPins nets') (sym from.moves) (near_moves from.height was.near);
      }

  straight_moves : (k : ℕ) → k < length nets' → (route_at routes' k ≡ Straight) ↔ IsStraightNet (net_at nets' k)
  straight_moves k h =
      let h' = inside k h in
      let was = free.straight k h' in (
        λ e.
            let v = was.0 (straight_back y (route_at routes k) (sym (route_is k h') ∙ e)) in
            subst IsStraightNet (sym (net_is k h')) (v.0, ap (λ z. z -ℤ y) v.1),
        λ v.
            let here : IsStraightNet (moved_net y (net_at nets k)) = subst IsStraightNet (net_is k h') v in
            route_is k h' ∙ ap (moved_route y) (was.1 (here.0, same_height (net_at nets k).a.height (net_at nets k).b.height y here.1)),
      )

  free_moves : (j k : ℕ) → j < length nets' → k < length nets' → j ≢ k
      → RoutesOverlap count (corners (net_at nets' j) (route_at routes' j)) (corners (net_at nets' k) (route_at routes' k))
      → CommonPin (net_at nets' j) (net_at nets' k)
  free_moves j k hj hk ne o =
      let hj' = inside j hj in
      let hk' = inside k hk in
      let was : (i : ℕ) → i < length nets → corners (net_at nets' i) (route_at routes' i) ≡ map (moved_corner y) (corners (net_at nets i) (route_at routes i)) =
      λ i h. ap₂ corners (net_is i h) (route_is i h) ∙ corners_move y (net_at nets i) (route_at routes i) in
      let back = routes_overlap_back y count (corners (net_at nets j) (route_at routes j)) (corners (net_at nets k) (route_at routes k))
      (rw (sym (was j hj'), sym (was k hk')) o) in
      let common = common_pin y (net_at nets j) (net_at nets k) (free.free j k hj' hk' ne back) in
      rw (net_is j hj', net_is k hk') common

  pub gap_moves : GapFree nets' count routes'
  gap_moves =
      record {
        as_many = many_routes ∙ sym many_nets;
        slots_in = λ k s h at. free.slots_in k s (inside k h) (stands_back y (route_at routes k) s (subst (λ r. StandsIn r s) (route_is k (inside k h)) at));
        slots_used = λ s h.
            let u = free.slots_used s h in
            let m = many_nets in
            let hu = u.1 in
            (u.0, omega (arith, hu, m), subst (λ r. StandsIn r s) (sym (route_is u.0 hu)) (stands_too y (route_at routes u.0) s u.2));
        straight = straight_moves;
        fresh = fresh_moves;
        free = free_moves;
      }
