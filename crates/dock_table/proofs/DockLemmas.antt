-- The places of spots in the orders of their sides, and their docks.
use Rattle.std.proofs.Common.{◌≡◌, ◌≢◌, ℕ, ◌<◌, ◌≤◌, List, length, get_or, Bool, true, false, Option, None, Some, IsFalse, refl, sym, ◌∙◌, ap, subst, arith}
use Rattle.std.specs.List.{All}
use Rattle.std.proofs.lemmas.List.Elements.{All-from_get_or}
use Rattle.drawing_types.specs.declared.shape.Side.{Side}
use Rattle.drawing_types.specs.declared.shape.Side.TheVariants.{North, East, South, West}
use Rattle.elk_layers.specs.Layered.{place_in as row_place}
use Rattle.port_order.specs.declared.children.Child.{Child}
use Rattle.port_order.specs.declared.spots.Spot.{Spot}
use Rattle.port_order.specs.Child.{spot_at, is_pinned, is_pinned_at, is_pinned_spot}
use Rattle.port_order.specs.Sides.{side_of}
use Rattle.port_order.specs.Order.{IsOrderOfSide, IsSpreadOn}
use Rattle.port_order.specs.Places.{HoldsOnce, offset_of, place_in}
use Rattle.port_order.proofs.PlaceLemmas.{place_is}
use Rattle.elk_layers.specs.Places.{IsOnce, NotesFirst}
use Rattle.elk_layers.proofs.OccursLemmas.{length_below, no_repeat_from}
use Rattle.elk_layers.proofs.PlaceLemmas.{place_below, place_reads}
use Rattle.dock_table.specs.Rows.{AreCounted}
use Rattle.dock_table.specs.Sides.{AreFour, HavePlaces, FourOrders, offset_by, order_on}

-- what an order holds, as the numbers of spots of a row
pub in_order : (c : Child) (side : Side) (spots : List Spot) (order : List ℕ) (i : ℕ) → AreCounted spots → IsOrderOfSide c side spots order → i < length order
    → (get_or order i 0 < length spots) × IsSpreadOn c side (spot_at spots (get_or order i 0))
in_order c side spots order i numbered is h =
    let at = is.spread i h in
    let k : ℕ = at.0 in
    let same : at.0 ≡ get_or order i 0 = sym (numbered at.0 at.1) ∙ at.2 in (
      subst (λ n. n < length spots) same at.1,
      subst (λ n. IsSpreadOn c side (spot_at spots n)) same at.3,
    )

pub order_within : (c : Child) (side : Side) (spots : List Spot) (order : List ℕ) → AreCounted spots → IsOrderOfSide c side spots order → All (λ n. n < length spots) order
order_within c side spots order numbered is = All-from_get_or (λ n. n < length spots) order 0 (λ i h. (in_order c side spots order i numbered is h).0)

pub order_once : (c : Child) (side : Side) (spots : List Spot) (order : List ℕ) → AreCounted spots → IsOrderOfSide c side spots order → IsOnce order
order_once c side spots order numbered is i j less h e =
    let at = in_order c side spots order j numbered is h in
    let once = is.once (get_or order j 0) at.0 at.1 in
    let number = numbered (get_or order j 0) at.0 in
    let first = once.alone i (omega (arith, less, h)) (e ∙ sym number) in
    let second = once.alone j h (sym number) in
    omega (arith, less, first, second)

pub order_few : (c : Child) (side : Side) (spots : List Spot) (order : List ℕ) → AreCounted spots → IsOrderOfSide c side spots order → length order ≤ length spots
order_few c side spots order numbered is =
    length_below (length spots) order (no_repeat_from order (order_once c side spots order numbered is))
    (λ m k. subst (λ n. n < length spots) (place_reads m order k) (in_order c side spots order (row_place order m) numbered is (place_below m order k)).0)

-- a number of this side is noted with its place, and those of other sides are kept
noted_by : (c : Child) (side : Side) (spots : List Spot) (order : List ℕ) (k : ℕ) (old new : List ℕ) → AreCounted spots → IsOrderOfSide c side spots order → k < length spots → IsSpreadOn c side (spot_at spots k)
    → NotesFirst old order (length order) new → get_or new k 0 ≡ place_in order k
noted_by c side spots order k old new numbered is h spread notes =
    let once : HoldsOnce order k = subst (HoldsOnce order) (numbered k h) (is.once k h spread) in
    subst (λ n. get_or new n 0 ≡ once.place) once.there (notes.noted once.place once.inside) ∙ sym (place_is order k once)

kept_by : (c : Child) (side other : Side) (spots : List Spot) (order : List ℕ) (k : ℕ) (old new : List ℕ) → AreCounted spots → IsOrderOfSide c other spots order → side_of c (spot_at spots k) ≡ side → side ≢ other
    → NotesFirst old order (length order) new → get_or new k 0 ≡ get_or old k 0
kept_by c side other spots order k old new numbered is on_side differ notes =
    notes.kept k (λ i h e.
    let at = (in_order c other spots order i numbered is h).1 in
    differ (sym on_side ∙ subst (λ n. side_of c (spot_at spots n) ≡ other) e at.on_side))

pub all_noted : (c : Child) (spots : List Spot) (v : FourOrders) (p0 p1 p2 p3 p4 : List ℕ) → AreCounted spots → AreFour c spots v → length p0 ≡ length spots
    → NotesFirst p0 v.north (length v.north) p1 → NotesFirst p1 v.east (length v.east) p2 → NotesFirst p2 v.south (length v.south) p3 → NotesFirst p3 v.west (length v.west) p4 → HavePlaces c spots v p4
all_noted c spots v p0 p1 p2 p3 p4 numbered are long a b d e =
    record {
      as_long = e.as_long ∙ d.as_long ∙ b.as_long ∙ a.as_long ∙ long;
      place_is = λ k h spread. on (side_of c (spot_at spots k)) k h spread refl;
    }
  where
    west_kept : (side : Side) (k : ℕ) → side_of c (spot_at spots k) ≡ side → side ≢ West → get_or p4 k 0 ≡ get_or p3 k 0
    west_kept side k is ne = kept_by c side West spots v.west k p3 p4 numbered (are West) is ne e

    south_kept : (side : Side) (k : ℕ) → side_of c (spot_at spots k) ≡ side → side ≢ South → get_or p3 k 0 ≡ get_or p2 k 0
    south_kept side k is ne = kept_by c side South spots v.south k p2 p3 numbered (are South) is ne d

    east_kept : (side : Side) (k : ℕ) → side_of c (spot_at spots k) ≡ side → side ≢ East → get_or p2 k 0 ≡ get_or p1 k 0
    east_kept side k is ne = kept_by c side East spots v.east k p1 p2 numbered (are East) is ne b

    on : (side : Side) (k : ℕ) → k < length spots → IsFalse (is_pinned_spot c (spot_at spots k)) → side_of c (spot_at spots k) ≡ side → get_or p4 k 0 ≡ place_in (order_on v side) k
    on North k h spread is =
        west_kept North k is (λ bad. absurd cc) ∙ south_kept North k is (λ bad. absurd cc) ∙ east_kept North k is (λ bad. absurd cc)
        ∙ noted_by c North spots v.north k p0 p1 numbered (are North) h (record { spread = spread; on_side = is }) a
    on East k h spread is =
        west_kept East k is (λ bad. absurd cc) ∙ south_kept East k is (λ bad. absurd cc)
        ∙ noted_by c East spots v.east k p1 p2 numbered (are East) h (record { spread = spread; on_side = is }) b
    on South k h spread is =
        west_kept South k is (λ bad. absurd cc)
        ∙ noted_by c South spots v.south k p2 p3 numbered (are South) h (record { spread = spread; on_side = is }) d
    on West k h spread is = noted_by c West spots v.west k p3 p4 numbered (are West) h (record { spread = spread; on_side = is }) e

-- ---- offsets

offset_bool : (c : Child) (side : Side) (b : Bool) (k : ℕ) (order : List ℕ) (number count place : ℕ) → count ≡ length order → (b ≡ false → place ≡ place_in order number)
    → offset_by c side b (Some k) count place ≡ offset_of c side b (Some k) order number
offset_bool c side true k order number count place long at = refl
offset_bool c side false k order number count place long at =
    ap (λ m. offset_by c side false None m place) long ∙ ap (λ m. offset_by c side false None (length order) m) (at refl)

pub offset_is : (c : Child) (side : Side) (port : Option ℕ) (order : List ℕ) (number count place : ℕ) → count ≡ length order → (IsFalse (is_pinned_at c port) → place ≡ place_in order number)
    → offset_by c side (is_pinned_at c port) port count place ≡ offset_of c side (is_pinned_at c port) port order number
offset_is c side None order number count place long at =
    ap (λ m. offset_by c side false None m place) long ∙ ap (λ m. offset_by c side false None (length order) m) (at refl)
offset_is c side (Some k) order number count place long at = offset_bool c side (is_pinned c k) k order number count place long at
