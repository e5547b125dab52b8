-- The places of ports, noted by number from the orders of the west and the east.
use Rattle.std.proofs.Common.{◌≡◌, ◌≢◌, ◌⊎◌, inl, inr, ⊎_elim, ℕ, zero, suc, ◌<◌, ◌≤◌, List, [], ◌∷◌, map, length, get_or, sym, subst, ap, ◌∙◌, arith}
use Rattle.std.specs.List.{All, filter}
use Rattle.std.proofs.lemmas.Bool.{cases_eq, cases_lt}
use Rattle.std.proofs.lemmas.List.{get_or-map, get_or_past, length-map}
use Rattle.drawing_types.specs.declared.shape.Side.{Side}
use Rattle.drawing_types.specs.declared.shape.Side.TheVariants.{East, West}
use Rattle.elk_doc.specs.declared.document.PortRule.TheVariants.{FixedOrder}
use Rattle.port_order.specs.declared.children.Child.{Child}
use Rattle.port_order.specs.declared.spots.Spot.{Spot}
use Rattle.port_order.specs.Child.{no_spot, spot_at}
use Rattle.port_order.specs.Sides.{side_of}
use Rattle.port_order.specs.Order.{IsOrderOfSide}
use Rattle.port_order.specs.Places.{HoldsOnce, place_in}
use Rattle.port_order.proofs.PlaceLemmas.{place_is}
use Rattle.elk_layers.specs.Places.{IsOnce, NotesFirst}
use Rattle.dock_table.specs.Rows.{AreCounted}
use Rattle.dock_table.proofs.DockLemmas.{in_order, order_few, order_once, order_within}
use Rattle.level_nets.proofs.ListLemmas.{filter_short}
use Rattle.layer_units.specs.declared.ports.PortAt.{PortAt}
use Rattle.layer_units.specs.Sides.{HavePorts, SamePorts}
use Rattle.layer_units.specs.Ports.{AreBefore, AreOrdered, ArePortSpots, comes_before, port_at}
use Rattle.layer_units.proofs.PlaceLemmas.{Holds}
use Rattle.layer_units.proofs.AgreeLemmas.{fixed_spread}
use Rattle.layer_units.proofs.SideLemmas.{port_place_same, port_there, spread_port}

held_or : (xs : List ℕ) (n : ℕ) → Holds xs n ⊎ ((i : ℕ) → i < length xs → get_or xs i 0 ≢ n)
held_or [] n = inr (λ i h. absurd (omega (arith, h)))
held_or (x ∷ xs) n =
    elim (cases_eq x n) [
      | inl same ↦ inl (0, omega arith, same)
      | inr differ ↦ ⊎_elim (λ (h : Holds xs n). inl (suc h.0, omega (arith, h.1), h.2)) (λ none. inr (apart differ none)) (held_or xs n)
    ]
  where
    apart : x ≢ n → ((i : ℕ) → i < length xs → get_or xs i 0 ≢ n) → (i : ℕ) → i < length (x ∷ xs) → get_or (x ∷ xs) i 0 ≢ n
    apart differ none zero h e = differ e
    apart differ none (suc i) h e = none i (omega (arith, h)) e

-- noted numbers are small
noted_few : (old order new : List ℕ) (bound : ℕ) → length order ≤ bound → ((k : ℕ) → get_or old k 0 ≤ bound) → NotesFirst old order (length order) new → (k : ℕ) → get_or new k 0 ≤ bound
noted_few old order new bound short few notes k =
    ⊎_elim
    (λ (h : Holds order k). let at : get_or new k 0 ≡ h.0 = subst (λ n. get_or new n 0 ≡ h.0) h.2 (notes.noted h.0 h.1) in let inside = h.1 in omega (arith, at, inside, short))
    (λ none. let same = notes.kept k none in let low = few k in omega (arith, same, low))
    (held_or order k)

module _ (c : Child) (spots : List Spot) (are : ArePortSpots c spots) where
  pub numbered : AreCounted spots
  numbered k h = let many = are.as_many in are.ports.number_is k (omega (arith, h, many))

  pub within : (side : Side) (order old : List ℕ) → IsOrderOfSide c side spots order → length old ≡ length spots → All (λ n. n < length old) order
  within side order old is many = subst (λ m. All (λ n. n < m) order) (sym many) (order_within c side spots order numbered is)

  pub once : (side : Side) (order : List ℕ) → IsOrderOfSide c side spots order → IsOnce order
  once side order is = order_once c side spots order numbered is

  pub short : (side : Side) (order : List ℕ) → IsOrderOfSide c side spots order → length order ≤ 65536
  short side order is = let few = order_few c side spots order numbered is in let many = are.as_many in let most = are.few in omega (arith, few, many, most)

  noted : (side : Side) (order old new : List ℕ) (k : ℕ) → IsOrderOfSide c side spots order → c.rule ≡ FixedOrder → k < length spots → side_of c (spot_at spots k) ≡ side
      → NotesFirst old order (length order) new → get_or new k 0 ≡ place_in order k
  noted side order old new k is fixed h on notes =
      let once : HoldsOnce order k = subst (HoldsOnce order) (numbered k h) (is.once k h (spread_port c side spots are.ports k (let many = are.as_many in omega (arith, h, many)) (fixed_spread c k fixed) on)) in
      subst (λ n. get_or new n 0 ≡ once.place) once.there (notes.noted once.place once.inside) ∙ sym (place_is order k once)

  kept : (side other : Side) (order old new : List ℕ) (k : ℕ) → IsOrderOfSide c other spots order → side_of c (spot_at spots k) ≡ side → side ≢ other → NotesFirst old order (length order) new → get_or new k 0 ≡ get_or old k 0
  kept side other order old new k is on differ notes =
      notes.kept k (λ i h e.
      let at = (in_order c other spots order i numbered is h).1 in
      differ (sym on ∙ subst (λ n. side_of c (spot_at spots n) ≡ other) e at.on_side))

  module _ (west east p0 p1 p2 : List ℕ) (in_west : IsOrderOfSide c West spots west) (in_east : IsOrderOfSide c East spots east)
      (many : length p0 ≡ length spots) (few : (k : ℕ) → get_or p0 k 0 ≤ length spots)
      (first : NotesFirst p0 west (length west) p1) (second : NotesFirst p1 east (length east) p2) where
    place_by : (k : ℕ) (side : Side) (order also_order : List ℕ) (also : List Spot) → c.rule ≡ FixedOrder → k < length spots → side_of c (spot_at spots k) ≡ side → HavePorts c also → SamePorts c spots also
        → IsOrderOfSide c side spots order → IsOrderOfSide c side also also_order → place_in order k ≡ place_in also_order k
    place_by k side order also_order also fixed h on ports same is also_is =
        let port : k < length c.ports = let all = are.as_many in omega (arith, h, all) in
        port_place_same c side spots also order also_order fixed are.ports ports same is also_is k port
        (port_there c side spots order are.ports is k port (spread_port c side spots are.ports k port (fixed_spread c k fixed) on))

    pub ordered : AreOrdered c spots p2
    ordered =
        record {
          as_many = second.as_long ∙ first.as_long ∙ many;
          place_is = λ fixed k h beside also order ports same is. ⊎_elim
              (λ (on : side_of c (spot_at spots k) ≡ West).
              kept West East east p1 p2 k in_east on (λ bad. absurd cc) second ∙ noted West west p0 p1 k in_west fixed h on first
              ∙ place_by k West west order also fixed h on ports same in_west (subst (λ s. IsOrderOfSide c s also order) on is))
              (λ (on : side_of c (spot_at spots k) ≡ East).
              noted East east p1 p2 k in_east fixed h on second ∙ place_by k East east order also fixed h on ports same in_east (subst (λ s. IsOrderOfSide c s also order) on is))
              beside;
          few = noted_few p1 east p2 (length spots) (order_few c East spots east numbered in_east) (noted_few p0 west p1 (length spots) (order_few c West spots west numbered in_west) few first) second;
        }

-- ports are counted by offset
pub counted_before : (c : Child) (spots : List Spot) (ports : List PortAt) (before : List ℕ) → (c.rule ≡ FixedOrder → ⊥) → ports ≡ map (port_at c) spots
    → before ≡ map (λ own. length (filter (comes_before own) ports)) ports → AreBefore c spots before
counted_before c spots ports before other is made =
    let whole : before ≡ map (λ own. length (filter (comes_before own) (map (port_at c) spots))) (map (port_at c) spots) = made ∙ ap (λ (ps : List PortAt). map (λ own. length (filter (comes_before own) ps)) ps) is in
    let many = ap (λ (ns : List ℕ). length ns) whole in
    let one = length-map (map (port_at c) spots) (λ own. length (filter (comes_before own) (map (port_at c) spots))) in
    let two = length-map spots (port_at c) in
    let there : (k : ℕ) → k < length spots → get_or before k 0 ≡ length (filter (comes_before (port_at c (spot_at spots k))) (map (port_at c) spots)) =
    λ k h. ap (λ (ns : List ℕ). get_or ns k 0) whole
    ∙ get_or-map (λ own. length (filter (comes_before own) (map (port_at c) spots))) (map (port_at c) spots) k (port_at c no_spot) 0 (omega (arith, h, two))
    ∙ ap (λ (x : PortAt). length (filter (comes_before x) (map (port_at c) spots))) (get_or-map (port_at c) spots k no_spot (port_at c no_spot) h)
    in
    record {
      as_many = omega (arith, many, one, two);
      ordered = λ fixed. absurd (other fixed);
      placed = λ fixed k h. there k h;
      few = λ k. elim (cases_lt k (length spots)) [
        | inl less ↦ let at = there k less in let low = filter_short (comes_before (port_at c (spot_at spots k))) (map (port_at c) spots) in omega (arith, at, low, two)
        | inr more ↦ let at = get_or_past before k 0 (omega (arith, more, many, one, two)) in omega (arith, at)
      ];
    }
