-- The orders and docks of children, child by child.
use Rattle.std.proofs.Common.{◌≡◌, ℕ, ℤ, ◌+◌, ◌<◌, ◌≤◌, ◌^◌, List, [], ◌∷◌, ◌++◌, length, map, take, get_or, IsFalse, refl, sym, ◌∙◌, ap, subst, inl, inr, arith, SFits, w64, to_z, of_z, pos, neg_ℤ, ◌+ℤ◌, ◌-ℤ◌}
use Rattle.std.specs.List.{All}
use Rattle.std.proofs.lemmas.Bool.{cases_eq}
use Rattle.std.proofs.lemmas.Int.{ints, to_z-of_z}
use Rattle.std.proofs.lemmas.List.{get_or-map, get_or_append_left, get_or_push, get_or_read, length-map, length_push, map-append, take_more}
use Rattle.drawing_types.specs.declared.shape.Side.{Side}
use Rattle.drawing_types.specs.declared.shape.Dock.{Dock}
use Rattle.drawing_types.specs.Ranges.{IsWithin}
use Rattle.port_order.specs.declared.children.Child.{Child}
use Rattle.port_order.specs.declared.spots.Spot.{Spot}
use Rattle.port_order.specs.Child.{is_pinned_spot, no_spot, spot_at}
use Rattle.port_order.specs.Conditions.{AreSpots, IsSpot}
use Rattle.port_order.specs.Places.{HoldsOnce, place_in}
use Rattle.port_order.specs.Sides.{side_of}
use Rattle.elk_layers.specs.Places.{IsOnce, NotesFirst}
use Rattle.level_model.specs.Level.{PlainLevel, child_at}
use Rattle.dock_table.specs.declared.orders.SideOrders.{SideOrders}
use Rattle.dock_table.specs.Narrow.{IsOffset}
use Rattle.dock_table.specs.Rows.{AreCounted, row_at}
use Rattle.dock_table.specs.Sides.{AreDocks, AreFour, AreOrdersTo, HavePlaces, FourOrders, dock_by, docks_at, four_at, four_of, order_on}
use Rattle.dock_table.proofs.DockLemmas.{all_noted, order_few, order_once, order_within}

pub offset_fits : (z : ℤ) → IsOffset z → SFits w64 z
offset_fits z h = let a = h.above in let b = h.below in omega (arith, ints, a, b)

-- an offset that is handed on
pub kept_near : (z : ℤ) → IsOffset z → IsOffset (to_z w64 (of_z w64 z))
kept_near z h = rw (to_z-of_z w64 z (offset_fits z h)) h

-- the sum of a place and a half, as the code computes it
pub given_sum : (a h place half : ℤ) → a ≡ place → h ≡ half → IsWithin (neg_ℤ (pos (2 ^ 54))) (pos (2 ^ 54)) place → IsWithin (pos 0) (pos (2 ^ 47)) half
    → (SFits w64 (to_z w64 (of_z w64 a) +ℤ to_z w64 (of_z w64 h))) × (to_z w64 (of_z w64 (to_z w64 (of_z w64 a) +ℤ to_z w64 (of_z w64 h))) ≡ place +ℤ half)
given_sum a h place half ea eh p q =
    let pa = p.above in
    let pb = p.below in
    let qa = q.above in
    let qb = q.below in
    let fa : SFits w64 a = rw ea (omega (arith, ints, pa, pb)) in
    let fh : SFits w64 h = rw eh (omega (arith, ints, qa, qb)) in
    let fs : SFits w64 (a +ℤ h) = rw (ea, eh) (omega (arith, ints, pa, pb, qa, qb)) in
    rw (to_z-of_z w64 a fa, to_z-of_z w64 h fh, to_z-of_z w64 (a +ℤ h) fs, ea, eh) (rw (ea, eh) at fs, refl)

-- the start of a port, as the code computes it
pub start_computed : (offset h half : ℤ) → h ≡ half → IsOffset offset → IsWithin (pos 0) (pos (2 ^ 47)) half
    → (SFits w64 (to_z w64 (of_z w64 offset) -ℤ to_z w64 (of_z w64 h))) × (to_z w64 (of_z w64 (to_z w64 (of_z w64 offset) -ℤ to_z w64 (of_z w64 h))) ≡ offset -ℤ half)
start_computed offset h half eh p q =
    let pa = p.above in
    let pb = p.below in
    let qa = q.above in
    let qb = q.below in
    let fo : SFits w64 offset = omega (arith, ints, pa, pb) in
    let fh : SFits w64 h = rw eh (omega (arith, ints, qa, qb)) in
    let fs : SFits w64 (offset -ℤ h) = rw eh (omega (arith, ints, pa, pb, qa, qb)) in
    rw (to_z-of_z w64 offset fo, to_z-of_z w64 h fh, to_z-of_z w64 (offset -ℤ h) fs, eh) (rw eh at fs, refl)

-- an order whose numbers are to be noted
pub note_ready : (c : Child) (side : Side) (spots : List Spot) (v : FourOrders) (order place : List ℕ) → AreCounted spots → AreFour c spots v → order ≡ order_on v side → length place ≡ length spots → length spots ≤ 2 ^ 16
    → (All (λ n. n < length place) order) × IsOnce order × (length order ≤ 2 ^ 16)
note_ready c side spots v order place numbered are e long few =
    let small = order_few c side spots (order_on v side) numbered (are side) in
    let same = ap length e in (
      subst (λ m. All (λ n. n < m) order) (sym long) (subst (All (λ n. n < length spots)) (sym e) (order_within c side spots (order_on v side) numbered (are side))),
      subst IsOnce (sym e) (order_once c side spots (order_on v side) numbered (are side)),
      omega (arith, small, same, few),
    )

notes_moved : (p q order order' : List ℕ) → order ≡ order' → NotesFirst p order (length order) q → NotesFirst p order' (length order') q
notes_moved p q order order' e notes = subst (λ xs. NotesFirst p xs (length xs) q) e notes

pub sides_noted : (c : Child) (spots : List Spot) (v : FourOrders) (north east south west p0 p1 p2 p3 p4 : List ℕ) → AreCounted spots → AreFour c spots v → length p0 ≡ length spots
    → north ≡ v.north → east ≡ v.east → south ≡ v.south → west ≡ v.west
    → NotesFirst p0 north (length north) p1 → NotesFirst p1 east (length east) p2 → NotesFirst p2 south (length south) p3 → NotesFirst p3 west (length west) p4 → HavePlaces c spots v p4
sides_noted c spots v north east south west p0 p1 p2 p3 p4 numbered are long en ee es ew a b d e =
    all_noted c spots v p0 p1 p2 p3 p4 numbered are long (notes_moved p0 p1 north v.north en a) (notes_moved p1 p2 east v.east ee b) (notes_moved p2 p3 south v.south es d) (notes_moved p3 p4 west v.west ew e)

-- what is known of a spot whose dock is to be made
pub spot_ready : (c : Child) (spots : List Spot) (v : FourOrders) (place : List ℕ) (i at : ℕ) (s : Spot) → AreSpots c spots → AreCounted spots → length spots ≤ 2 ^ 16 → AreFour c spots v → HavePlaces c spots v place → i < length spots → s ≡ spot_at spots i → at ≡ get_or place i at
    → IsSpot c s × (length (order_on v (side_of c s)) ≤ 2 ^ 16) × (IsFalse (is_pinned_spot c s) → HoldsOnce (order_on v (side_of c s)) s.number) × (IsFalse (is_pinned_spot c s) → at ≡ place_in (order_on v (side_of c s)) s.number)
spot_ready c spots v place i at s sound numbered few are placed h is read =
    let small = order_few c (side_of c s) spots (order_on v (side_of c s)) numbered (are (side_of c s)) in
    let number : s.number ≡ i = ap (λ (x : Spot). x.number) is ∙ numbered i h in
    let long = placed.as_long in
    let found : at ≡ get_or place i 0 = get_or_read place i at (omega (arith, h, long)) read 0 in (
      subst (IsSpot c) (sym is) (sound.each i h),
      omega (arith, small, few),
      subst (λ (x : Spot). IsFalse (is_pinned_spot c x) → HoldsOnce (order_on v (side_of c x)) x.number) (sym is) (λ spread. (are (side_of c (spot_at spots i))).once i h (record { spread = spread; on_side = refl })),
      λ spread. found ∙ subst (λ (x : Spot). IsFalse (is_pinned_spot c x) → get_or place i 0 ≡ place_in (order_on v (side_of c x)) i) (sym is) (placed.place_is i h) spread ∙ ap (place_in (order_on v (side_of c s))) (sym number),
    )

pub docks_more : (c : Child) (node : ℕ) (v : FourOrders) (spots : List Spot) (i : ℕ) (s : Spot) (d : Dock) (old new : List Dock) → i < length spots → s ≡ spot_at spots i → d ≡ dock_by c node v s → new ≡ old ++ d ∷ [] → old ≡ map (dock_by c node v) (take i spots)
    → new ≡ map (dock_by c node v) (take (i + 1) spots)
docks_more c node v spots i s d old new h is made pushed e =
    pushed
    ∙ ap (λ (xs : List Dock). xs ++ d ∷ []) e
    ∙ ap (λ (x : Dock). map (dock_by c node v) (take i spots) ++ x ∷ []) (made ∙ ap (dock_by c node v) is)
    ∙ sym (ap (map (dock_by c node v)) (take_more spots i no_spot h) ∙ map-append (dock_by c node v) (take i spots) (spot_at spots i ∷ []))

-- ---- child by child

pub four_read : (vs : List SideOrders) (c : ℕ) (x : SideOrders) → x ≡ get_or vs c x → c < length vs → four_of x ≡ four_at (map four_of vs) c
four_read vs c x is h = ap four_of is ∙ sym (get_or-map four_of vs c x (four_at [] 0) h)

pub four_taken : (vs : List SideOrders) (c count : ℕ) (x : SideOrders) → x ≡ get_or vs c x → length (map four_of vs) ≡ count → c < count → four_of x ≡ four_at (map four_of vs) c
four_taken vs c count x is long h = let m = length-map vs four_of in four_read vs c x is (omega (arith, m, long, h))

pub orders_pushed : (l : PlainLevel) (rows : List (List Spot)) (n : ℕ) (vs : List FourOrders) (c : Child) (spots : List Spot) (v : FourOrders) → c ≡ child_at l n → spots ≡ row_at rows n → AreFour c spots v → AreOrdersTo l rows n vs → AreOrdersTo l rows (n + 1) (vs ++ v ∷ [])
orders_pushed l rows n vs c spots v child row are s =
    let long = s.as_many in
    let more = length_push vs v in
    record {
      as_many = omega (arith, long, more);
      four = λ d h. elim (cases_eq d n) [
        | inl e ↦ subst (λ x. AreFour (child_at l x) (row_at rows x) (four_at (vs ++ v ∷ []) x)) (sym e)
            (subst (AreFour (child_at l n) (row_at rows n)) (sym (get_or_push vs v (four_at [] 0) n long)) (subst (λ x. AreFour x (row_at rows n) v) child (subst (λ xs. AreFour c xs v) row are)))
        | inr ne ↦ subst (AreFour (child_at l d) (row_at rows d)) (sym (get_or_append_left vs (v ∷ []) (four_at [] 0) d (omega (arith, h, ne, long)))) (s.four d (omega (arith, h, ne)))
      ];
    }

pub docks_pushed : (l : PlainLevel) (rows : List (List Spot)) (vs : List FourOrders) (n : ℕ) (lists : List (List Dock)) (c : Child) (spots : List Spot) (v : FourOrders) (docks : List Dock) → c ≡ child_at l n → spots ≡ row_at rows n → v ≡ four_at vs n
    → docks ≡ map (dock_by c n v) spots → All (λ (d : Dock). IsOffset d.offset) docks → AreDocks l rows vs n lists → AreDocks l rows vs (n + 1) (lists ++ docks ∷ [])
docks_pushed l rows vs n lists c spots v docks child row four are offsets s =
    let long = s.as_many in
    let more = length_push lists docks in
    let is : docks ≡ map (dock_by (child_at l n) n (four_at vs n)) (row_at rows n) =
    are ∙ ap (λ (x : Child). map (dock_by x n v) spots) child ∙ ap (λ x. map (dock_by (child_at l n) n x) spots) four ∙ ap (map (dock_by (child_at l n) n (four_at vs n))) row
    in
    record {
      as_many = omega (arith, long, more);
      docks = λ d h. elim (cases_eq d n) [
        | inl e ↦ subst (λ x. docks_at (lists ++ docks ∷ []) x ≡ map (dock_by (child_at l x) x (four_at vs x)) (row_at rows x)) (sym e) (get_or_push lists docks [] n long ∙ is)
        | inr ne ↦ get_or_append_left lists (docks ∷ []) [] d (omega (arith, h, ne, long)) ∙ s.docks d (omega (arith, h, ne))
      ];
      offsets = λ d h. elim (cases_eq d n) [
        | inl e ↦ subst (λ x. All (λ (k : Dock). IsOffset k.offset) (docks_at (lists ++ docks ∷ []) x)) (sym e) (subst (All (λ (k : Dock). IsOffset k.offset)) (sym (get_or_push lists docks [] n long)) offsets)
        | inr ne ↦ subst (All (λ (k : Dock). IsOffset k.offset)) (sym (get_or_append_left lists (docks ∷ []) [] d (omega (arith, h, ne, long)))) (s.offsets d (omega (arith, h, ne)))
      ];
    }
