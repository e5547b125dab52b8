-- Least values of the blocks give least lines of the units.
use Rattle.std.proofs.Common.{◌≡◌, ℕ, zero, suc, ◌+◌, ◌<◌, ℤ, pos, ◌+ℤ◌, ◌-ℤ◌, List, [], ◌∷◌, ◌++◌, length, map, get_or, arith, refl, sym, ◌∙◌, ap, subst, inl, inr, Option}
use Rattle.std.proofs.lemmas.Int.{ints}
use Rattle.std.specs.List.{All, filter}
use Rattle.std.proofs.lemmas.List.{get_or-map}
use Rattle.std.proofs.lemmas.List.Elements.{All-nil, All-cons, All-head, All-tail, All-append, All-filter, All-from_get_or}
use Rattle.elk_layers.specs.Layered.{Plain, IsSound, AreRows, layer_of, row_at, is_child}
use Rattle.elk_layers.specs.Lines.{top_of, room, body_room, Keeps as KeepsAlong, AreLines, AreApart, IsHorizontal}
use Rattle.separation.specs.declared.bounds.Bound.{Bound}
use Rattle.separation.specs.Lines.{value_at, KeepsBound, Keeps, Settled}
use Rattle.unit_blocks.specs.Blocks.{IsEntered}
use Rattle.unit_blocks.specs.Constraints.{block_at, offset_at, bounds_along, row_bounds, all_bounds, IsPosed, AreTops, AreLeast}
use Rattle.elk_layers.specs.Straight.{chosen_link, AreStraight}

All-left : {X : Type 0} (P : X → Type 0) (xs ys : List X) → All P (xs ++ ys) → All P xs
All-left P [] ys h = All-nil P
All-left P (x ∷ xs) ys h = All-cons P x xs (All-head P x (xs ++ ys) h) (All-left P xs ys (All-tail P x (xs ++ ys) h))

All-right : {X : Type 0} (P : X → Type 0) (xs ys : List X) → All P (xs ++ ys) → All P ys
All-right P [] ys h = h
All-right P (x ∷ xs) ys h = All-right P xs ys (All-tail P x (xs ++ ys) h)

-- the bounds of one row among all bounds
row_within : (l : Plain) (blocks : List ℕ) (offsets : List ℤ) (P : Bound → Type 0) (rows : List (List ℕ)) → All P (all_bounds l blocks offsets rows) → (r : ℕ) → r < length rows → All P (row_bounds l blocks offsets (row_at rows r))
row_within l blocks offsets P [] h r k = absurd (omega (arith, k))
row_within l blocks offsets P (row ∷ rows) h zero k = All-left P (row_bounds l blocks offsets row) (all_bounds l blocks offsets rows) h
row_within l blocks offsets P (row ∷ rows) h (suc r) k =
    row_within l blocks offsets P rows (All-right P (row_bounds l blocks offsets row) (all_bounds l blocks offsets rows) h) r (omega (arith, k))

pub all_from_rows : (l : Plain) (blocks : List ℕ) (offsets : List ℤ) (P : Bound → Type 0) (rows : List (List ℕ)) → ((r : ℕ) → r < length rows → All P (row_bounds l blocks offsets (row_at rows r))) → All P (all_bounds l blocks offsets rows)
all_from_rows l blocks offsets P [] h = All-nil P
all_from_rows l blocks offsets P (row ∷ rows) h =
    All-append P (row_bounds l blocks offsets row) (all_bounds l blocks offsets rows) (h 0 (omega arith))
    (all_from_rows l blocks offsets P rows (λ r k. h (suc r) (omega (arith, k))))

abbrev pub bound_of_pair : (ℕ → ℕ → ℤ) → List ℕ → List ℤ → ℕ → ℕ → Bound
bound_of_pair distance blocks offsets u v =
    record { before = block_at blocks u; after = block_at blocks v; gap = offset_at offsets u +ℤ distance u v -ℤ offset_at offsets v }

pub pairs_from : (distance : ℕ → ℕ → ℤ) (blocks : List ℕ) (offsets : List ℤ) (P : Bound → Type 0) (units : List ℕ) → ((i : ℕ) → i + 1 < length units → P (bound_of_pair distance blocks offsets (get_or units i 0) (get_or units (i + 1) 0))) → All P (bounds_along distance blocks offsets units)
pairs_from distance blocks offsets P [] h = All-nil P
pairs_from distance blocks offsets P (u ∷ []) h = All-nil P
pairs_from distance blocks offsets P (u ∷ v ∷ units) h =
    All-cons P (bound_of_pair distance blocks offsets u v) (bounds_along distance blocks offsets (v ∷ units)) (h 0 (omega arith))
    (pairs_from distance blocks offsets P (v ∷ units) (λ i k.
    let n : i + 1 ≡ suc i = omega arith in
    let m : suc i + 1 ≡ suc (suc i) = omega arith in
    rw n (rw m at (h (suc i) (omega (arith, k))))))

pub pair_at : (distance : ℕ → ℕ → ℤ) (blocks : List ℕ) (offsets : List ℤ) (P : Bound → Type 0) (units : List ℕ) → All P (bounds_along distance blocks offsets units) → (i : ℕ) → i + 1 < length units → P (bound_of_pair distance blocks offsets (get_or units i 0) (get_or units (i + 1) 0))
pair_at distance blocks offsets P [] h i k = absurd (omega (arith, k))
pair_at distance blocks offsets P (u ∷ []) h i k = absurd (omega (arith, k))
pair_at distance blocks offsets P (u ∷ v ∷ units) h zero k = All-head P (bound_of_pair distance blocks offsets u v) (bounds_along distance blocks offsets (v ∷ units)) h
pair_at distance blocks offsets P (u ∷ v ∷ units) h (suc i) k =
    let n : suc i + 1 ≡ suc (i + 1) = omega arith in
    rw n (pair_at distance blocks offsets P (v ∷ units) (All-tail P (bound_of_pair distance blocks offsets u v) (bounds_along distance blocks offsets (v ∷ units)) h) i (omega (arith, k)))

module _ (l : Plain) (rows : List (List ℕ)) (chosen blocks roots : List ℕ) (offsets floor : List ℤ) (bounds : List Bound) (sound : IsSound l) (are : AreRows l rows) (straight : AreStraight l rows chosen) (posed : IsPosed l rows chosen blocks roots offsets floor bounds) where
  abbrev root_of : ℕ → ℕ
  root_of u = get_or roots (block_at blocks u) 0

  link_sound : (j : ℕ) → j < length chosen → (chosen_link l chosen j).tail < length l.units × ((chosen_link l chosen j).head < length l.units)
  link_sound j h = let s = sound.links_are _ (straight.known j h) in (s.tail, s.head)

  -- from values to tops

  module _ (values tops : List ℤ) (are_tops : AreTops l blocks offsets values tops) (keeps : Keeps floor bounds values) where
    keeps_all : All (KeepsBound values) (all_bounds l blocks offsets rows)
    keeps_all = subst (All (KeepsBound values)) posed.bounds_are (All-from_get_or (KeepsBound values) bounds _ keeps.bounds)

    tops_keep : (distance : ℕ → ℕ → ℤ) (units : List ℕ) → ((i : ℕ) → i < length units → get_or units i 0 < length l.units) → All (KeepsBound values) (bounds_along distance blocks offsets units) → KeepsAlong distance tops units
    tops_keep distance units within all i k =
        let b = pair_at distance blocks offsets (KeepsBound values) units all i k in
        let u = are_tops.top_is (get_or units i 0) (within i (omega (arith, k))) in
        let v = are_tops.top_is (get_or units (i + 1) 0) (within (i + 1) k) in
        omega (arith, ints, b, u, v)

    children_within : (r : ℕ) → r < length rows → (i : ℕ) → i < length (filter (is_child l) (row_at rows r)) → get_or (filter (is_child l) (row_at rows r)) i 0 < length l.units
    children_within r h i k = All-filter (is_child l) (λ u. u < length l.units) (row_at rows r) (All-from_get_or (λ u. u < length l.units) (row_at rows r) 0 (are.in_range r h)) i 0 k

    tops_apart : AreApart l rows tops
    tops_apart =
        record {
          as_many = are_tops.as_many;
          from_zero = λ u h.
              let f = keeps.floors (block_at blocks u) (rw posed.floors_are.as_many (posed.blocks_are.numbers u h)) in
              let z = posed.floors_are.from_zero u h in
              let t = are_tops.top_is u h in
              omega (arith, ints, f, z, t);
          room = λ r h. tops_keep (room l) (row_at rows r) (are.in_range r h)
              (All-left (KeepsBound values) (bounds_along (room l) blocks offsets (row_at rows r)) _ (row_within l blocks offsets (KeepsBound values) rows keeps_all r h));
          body_room = λ r h. tops_keep (body_room l) (filter (is_child l) (row_at rows r)) (children_within r h)
              (All-right (KeepsBound values) (bounds_along (room l) blocks offsets (row_at rows r)) _ (row_within l blocks offsets (KeepsBound values) rows keeps_all r h));
        }

    tops_horizontal : (j : ℕ) → j < length chosen → IsHorizontal l tops (get_or chosen j 0)
    tops_horizontal j h =
        let s = link_sound j h in
        let t = are_tops.top_is (chosen_link l chosen j).tail s.0 in
        let u = are_tops.top_is (chosen_link l chosen j).head s.1 in
        let o = posed.offsets_are.horizontal j h in
        let v : value_at values (block_at blocks (chosen_link l chosen j).tail) ≡ value_at values (block_at blocks (chosen_link l chosen j).head) =
        ap (value_at values) (posed.blocks_are.joined j h) in
        omega (arith, ints, t, u, o, v)

    pub tops_are_lines : AreLines l rows chosen tops
    tops_are_lines = record { apart = tops_apart; horizontal = All-from_get_or (IsHorizontal l tops) chosen 0 tops_horizontal }

  -- from tops to values

  module _ (other : List ℤ) (lines : AreLines l rows chosen other) where
    abbrev gone : ℕ → ℤ
    gone u = top_of other u -ℤ offset_at offsets u

    horizontal_at : (j : ℕ) → j < length chosen → IsHorizontal l other (get_or chosen j 0)
    horizontal_at j h = lines.horizontal j 0 h

    entered_value : (g u : ℕ) → u < length l.units → layer_of l u ≡ g → IsEntered l chosen u → ((v : ℕ) → v < length l.units → layer_of l v + 1 ≡ g → gone v ≡ gone (root_of v)) → gone u ≡ gone (root_of u)
    entered_value g u h is e rest =
        let s = link_sound e.number e.within in
        let t = (chosen_link l chosen e.number).tail in
        let next : layer_of l u ≡ layer_of l t + 1 = subst (λ v. layer_of l v ≡ layer_of l t + 1) e.head_is (sound.links_are _ (straight.known e.number e.within)).next_layer in
        let far = rest t s.0 (sym next ∙ is) in
        let o = posed.offsets_are.horizontal e.number e.within in
        let v = horizontal_at e.number e.within in
        let step : gone t ≡ gone (chosen_link l chosen e.number).head = omega (arith, ints, o, v) in
        let same : root_of t ≡ root_of (chosen_link l chosen e.number).head = ap (λ b. get_or roots b 0) (posed.blocks_are.joined e.number e.within) in
        subst (λ x. gone x ≡ gone (root_of x)) e.head_is (sym step ∙ far ∙ ap gone same)

    -- all units of a block stand at one value
    one_value : (g u : ℕ) → u < length l.units → layer_of l u ≡ g → gone u ≡ gone (root_of u)
    one_value zero u h is = elim (posed.blocks_are.first u h) [
      | inl own ↦ sym (ap gone own)
      | inr e ↦ entered_value 0 u h is e (λ v k s. absurd (omega (arith, s)))
    ]
    one_value (suc g) u h is = elim (posed.blocks_are.first u h) [
      | inl own ↦ sym (ap gone own)
      | inr e ↦ entered_value (suc g) u h is e (λ v k s. one_value g v k (omega (arith, s)))
    ]

    abbrev others : List ℤ
    others = map gone roots

    other_at : (u : ℕ) → u < length l.units → value_at others (block_at blocks u) ≡ gone u
    other_at u h = get_or-map gone roots (block_at blocks u) 0 (pos 0) (posed.blocks_are.numbers u h) ∙ sym (one_value (layer_of l u) u h refl)

    values_keep : (distance : ℕ → ℕ → ℤ) (units : List ℕ) → ((i : ℕ) → i < length units → get_or units i 0 < length l.units) → KeepsAlong distance other units → All (KeepsBound others) (bounds_along distance blocks offsets units)
    values_keep distance units within keeps = pairs_from distance blocks offsets (KeepsBound others) units (λ i k.
        let u = other_at (get_or units i 0) (within i (omega (arith, k))) in
        let v = other_at (get_or units (i + 1) 0) (within (i + 1) k) in
        let d = keeps i k in
        omega (arith, ints, u, v, d))

    pub values_keep_all : Keeps floor bounds others
    values_keep_all =
        record {
          floors = λ b h.
              let hb : b < length roots = rw posed.floors_are.as_many at h in
              let held = posed.floors_are.held b hb in
              let here = subst (λ c. value_at others c ≡ gone held.unit) held.in_block (other_at held.unit held.in_range) in
              let z = held.at_zero in
              let t = lines.apart.from_zero held.unit held.in_range in
              omega (arith, ints, here, z, t);
          bounds = λ k h.
              subst (All (KeepsBound others)) (sym posed.bounds_are)
              (all_from_rows l blocks offsets (KeepsBound others) rows (λ r hr.
              All-append (KeepsBound others) (bounds_along (room l) blocks offsets (row_at rows r)) (bounds_along (body_room l) blocks offsets (filter (is_child l) (row_at rows r)))
              (values_keep (room l) (row_at rows r) (are.in_range r hr) (lines.apart.room r hr))
              (values_keep (body_room l) (filter (is_child l) (row_at rows r)) (kids r hr) (lines.apart.body_room r hr))))
              k _ h;
        }
      where
        kids : (r : ℕ) → r < length rows → (i : ℕ) → i < length (filter (is_child l) (row_at rows r)) → get_or (filter (is_child l) (row_at rows r)) i 0 < length l.units
        kids r h i k = All-filter (is_child l) (λ u. u < length l.units) (row_at rows r) (All-from_get_or (λ u. u < length l.units) (row_at rows r) 0 (are.in_range r h)) i 0 k

  pub least_lines_from : (values tops : List ℤ) (holds : List (Option ℕ)) → Settled floor bounds values holds → AreTops l blocks offsets values tops → AreLeast l rows chosen tops
  least_lines_from values tops holds settled are_tops =
      record {
        are_lines = tops_are_lines values tops are_tops settled.keeps;
        least = λ other lines u h.
            let low = settled.least (others other lines) (values_keep_all other lines) (block_at blocks u) (rw posed.floors_are.as_many (posed.blocks_are.numbers u h)) in
            let at = other_at other lines u h in
            let t = are_tops.top_is u h in
            omega (arith, ints, low, at, t);
      }
