-- Rows that are filled box by box are the rows that the definition asks for, and the only ones.
use Rattle.std.proofs.Common.{◌≡◌, ◌⊎◌, ⊎_elim, refl, sym, ap, subst, ◌∙◌, ℕ, zero, suc, ◌+◌, ◌<◌, ◌≤◌, Bool, true, false, List, length, ℤ, pos, ◌+ℤ◌, ◌≤ℤ◌, ◌<ℤ◌, arith}
use Rattle.std.specs.Prelude.{int_lt}
use Rattle.std.specs.Int.{int_max}
use Rattle.std.proofs.lemmas.Int.{ints, clamps, by_lt_z}
use Rattle.std.proofs.lemmas.Bool.{cases_lt}
use Rattle.drawing_types.specs.declared.shape.Point.{Point}
use Rattle.drawing_types.specs.declared.shape.Size.{Size}
use Rattle.box_pack.specs.declared.walk.Cursor.{Cursor}
use Rattle.box_pack.specs.declared.walk.Page.{Page}
use Rattle.box_pack.specs.Boxes.{size_at, point_at, right_of, bottom_of, reach_beside, long_side, EachSize, IsTallest, IsPacked, IsGreatest, HasExtent}
use Rattle.box_pack.specs.Walk.{reach, overflows, below, row_or, row_for, before, spot, greatest_of, spot_right, spot_bottom, measured_to, long_at, page_of, AreSpots, IsNear, IsPage}
use Rattle.box_pack.specs.Packed.{AreRows}
use Rattle.box_pack.proofs.Filling.{near_row, near_before, same_point, lt_yes, lt_no}
use Rattle.drawing_types.proofs.SmallNumbers.{bool_cases}

-- a row with a box in it is not empty
started : (sizes : List Size) (r : Page) → IsPage r → EachSize sizes → (i : ℕ) → i < length sizes → pos 0 <ℤ (before sizes r (suc i)).x
unfolding before
started sizes r page are i h =
    let near = near_row i r (before sizes r i) (overflows r (before sizes r i) (size_at sizes i)) page (near_before sizes r page are i (omega arith)) in
    omega (arith, ints, near.right, (are i h).0, page.0)

reach_started : (c : Cursor) (s : Size) → pos 0 <ℤ c.x → reach c s ≡ c.x +ℤ s.width
reach_started c s h = let t : int_lt (pos 0) c.x ≡ true = lt_yes (pos 0) c.x h in rw t refl

-- how far the next box would reach
pub reach_next : (sizes : List Size) (r : Page) → IsPage r → EachSize sizes → (i : ℕ) → i < length sizes
    → reach (before sizes r (suc i)) (size_at sizes (suc i)) ≡ ((((spot sizes r i).x +ℤ (size_at sizes i).width) +ℤ r.gap) +ℤ (size_at sizes (suc i)).width)
unfolding before
reach_next sizes r page are i h = reach_started (before sizes r (suc i)) (size_at sizes (suc i)) (started sizes r page are i h)

pub over_is : (r : Page) (c : Cursor) (s : Size) → r.limit <ℤ reach c s → overflows r c s ≡ true
over_is r c s h = lt_yes r.limit (reach c s) h

pub under_is : (r : Page) (c : Cursor) (s : Size) → reach c s ≤ℤ r.limit → overflows r c s ≡ false
under_is r c s h = lt_no r.limit (reach c s) h

-- a spot in the row that a test chooses
abbrev pub point_in : ℤ → Cursor → Bool → Point
point_in gap c over = record { x = (row_or gap c over).x; y = (row_or gap c over).y }

spot_first : (sizes : List Size) (r : Page) → IsPage r → spot sizes r 0 ≡ record { x = pos 0; y = pos 0 }
unfolding before
spot_first sizes r page =
    let t : overflows r (before sizes r 0) (size_at sizes 0) ≡ false = under_is r (before sizes r 0) (size_at sizes 0) page.2 in
    ap (point_in r.gap (before sizes r 0)) t

-- where the next box stands
spot_over : (sizes : List Size) (r : Page) (i : ℕ) → overflows r (before sizes r (suc i)) (size_at sizes (suc i)) ≡ true
    → spot sizes r (suc i) ≡ record { x = pos 0; y = ((spot sizes r i).y +ℤ (before sizes r (suc i)).tall) +ℤ r.gap }
unfolding before
spot_over sizes r i over = ap (point_in r.gap (before sizes r (suc i))) over

spot_under : (sizes : List Size) (r : Page) (i : ℕ) → overflows r (before sizes r (suc i)) (size_at sizes (suc i)) ≡ false
    → spot sizes r (suc i) ≡ record { x = ((spot sizes r i).x +ℤ (size_at sizes i).width) +ℤ r.gap; y = (spot sizes r i).y }
unfolding before
spot_under sizes r i under = ap (point_in r.gap (before sizes r (suc i))) under

-- rows go down
row_sinks : (n : ℕ) (r : Page) (c : Cursor) (over : Bool) → IsPage r → IsNear n c → c.y ≤ℤ (row_or r.gap c over).y
row_sinks n r c true page near = omega (arith, ints, near.tall, page.0)
row_sinks n r c false page near = omega (arith, ints)

le_trans : (a b c : ℤ) → a ≤ℤ b → b ≤ℤ c → a ≤ℤ c
le_trans a b c p q = omega (arith, ints)

le_refl : (a : ℤ) → a ≤ℤ a
le_refl a = omega (arith, ints)

earlier_above : (sizes : List Size) (r : Page) → IsPage r → EachSize sizes → (i j : ℕ) → j < i → i ≤ length sizes → (spot sizes r j).y ≤ℤ (before sizes r i).y
unfolding before
earlier_above sizes r page are zero j lt h = absurd (omega arith)
earlier_above sizes r page are (suc i) j lt h =
    ⊎_elim
    (λ less. le_trans _ _ _ (earlier_above sizes r page are i j less (omega arith))
    (row_sinks i r (before sizes r i) (overflows r (before sizes r i) (size_at sizes i)) page (near_before sizes r page are i (omega arith))))
    (λ more. let e : i ≡ j = omega arith in subst (λ (k : ℕ). (spot sizes r k).y ≤ℤ (spot sizes r i).y) e (le_refl (spot sizes r i).y))
    (cases_lt j i)

-- the tallest box in the row of box i
record IsTall (sizes : List Size) (r : Page) (i : ℕ) (h : ℤ) : Type 0 where
  some : (j : ℕ) × (j ≤ i) × ((spot sizes r j).y ≡ (spot sizes r i).y) × ((size_at sizes j).height ≡ h)
  all : (j : ℕ) → j ≤ i → (spot sizes r j).y ≡ (spot sizes r i).y → (size_at sizes j).height ≤ℤ h

last_only : (sizes : List Size) (i j : ℕ) (h : ℤ) → i ≤ j → j ≤ i → (size_at sizes i).height ≤ℤ h → (size_at sizes j).height ≤ℤ h
last_only sizes i j h p q le = let e : i ≡ j = omega arith in subst (λ (k : ℕ). (size_at sizes k).height ≤ℤ h) e le

tall_over : (sizes : List Size) (r : Page) → IsPage r → EachSize sizes → (i : ℕ) → i < length sizes → overflows r (before sizes r i) (size_at sizes i) ≡ true → IsTall sizes r i (before sizes r (suc i)).tall
unfolding before
tall_over sizes r page are i h over =
    let near = near_before sizes r page are i (omega arith) in
    let t : (before sizes r (suc i)).tall ≡ int_max (pos 0) (size_at sizes i).height = ap (λ (b : Bool). int_max (row_or r.gap (before sizes r i) b).tall (size_at sizes i).height) over in
    let y : (spot sizes r i).y ≡ (((before sizes r i).y +ℤ (before sizes r i).tall) +ℤ r.gap) = ap (λ (b : Bool). (row_or r.gap (before sizes r i) b).y) over in
    let is : (size_at sizes i).height ≡ (before sizes r (suc i)).tall = omega (arith, ints, clamps, t, (are i h).2) in
    record {
      some = (i, omega arith, refl, is);
      all = λ j le same. ⊎_elim
          (λ less. let up : (spot sizes r j).y ≤ℤ (before sizes r i).y = earlier_above sizes r page are i j less (omega arith) in
          absurd (omega (arith, ints, up, same, y, near.tall, page.0)))
          (λ more. let le0 : (size_at sizes i).height ≤ℤ (before sizes r (suc i)).tall = omega (arith, ints, is) in last_only sizes i j (before sizes r (suc i)).tall more le le0)
          (cases_lt j i);
    }

top_tall : (gap : ℤ) (over : Bool) → (let top : Cursor = record { x = pos 0; y = pos 0; tall = pos 0 } in (row_or gap top over).tall ≡ pos 0)
top_tall gap true = refl
top_tall gap false = refl

tall_first : (sizes : List Size) (r : Page) → EachSize sizes → 0 < length sizes → IsTall sizes r 0 (before sizes r 1).tall
unfolding before
tall_first sizes r are h =
    let t : (row_for r (before sizes r 0) (size_at sizes 0)).tall ≡ pos 0 = top_tall r.gap (overflows r (before sizes r 0) (size_at sizes 0)) in
    let m : (before sizes r 1).tall ≡ int_max (pos 0) (size_at sizes 0).height = ap (λ (z : ℤ). int_max z (size_at sizes 0).height) t in
    let is : (size_at sizes 0).height ≡ (before sizes r 1).tall = omega (arith, ints, clamps, m, (are 0 h).2) in
    let le0 : (size_at sizes 0).height ≤ℤ (before sizes r 1).tall = omega (arith, ints, is) in
    record { some = (0, omega arith, refl, is); all = λ j le same. last_only sizes 0 j (before sizes r 1).tall (omega arith) le le0 }

tall_under : (sizes : List Size) (r : Page) (i : ℕ) → overflows r (before sizes r (suc i)) (size_at sizes (suc i)) ≡ false → IsTall sizes r i (before sizes r (suc i)).tall → IsTall sizes r (suc i) (before sizes r (suc (suc i))).tall
unfolding before
tall_under sizes r i under tall =
    let t : (before sizes r (suc (suc i))).tall ≡ int_max (before sizes r (suc i)).tall (size_at sizes (suc i)).height = ap (λ (b : Bool). int_max (row_or r.gap (before sizes r (suc i)) b).tall (size_at sizes (suc i)).height) under in
    let y : (spot sizes r (suc i)).y ≡ (spot sizes r i).y = ap (λ (b : Bool). (row_or r.gap (before sizes r (suc i)) b).y) under in
    let (j, le, same, is) = tall.some in
    record {
      some = by_lt_z (before sizes r (suc i)).tall (size_at sizes (suc i)).height
          (λ less. (suc i, omega arith, refl, omega (arith, ints, clamps, t)))
          (λ more. (j, omega arith, same ∙ sym y, omega (arith, ints, clamps, t, is)));
      all = λ k at_most equal. ⊎_elim
          (λ less. let le0 : (size_at sizes k).height ≤ℤ (before sizes r (suc i)).tall = tall.all k (omega arith) (equal ∙ y) in omega (arith, ints, clamps, t, le0))
          (λ more. let le1 : (size_at sizes (suc i)).height ≤ℤ (before sizes r (suc (suc i))).tall = omega (arith, ints, clamps, t) in last_only sizes (suc i) k (before sizes r (suc (suc i))).tall more at_most le1)
          (cases_lt k (suc i));
    }

tallest : (sizes : List Size) (r : Page) → IsPage r → EachSize sizes → (i : ℕ) → i < length sizes → IsTall sizes r i (before sizes r (suc i)).tall
tallest sizes r page are zero h = tall_first sizes r are h
tallest sizes r page are (suc i) h =
    ⊎_elim (λ over. tall_over sizes r page are (suc i) h over) (λ under. tall_under sizes r i under (tallest sizes r page are i (omega arith)))
    (bool_cases (overflows r (before sizes r (suc i)) (size_at sizes (suc i))))

-- boxes at these spots
y_at : (sizes : List Size) (r : Page) (at : List Point) (n i : ℕ) → AreSpots sizes r n at → i < n → (point_at at i).y ≡ (spot sizes r i).y
y_at sizes r at n i spots h = ap (λ (p : Point). p.y) (spots i h)

x_at : (sizes : List Size) (r : Page) (at : List Point) (n i : ℕ) → AreSpots sizes r n at → i < n → (point_at at i).x ≡ (spot sizes r i).x
x_at sizes r at n i spots h = ap (λ (p : Point). p.x) (spots i h)

is_tallest : (sizes : List Size) (r : Page) (at : List Point) (n i : ℕ) (h : ℤ) → AreSpots sizes r n at → i < n → IsTall sizes r i h → IsTallest sizes at i h
is_tallest sizes r at n i h spots lt tall =
    let (j, le, same, is) = tall.some in
    record {
      some = (j, le, y_at sizes r at n j spots (omega arith) ∙ same ∙ sym (y_at sizes r at n i spots lt), is);
      all = λ k at_most equal. tall.all k at_most (sym (y_at sizes r at n k spots (omega arith)) ∙ equal ∙ y_at sizes r at n i spots lt);
    }

reach_same : (sizes : List Size) (r : Page) (at : List Point) (n i : ℕ) → IsPage r → EachSize sizes → AreSpots sizes r n at → i < n → i < length sizes → reach_beside sizes r.gap at i ≡ reach (before sizes r (suc i)) (size_at sizes (suc i))
reach_same sizes r at n i page are spots lt h = omega (arith, ints, x_at sizes r at n i spots lt, reach_next sizes r page are i h)

spot_beside : (sizes : List Size) (r : Page) (at : List Point) (n i : ℕ) → IsPage r → EachSize sizes → AreSpots sizes r n at → i < n → i < length sizes → reach_beside sizes r.gap at i ≤ℤ r.limit
    → spot sizes r (suc i) ≡ record { x = right_of sizes at i +ℤ r.gap; y = (point_at at i).y }
spot_beside sizes r at n i page are spots lt h fits =
    let le : reach (before sizes r (suc i)) (size_at sizes (suc i)) ≤ℤ r.limit = omega (arith, ints, fits, reach_same sizes r at n i page are spots lt h) in
    spot_under sizes r i (under_is r (before sizes r (suc i)) (size_at sizes (suc i)) le)
    ∙ same_point _ _ _ _ (omega (arith, ints, x_at sizes r at n i spots lt)) (sym (y_at sizes r at n i spots lt))

spot_below : (sizes : List Size) (r : Page) (at : List Point) (n i : ℕ) (h : ℤ) → IsPage r → EachSize sizes → AreSpots sizes r n at → i < n → i < length sizes → r.limit <ℤ reach_beside sizes r.gap at i → h ≡ (before sizes r (suc i)).tall
    → spot sizes r (suc i) ≡ record { x = pos 0; y = ((point_at at i).y +ℤ h) +ℤ r.gap }
spot_below sizes r at n i h page are spots lt within over e =
    let le : r.limit <ℤ reach (before sizes r (suc i)) (size_at sizes (suc i)) = omega (arith, ints, over, reach_same sizes r at n i page are spots lt within) in
    spot_over sizes r i (over_is r (before sizes r (suc i)) (size_at sizes (suc i)) le)
    ∙ same_point _ _ _ _ refl (omega (arith, ints, y_at sizes r at n i spots lt, e))

-- boxes at these spots are packed
pub packed : (sizes : List Size) (r : Page) (at : List Point) → IsPage r → EachSize sizes → length at ≡ length sizes → AreSpots sizes r (length sizes) at → IsPacked sizes r.gap r.limit at
packed sizes r at page are count spots =
    record {
      count = count;
      first = λ h. spots 0 h ∙ spot_first sizes r page;
      beside = λ i h fits. spots (suc i) h ∙ spot_beside sizes r at (length sizes) i page are spots (omega arith) (omega arith) fits;
      below = λ i h over. (
        (before sizes r (suc i)).tall,
        is_tallest sizes r at (length sizes) i (before sizes r (suc i)).tall spots (omega arith) (tallest sizes r page are i (omega arith)),
        spots (suc i) h ∙ spot_below sizes r at (length sizes) i (before sizes r (suc i)).tall page are spots (omega arith) (omega arith) over refl,
      );
    }

-- packed boxes stand at these spots
tall_is_one : (sizes : List Size) (r : Page) (at : List Point) (n i : ℕ) (g h : ℤ) → AreSpots sizes r n at → i < n → IsTallest sizes at i g → IsTall sizes r i h → g ≡ h
tall_is_one sizes r at n i g h spots lt given tall =
    let (j, j_le, j_same, j_is) = given.some in
    let (k, k_le, k_same, k_is) = tall.some in
    let up : (size_at sizes j).height ≤ℤ h = tall.all j j_le (sym (y_at sizes r at n j spots (omega arith)) ∙ j_same ∙ y_at sizes r at n i spots lt) in
    let down : (size_at sizes k).height ≤ℤ g = given.all k k_le (y_at sizes r at n k spots (omega arith) ∙ k_same ∙ sym (y_at sizes r at n i spots lt)) in
    omega (arith, ints, up, down, j_is, k_is)

next_spot : (sizes : List Size) (r : Page) (at : List Point) → IsPage r → EachSize sizes → IsPacked sizes r.gap r.limit at → (i : ℕ) → suc i < length sizes → AreSpots sizes r (suc i) at → point_at at (suc i) ≡ spot sizes r (suc i)
next_spot sizes r at page are p i h spots =
    by_lt_z r.limit (reach_beside sizes r.gap at i)
    (λ over. let (g, given, is) = p.below i h over in
    is ∙ sym (spot_below sizes r at (suc i) i g page are spots (omega arith) (omega arith) over
    (tall_is_one sizes r at (suc i) i g (before sizes r (suc i)).tall spots (omega arith) given (tallest sizes r page are i (omega arith)))))
    (λ fits. p.beside i h fits ∙ sym (spot_beside sizes r at (suc i) i page are spots (omega arith) (omega arith) fits))

spots_of : (sizes : List Size) (r : Page) (at : List Point) → IsPage r → EachSize sizes → IsPacked sizes r.gap r.limit at → (n : ℕ) → n ≤ length sizes → AreSpots sizes r n at
spots_of sizes r at page are p zero h = λ i lt. absurd (omega arith)
spots_of sizes r at page are p (suc zero) h =
    λ i lt. let e : 0 ≡ i = omega arith in subst (λ (k : ℕ). point_at at k ≡ spot sizes r k) e (p.first (omega arith) ∙ sym (spot_first sizes r page))
spots_of sizes r at page are p (suc (suc n)) h =
    let before_it : AreSpots sizes r (suc n) at = spots_of sizes r at page are p (suc n) (omega arith) in
    λ i lt. ⊎_elim (λ less. before_it i less)
    (λ more. let e : suc n ≡ i = omega arith in subst (λ (k : ℕ). point_at at k ≡ spot sizes r k) e (next_spot sizes r at page are p n (omega arith) before_it))
    (cases_lt i (suc n))

-- the greatest of some values
pub greatest_all : (f : ℕ → ℤ) (n i : ℕ) → i < n → f i ≤ℤ greatest_of f n
unfolding greatest_of
greatest_all f zero i h = absurd (omega arith)
greatest_all f (suc n) i h =
    ⊎_elim (λ less. let le : f i ≤ℤ greatest_of f n = greatest_all f n i less in omega (arith, ints, clamps))
    (λ more. let e : n ≡ i = omega arith in let le : f n ≤ℤ int_max (greatest_of f n) (f n) = omega (arith, ints, clamps) in subst (λ (k : ℕ). f k ≤ℤ int_max (greatest_of f n) (f n)) e le)
    (cases_lt i n)

greatest_some : (f : ℕ → ℤ) (n : ℕ) → ((i : ℕ) → i < n → pos 0 ≤ℤ f i) → 0 < n → (i : ℕ) × (i < n) × (f i ≡ greatest_of f n)
unfolding greatest_of
greatest_some f zero all h = absurd (omega arith)
greatest_some f (suc zero) all h = let low = all 0 (omega arith) in (0, omega arith, omega (arith, ints, clamps, low))
greatest_some f (suc (suc n)) all h =
    let (i, lt, is) = greatest_some f (suc n) (λ j less. all j (omega arith)) (omega arith) in
    by_lt_z (greatest_of f (suc n)) (f (suc n))
    (λ less. (suc n, omega arith, omega (arith, ints, clamps)))
    (λ more. (i, omega arith, omega (arith, ints, clamps, is)))

greatest_is : (f g : ℕ → ℤ) (n : ℕ) → ((i : ℕ) → i < n → pos 0 ≤ℤ f i) → ((i : ℕ) → i < n → g i ≡ f i) → IsGreatest n g (greatest_of f n)
unfolding greatest_of
greatest_is f g n low same =
    record {
      none = λ e. let z : greatest_of f 0 ≡ pos 0 = refl in ap (λ (k : ℕ). greatest_of f k) e ∙ z;
      some = λ h. let (i, lt, is) = greatest_some f n low h in (i, lt, same i lt ∙ is);
      all = λ i lt. let le : f i ≤ℤ greatest_of f n = greatest_all f n i lt in let e : g i ≡ f i = same i lt in omega (arith, ints, le, e);
    }

greatest_one : (n : ℕ) (f : ℕ → ℤ) (y z : ℤ) → IsGreatest n f y → IsGreatest n f z → y ≡ z
greatest_one n f y z a b =
    ⊎_elim
    (λ some. let (i, i_lt, i_is) = a.some some in
    let (j, j_lt, j_is) = b.some some in
    let up : f i ≤ℤ z = b.all i i_lt in
    let down : f j ≤ℤ y = a.all j j_lt in
    omega (arith, ints, up, down, i_is, j_is))
    (λ none. let e : n ≡ 0 = omega arith in a.none e ∙ sym (b.none e))
    (cases_lt 0 n)

-- the extent of boxes at these spots
low_spots : (sizes : List Size) (r : Page) → IsPage r → EachSize sizes → (i : ℕ) → i < length sizes → (pos 0 ≤ℤ spot_right sizes r i) × (pos 0 ≤ℤ spot_bottom sizes r i)
low_spots sizes r page are i h =
    let near = near_row i r (before sizes r i) (overflows r (before sizes r i) (size_at sizes i)) page (near_before sizes r page are i (omega arith)) in
    (omega (arith, ints, near.right, (are i h).0), omega (arith, ints, near.down, (are i h).2))

pub extent_is : (sizes : List Size) (r : Page) (at : List Point) → IsPage r → EachSize sizes → AreSpots sizes r (length sizes) at → HasExtent sizes at (measured_to sizes r (length sizes)).extent
extent_is sizes r at page are spots =
    record {
      width = greatest_is (spot_right sizes r) (right_of sizes at) (length sizes) (λ i h. (low_spots sizes r page are i h).0)
          (λ i h. ap (λ (p : Point). p.x +ℤ (size_at sizes i).width) (spots i h));
      height = greatest_is (spot_bottom sizes r) (bottom_of sizes at) (length sizes) (λ i h. (low_spots sizes r page are i h).1)
          (λ i h. ap (λ (p : Point). p.y +ℤ (size_at sizes i).height) (spots i h));
    }

pub long_is : (sizes : List Size) (gap limit : ℤ) (at : List Point) (extent : Size) → IsPage (page_of gap limit) → EachSize sizes → IsPacked sizes gap limit at → HasExtent sizes at extent → long_side extent ≡ long_at sizes gap limit
long_is sizes gap limit at extent page are p has =
    let spots = spots_of sizes (page_of gap limit) at page are p (length sizes) (omega arith) in
    let is = extent_is sizes (page_of gap limit) at page are spots in
    let w : extent.width ≡ greatest_of (spot_right sizes (page_of gap limit)) (length sizes) = greatest_one _ (right_of sizes at) _ _ has.width is.width in
    let h : extent.height ≡ greatest_of (spot_bottom sizes (page_of gap limit)) (length sizes) = greatest_one _ (bottom_of sizes at) _ _ has.height is.height in
    ap (λ (z : ℤ). int_max z extent.height) w ∙ ap (λ (z : ℤ). int_max (greatest_of (spot_right sizes (page_of gap limit)) (length sizes)) z) h

pub rows_are : (sizes : List Size) (r : Page) (at : List Point) (extent : Size) → IsPage r → EachSize sizes → length at ≡ length sizes → AreSpots sizes r (length sizes) at
    → extent ≡ (measured_to sizes r (length sizes)).extent → AreRows sizes r.gap r.limit (record { at = at; extent = extent })
rows_are sizes r at extent page are count spots e =
    record {
      places = packed sizes r at page are count spots;
      extent = subst (λ (z : Size). HasExtent sizes at z) (sym e) (extent_is sizes r at page are spots);
    }
