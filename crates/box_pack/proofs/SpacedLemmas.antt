-- Rows are filled from left to right and from above: what holds of the boxes so far holds with the next one.
use Rattle.std.proofs.Common.{◌≡◌, ◌⊎◌, ⊎_elim, inl, inr, refl, ap, subst, ℕ, zero, suc, ◌<◌, ◌≤◌, List, length, ℤ, pos, ◌+ℤ◌, ◌≤ℤ◌, arith}
use Rattle.std.proofs.lemmas.Bool.{cases_lt}
use Rattle.std.proofs.lemmas.Int.{ints, by_lt_z}
use Rattle.drawing_types.specs.declared.shape.Point.{Point}
use Rattle.drawing_types.specs.declared.shape.Size.{Size}
use Rattle.box_pack.specs.Boxes.{IsGreatest, IsPacked, IsTallest, bottom_of, point_at, reach_beside, right_of}
use Rattle.box_pack.specs.Spaced.{AreSolid, RowsAreSpaced, gapped, height_at, width_at}

-- ---- sums

gapped_more : (gap : ℤ) (value : ℕ → ℤ) (i : ℕ) → gapped gap value (suc i) ≡ gapped gap value i +ℤ (value i +ℤ gap)
unfolding gapped
gapped_more gap value i = refl

gapped_none : (gap : ℤ) (value : ℕ → ℤ) → gapped gap value 0 ≡ pos 0
unfolding gapped
gapped_none gap value = refl

gapped_least : (gap : ℤ) (value : ℕ → ℤ) (n : ℕ) → pos 0 ≤ℤ gap → ((i : ℕ) → i < n → pos 0 ≤ℤ value i) → pos 0 ≤ℤ gapped gap value n
unfolding gapped
gapped_least gap value zero room low = omega (arith, ints)
gapped_least gap value (suc n) room low =
    let rest = gapped_least gap value n room (λ i less. low i (omega (arith, less))) in
    let here = low n (omega arith) in
    omega (arith, ints, rest, here, room)

gapped_rises : (gap : ℤ) (value : ℕ → ℤ) (m n : ℕ) → pos 0 ≤ℤ gap → ((i : ℕ) → i < n → pos 0 ≤ℤ value i) → m ≤ n → gapped gap value m ≤ℤ gapped gap value n
unfolding gapped
gapped_rises gap value m zero room low h = let e : 0 ≡ m = omega (arith, h) in subst (λ k. gapped gap value k ≤ℤ pos 0) e (omega (arith, ints))
gapped_rises gap value m (suc n) room low h =
    ⊎_elim
    (λ (less : m < suc n).
    let rest = gapped_rises gap value m n room (λ i l. low i (omega (arith, l))) (omega (arith, less)) in
    let here = low n (omega arith) in
    omega (arith, ints, rest, here, room))
    (λ (more : suc n ≤ m).
    let e : suc n ≡ m = omega (arith, h, more) in
    subst (λ k. gapped gap value k ≤ℤ (gapped gap value n +ℤ (value n +ℤ gap))) e (omega (arith, ints)))
    (cases_lt m (suc n))

module _ (sizes : List Size) (gap limit : ℤ) (at : List Point) (solid : AreSolid sizes) (room : pos 0 ≤ℤ gap) (rows : IsPacked sizes gap limit at) where
  abbrev x : ℕ → ℤ
  x i = (point_at at i).x

  abbrev y : ℕ → ℤ
  y i = (point_at at i).y

  abbrev w : ℕ → ℤ
  w = width_at sizes

  abbrev h : ℕ → ℤ
  h = height_at sizes

  -- box j stands left of box i in its row, or above it
  abbrev IsClear : ℕ → ℕ → Type 0
  IsClear j i = ((y j ≡ y i) × (((x j +ℤ w j) +ℤ gap) ≤ℤ x i)) ⊎ (((y j +ℤ h j) +ℤ gap) ≤ℤ y i)

  -- box i after the boxes before it
  record IsNext (i : ℕ) : Type 0 where
    right : pos 0 ≤ℤ x i
    down : pos 0 ≤ℤ y i
    clear : (j : ℕ) → j < i → IsClear j i
    wide : x i ≤ℤ gapped gap w i
    high : y i ≤ℤ gapped gap h i
    low : (j : ℕ) → j ≤ i → ((y j +ℤ h j) +ℤ gap) ≤ℤ gapped gap h (suc i)

  first_is : 0 < length sizes → IsNext 0
  first_is some =
      let start = rows.first some in
      let at_x : x 0 ≡ pos 0 = ap (λ (p : Point). p.x) start in
      let at_y : y 0 ≡ pos 0 = ap (λ (p : Point). p.y) start in
      let none_w = gapped_none gap w in
      let none_h = gapped_none gap h in
      record {
        right = omega (arith, ints, at_x);
        down = omega (arith, ints, at_y);
        clear = λ j less. absurd (omega (arith, less));
        wide = omega (arith, ints, at_x, none_w);
        high = omega (arith, ints, at_y, none_h);
        low = λ j most. let e : 0 ≡ j = omega (arith, most) in subst (λ k. ((y k +ℤ h k) +ℤ gap) ≤ℤ gapped gap h 1) e
            (let more = gapped_more gap h 0 in omega (arith, ints, at_y, none_h, more));
      }

  same_or_less : (P : ℕ → Type 0) (j i : ℕ) → j < suc i → (j < i → P j) → P i → P j
  same_or_less P j i less before here =
      ⊎_elim (λ (l : j < i). before l) (λ (m : i ≤ j). let e : i ≡ j = omega (arith, less, m) in subst P e here) (cases_lt j i)

  -- a box beside the one before it
  beside : (i : ℕ) → suc i < length sizes → IsNext i → point_at at (suc i) ≡ record { x = right_of sizes at i +ℤ gap; y = y i } → IsNext (suc i)
  beside i there before stands =
      let at_x : x (suc i) ≡ (x i +ℤ w i) +ℤ gap = ap (λ (p : Point). p.x) stands in
      let at_y : y (suc i) ≡ y i = ap (λ (p : Point). p.y) stands in
      let wide = solid.width i (omega (arith, there)) in
      let high = solid.height i (omega (arith, there)) in
      let own = solid.height (suc i) there in
      let more_w = gapped_more gap w i in
      let more_h = gapped_more gap h i in
      let again = gapped_more gap h (suc i) in
      let right = before.right in
      let down = before.down in
      let reach = before.wide in
      let sunk = before.low i (omega arith) in
      record {
        right = omega (arith, ints, at_x, right, wide, room);
        down = omega (arith, ints, at_y, down);
        clear = λ j less. same_or_less (λ k. IsClear k (suc i)) j i less
            (λ earlier. ⊎_elim
            (λ (left : (y j ≡ y i) × (((x j +ℤ w j) +ℤ gap) ≤ℤ x i)).
            let row = left.0 in let end = left.1 in inl (omega (arith, ints, row, at_y), omega (arith, ints, end, at_x, wide, room)))
            (λ above. inr (omega (arith, ints, above, at_y)))
            (before.clear j earlier))
            (inl (omega (arith, ints, at_y), omega (arith, ints, at_x)));
        wide = omega (arith, ints, at_x, reach, more_w);
        high = omega (arith, ints, at_y, sunk, high, room);
        low = λ j most. same_or_less (λ k. ((y k +ℤ h k) +ℤ gap) ≤ℤ gapped gap h (suc (suc i))) j (suc i) (omega (arith, most))
            (λ earlier. let low = before.low j (omega (arith, earlier)) in omega (arith, ints, low, again, own, room))
            (omega (arith, ints, at_y, sunk, high, room, again));
      }

  -- a box below the row of the one before it
  under : (i : ℕ) → suc i < length sizes → IsNext i → (tall : ℤ) → IsTallest sizes at i tall → point_at at (suc i) ≡ record { x = pos 0; y = (y i +ℤ tall) +ℤ gap } → IsNext (suc i)
  under i there before tall tallest stands =
      let at_x : x (suc i) ≡ pos 0 = ap (λ (p : Point). p.x) stands in
      let at_y : y (suc i) ≡ (y i +ℤ tall) +ℤ gap = ap (λ (p : Point). p.y) stands in
      let (t, t_most, t_row, t_is) = tallest.some in
      let t_solid = solid.height t (omega (arith, there, t_most)) in
      let t_low = before.low t t_most in
      let down = before.down in
      let own = solid.height (suc i) there in
      let again = gapped_more gap h (suc i) in
      let sum = gapped_least gap w (suc i) room (λ k less. solid.width k (omega (arith, less, there))) in
      record {
        right = omega (arith, ints, at_x);
        down = omega (arith, ints, at_y, down, t_solid, t_is, room);
        clear = λ j less.
            let in_row : y j ≡ y i → IsClear j (suc i) = λ row. let short = tallest.all j (omega (arith, less)) row in inr (omega (arith, ints, row, short, at_y)) in
            same_or_less (λ k. IsClear k (suc i)) j i less
            (λ earlier. ⊎_elim
            (λ (left : (y j ≡ y i) × (((x j +ℤ w j) +ℤ gap) ≤ℤ x i)). in_row left.0)
            (λ above. inr (omega (arith, ints, above, at_y, t_solid, t_is, room)))
            (before.clear j earlier))
            (let short = tallest.all i (omega arith) refl in inr (omega (arith, ints, short, at_y)));
        wide = omega (arith, ints, at_x, sum);
        high = omega (arith, ints, at_y, t_low, t_row, t_is);
        low = λ j most. same_or_less (λ k. ((y k +ℤ h k) +ℤ gap) ≤ℤ gapped gap h (suc (suc i))) j (suc i) (omega (arith, most))
            (λ earlier. let low = before.low j (omega (arith, earlier)) in omega (arith, ints, low, again, own, room))
            (omega (arith, ints, at_y, t_low, t_row, t_is, again));
      }

  next : (i : ℕ) → i < length sizes → IsNext i
  next zero there = first_is there
  next (suc i) there =
      let before = next i (omega (arith, there)) in
      by_lt_z limit (reach_beside sizes gap at i)
      (λ over. let (tall, tallest, stands) = rows.below i there over in under i there before tall tallest stands)
      (λ fits. beside i there before (rows.beside i there fits))

  clear_of : (j i : ℕ) → IsClear j i → (((x j +ℤ w j) +ℤ gap) ≤ℤ x i) ⊎ (((y j +ℤ h j) +ℤ gap) ≤ℤ y i)
  clear_of j i c = ⊎_elim (λ (left : (y j ≡ y i) × (((x j +ℤ w j) +ℤ gap) ≤ℤ x i)). inl left.1) (λ above. inr above) c

  most_wide : (z : ℤ) → IsGreatest (length sizes) (right_of sizes at) z → z ≤ℤ gapped gap w (length sizes)
  most_wide z greatest =
      ⊎_elim
      (λ (some : 0 < length sizes).
      let (i, there, is) = greatest.some some in
      let own = (next i there).wide in
      let more = gapped_more gap w i in
      let all = gapped_rises gap w (suc i) (length sizes) room (λ k less. solid.width k less) (omega (arith, there)) in
      omega (arith, ints, is, own, more, all, room))
      (λ (none : length sizes ≤ 0).
      let is = greatest.none (omega (arith, none)) in
      let least = gapped_least gap w (length sizes) room (λ k less. solid.width k less) in
      omega (arith, ints, is, least))
      (cases_lt 0 (length sizes))

  most_high : (z : ℤ) → IsGreatest (length sizes) (bottom_of sizes at) z → z ≤ℤ gapped gap h (length sizes)
  most_high z greatest =
      ⊎_elim
      (λ (some : 0 < length sizes).
      let (i, there, is) = greatest.some some in
      let own = (next i there).high in
      let more = gapped_more gap h i in
      let all = gapped_rises gap h (suc i) (length sizes) room (λ k less. solid.height k less) (omega (arith, there)) in
      omega (arith, ints, is, own, more, all, room))
      (λ (none : length sizes ≤ 0).
      let is = greatest.none (omega (arith, none)) in
      let least = gapped_least gap h (length sizes) room (λ k less. solid.height k less) in
      omega (arith, ints, is, least))
      (cases_lt 0 (length sizes))

pub rows_are_spaced : RowsAreSpaced
rows_are_spaced sizes gap limit rows solid room are =
    let packed = are.places in
    record {
      as_many = packed.count;
      first = packed.first;
      right = λ i there. (next sizes gap limit rows.at solid room packed i there).right;
      down = λ i there. (next sizes gap limit rows.at solid room packed i there).down;
      apart = λ i j less there. clear_of sizes gap limit rows.at solid room packed j i ((next sizes gap limit rows.at solid room packed i there).clear j less);
      width = most_wide sizes gap limit rows.at solid room packed rows.extent.width are.extent.width;
      height = most_high sizes gap limit rows.at solid room packed rows.extent.height are.extent.height;
    }
