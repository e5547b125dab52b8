-- How rows grow, box by box.
use Rattle.std.proofs.Common.{◌≡◌, ◌⊎◌, ⊎_elim, sym, ap, subst, ◌∙◌, ℕ, zero, suc, ◌+◌, ◌<◌, ◌≤◌, Bool, true, false, List, length, [], ◌∷◌, ◌++◌, ℤ, pos, ◌≤ℤ◌, ◌<ℤ◌, arith, add-one}
use Rattle.std.specs.Prelude.{int_lt}
use Rattle.std.proofs.lemmas.Int.{ints, clamps}
use Rattle.std.proofs.lemmas.Bool.{cases_lt}
use Rattle.drawing_types.specs.declared.shape.Point.{Point}
use Rattle.drawing_types.specs.declared.shape.Size.{Size}
use Rattle.box_pack.specs.declared.walk.Cursor.{Cursor}
use Rattle.box_pack.specs.declared.walk.Page.{Page}
use Rattle.box_pack.specs.Boxes.{size_at, point_at, IsSize, AreSizes, EachSize}
use Rattle.box_pack.specs.Walk.{overflows, row_or, row_for, behind, advance, before, spot, greatest_of, next_to, measured_to, grown, next_with, AreSpots, IsNear, IsPage}
use Rattle.std.proofs.lemmas.List.{get_or_append_left}
use Rattle.std.proofs.lemmas.List.Elements.{All-get_or}
use Rattle.std.proofs.Math.Seq.{get_or-append_seam}

pub same_cursor : (a b c x y z : ℤ) → a ≡ x → b ≡ y → c ≡ z → (let l : Cursor = record { x = a; y = b; tall = c } in let r : Cursor = record { x = x; y = y; tall = z } in l ≡ r)
same_cursor a b c x y z p q r = cc

pub same_size : (a b x y : ℤ) → a ≡ x → b ≡ y → (let l : Size = record { width = a; height = b } in let r : Size = record { width = x; height = y } in l ≡ r)
same_size a b x y p q = cc

pub same_point : (a b x y : ℤ) → a ≡ x → b ≡ y → (let l : Point = record { x = a; y = b } in let r : Point = record { x = x; y = y } in l ≡ r)
same_point a b x y p q = cc

-- the row of a box is near, and so is the row behind it
pub near_row : (n : ℕ) (r : Page) (c : Cursor) (over : Bool) → IsPage r → IsNear n c → IsNear (suc n) (row_or r.gap c over)
near_row n r c true page near =
    record { right = omega (arith, ints); near = omega (arith, ints); down = omega (arith, ints, near.down, near.tall, page.0); tall = omega (arith, ints); low = omega (arith, ints, near.low, page.1) }
near_row n r c false page near =
    record { right = near.right; near = omega (arith, ints, near.near); down = near.down; tall = near.tall; low = omega (arith, ints, near.low) }

near_behind : (n : ℕ) (r : Page) (c : Cursor) (s : Size) (over : Bool) → IsPage r → IsSize s → IsNear n c → IsNear (suc n) (behind r.gap (row_or r.gap c over) s)
near_behind n r c s true page size near =
    record {
      right = omega (arith, ints, size.0, page.0);
      near = omega (arith, ints, size.1, page.1);
      down = omega (arith, ints, near.down, near.tall, page.0);
      tall = omega (arith, ints, clamps);
      low = omega (arith, ints, clamps, near.low, page.1, size.3);
    }
near_behind n r c s false page size near =
    record {
      right = omega (arith, ints, size.0, page.0, near.right);
      near = omega (arith, ints, size.1, page.1, near.near);
      down = near.down;
      tall = omega (arith, ints, clamps, near.tall);
      low = omega (arith, ints, clamps, near.low, near.tall, size.3);
    }

pub near_before : (sizes : List Size) (r : Page) → IsPage r → EachSize sizes → (i : ℕ) → i ≤ length sizes → IsNear i (before sizes r i)
unfolding before
near_before sizes r page are zero h =
    record { right = omega (arith, ints); near = omega (arith, ints); down = omega (arith, ints); tall = omega (arith, ints); low = omega (arith, ints) }
near_before sizes r page are (suc i) h =
    near_behind i r (before sizes r i) (size_at sizes i) (overflows r (before sizes r i) (size_at sizes i)) page (are i (omega arith)) (near_before sizes r page are i (omega arith))

-- a wider bound
pub near_more : (m n : ℕ) (c : Cursor) → m ≤ n → IsNear m c → IsNear n c
near_more m n c h near =
    record { right = near.right; near = omega (arith, ints, near.near); down = near.down; tall = near.tall; low = omega (arith, ints, near.low) }

pub step_before : (sizes : List Size) (r : Page) (i : ℕ) (c row next : Cursor) (s : Size) → c ≡ before sizes r i → s ≡ size_at sizes i → row ≡ row_for r c s → next ≡ behind r.gap row s → next ≡ before sizes r (i + 1)
unfolding before
step_before sizes r i c row next s p q e f =
    rw add-one (f ∙ ap (λ (z : Cursor). behind r.gap z s) e ∙ ap (λ (z : Cursor). advance r z s) p ∙ ap (λ (z : Size). advance r (before sizes r i) z) q)

pub step_width : (sizes : List Size) (r : Page) (i : ℕ) (c row : Cursor) (s extent now : Size) → c ≡ before sizes r i → s ≡ size_at sizes i → row ≡ row_for r c s → extent ≡ (measured_to sizes r i).extent → now ≡ grown extent row s → now ≡ (measured_to sizes r (i + 1)).extent
unfolding greatest_of
step_width sizes r i c row s extent now p q e m f =
    rw add-one (f ∙ ap (λ (z : Size). grown z row s) m ∙ ap (λ (z : Cursor). grown (measured_to sizes r i).extent z s) e
    ∙ ap (λ (z : Cursor). grown (measured_to sizes r i).extent (row_for r z s) s) p
    ∙ ap (λ (z : Size). grown (measured_to sizes r i).extent (row_for r (before sizes r i) z) z) q)

pub step_next : (sizes : List Size) (r : Page) (i : ℕ) (c : Cursor) (s : Size) (next now : ℤ) → c ≡ before sizes r i → s ≡ size_at sizes i → next ≡ next_to sizes r i → now ≡ next_with next r c s → now ≡ next_to sizes r (i + 1)
unfolding next_to
step_next sizes r i c s next now p q m f =
    rw add-one (f ∙ ap (λ (z : ℤ). next_with z r c s) m ∙ ap (λ (z : Cursor). next_with (next_to sizes r i) r z s) p
    ∙ ap (λ (z : Size). next_with (next_to sizes r i) r (before sizes r i) z) q)

-- what the calls for the next box require
pub at_near : (sizes : List Size) (r : Page) (i : ℕ) (c : Cursor) → IsPage r → EachSize sizes → i ≤ length sizes → length sizes ≤ 2048 → c ≡ before sizes r i → IsNear 2048 c
at_near sizes r i c page are h few e =
    let P : Cursor → Type 0 = λ z. IsNear 2048 z in
    subst P (sym e) (near_more i 2048 (before sizes r i) (omega arith) (near_before sizes r page are i h))

pub row_near : (r : Page) (c row : Cursor) (s : Size) → IsPage r → IsNear 2048 c → row ≡ row_for r c s → IsNear 2049 row
row_near r c row s page near e =
    let P : Cursor → Type 0 = λ z. IsNear 2049 z in
    subst P (sym e) (near_row 2048 r c (overflows r c s) page near)

abbrev point_of : Cursor → Point
point_of c = record { x = c.x; y = c.y }

-- the next place
pub push_spot : (sizes : List Size) (r : Page) (i : ℕ) (old new : List Point) (c row : Cursor) → c ≡ before sizes r i → row ≡ row_for r c (size_at sizes i) → length old ≡ i
    → new ≡ old ++ (record { x = row.x; y = row.y }) ∷ [] → AreSpots sizes r i old → AreSpots sizes r (i + 1) new
push_spot sizes r i old new c row e f count items spots =
    let d : Point = record { x = pos 0; y = pos 0 } in
    let p : Point = record { x = row.x; y = row.y } in
    λ k h. ⊎_elim
    (λ (less : k < i). ap (λ (z : List Point). point_at z k) items ∙ get_or_append_left old (p ∷ []) d k (omega arith) ∙ spots k less)
    (λ (more : i ≤ k). let same : length old ≡ k = omega arith in
    let at : i ≡ k = omega arith in
    ap (λ (z : List Point). point_at z k) items
    ∙ subst (λ (m : ℕ). point_at (old ++ p ∷ []) m ≡ p) same (get_or-append_seam old p [] d)
    ∙ ap point_of (f ∙ ap (λ (z : Cursor). row_for r z (size_at sizes i)) e)
    ∙ ap (λ (m : ℕ). spot sizes r m) at)
    (cases_lt k i)

pub same_page : (a b x y : ℤ) → a ≡ x → b ≡ y → (let l : Page = record { gap = a; limit = b } in let r : Page = record { gap = x; limit = y } in l ≡ r)
same_page a b x y p q = cc

-- what tests say
pub lt_yes : (a b : ℤ) → a <ℤ b → int_lt a b ≡ true
lt_yes a b h = grind (arith, ints)

pub lt_no : (a b : ℤ) → b ≤ℤ a → int_lt a b ≡ false
lt_no a b h = grind (arith, ints)

pub each_size : (sizes : List Size) → AreSizes sizes → EachSize sizes
each_size sizes are i h = let d : Size = record { width = pos 0; height = pos 0 } in All-get_or IsSize sizes i d h are
