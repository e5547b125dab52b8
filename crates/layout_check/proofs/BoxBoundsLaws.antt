-- Bounds that grow, and parts that stand apart where their bounds do.
use Rattle.std.proofs.Common.{SFits, of_z, to_z, ◌≡◌, ℕ, ◌<◌, ◌≤◌, ◌≤ℤ◌, Bool, ℤ, List, length, set, get_or-set_same, get_or-set_other, arith, sym, subst, inl, inr, true, false, ⊎_elim}
use Rattle.std.proofs.lemmas.Bool.{cases_eq, cases_lt}
use Rattle.std.proofs.lemmas.Int.{ints, to_z-of_z}
use Rattle.std.specs.Int.{w128}
use Rattle.std.proofs.Math.ListN.{length-set}
use Rattle.drawing_types.specs.declared.shape.Rect.{Rect}
use Rattle.elk_doc.specs.declared.document.Direction.{Direction}
use Rattle.elk_doc.specs.declared.document.LevelOptions.{LevelOptions}
use Rattle.elk_doc.specs.declared.drawing.Certificate.{Certificate}
use Rattle.elk_doc.specs.declared.drawing.Placed.{Placed}
use Rattle.elk_doc.specs.Apart.{PartsApart}
use Rattle.elk_doc.specs.Content.{EachShapeOf}
use Rattle.elk_doc.specs.Document.{Document}
use Rattle.elk_doc.specs.Drawing.{part_in, point_at}
use Rattle.elk_doc.specs.Places.{outline_of}
use Rattle.drawing_types.specs.Shapes.{point_rect}
use Rattle.layout_check.specs.declared.box_bounds.Bounds.{Bounds}
use Rattle.layout_check.specs.BoxBounds.{BoundsApart, Covers, Encloses, Held, Keeps, OutlineHeld, RouteHeld, bounds_at}
use Rattle.layout_check.specs.FirstApart.{IsBeyond, PartsBeyond, PartsHold}

trans_le : (x y z : ℤ) → x ≤ℤ y → y ≤ℤ z → x ≤ℤ z
trans_le x y z f g = omega (arith, ints)

-- what bounds hold is held by bounds round them
enclosed : (gap : ℤ) (way : Direction) (b c : Bounds) (r : Rect) → Covers b c → Encloses gap way c r → Encloses gap way b r
enclosed gap way b c r out h =
    record {
      left = trans_le b.left c.left _ out.left h.left;
      top = trans_le b.top c.top _ out.top h.top;
      right = trans_le _ c.right b.right h.right out.right;
      bottom = trans_le _ c.bottom b.bottom h.bottom out.bottom;
    }

-- bounds that are set to some round them hold what they held, and what those hold
pub set_keeps : (o : LevelOptions) (xs : List Bounds) (i : ℕ) (b : Bounds) → i < length xs → Covers b (bounds_at xs i) → Keeps o xs (set xs i b)
set_keeps o xs i b inside out k r h =
    elim (cases_eq k i) [
      | inl same ↦
          let here : bounds_at (set xs i b) i ≡ b = get_or-set_same xs i b _ inside in
          let was : Encloses o.component o.direction (bounds_at xs i) r = subst (λ k. Encloses o.component o.direction (bounds_at xs k) r) same h.1 in
          let now : Encloses o.component o.direction (bounds_at (set xs i b) i) r = subst (λ c. Encloses o.component o.direction c r) (sym here) (enclosed o.component o.direction b (bounds_at xs i) r out was) in
          (rw (length-set xs i b) h.0, subst (λ k. Encloses o.component o.direction (bounds_at (set xs i b) k) r) (sym same) now)
      | inr differ ↦
          let there : bounds_at (set xs i b) k ≡ bounds_at xs k = get_or-set_other xs i k b _ differ in
          (rw (length-set xs i b) h.0, subst (λ c. Encloses o.component o.direction c r) (sym there) h.1)
    ]

pub set_holds : (o : LevelOptions) (xs : List Bounds) (i : ℕ) (b c : Bounds) (r : Rect) → i < length xs → Covers b c → Encloses o.component o.direction c r → Held o (set xs i b) i r
set_holds o xs i b c r inside out h =
    let here : bounds_at (set xs i b) i ≡ b = get_or-set_same xs i b _ inside in
    (rw (length-set xs i b) inside, subst (λ c. Encloses o.component o.direction c r) (sym here) (enclosed o.component o.direction b c r out h))

-- where each rectangle in the bounds of a part has a property, each shape of the part has it
each_shape : (d : Document) (p : Placed) (n : ℕ) (o : LevelOptions) (c : Certificate) (xs : List Bounds) (j : ℕ) (Q : Rect → Type 0) → ((a : ℕ) → OutlineHeld d p n o c xs a) → ((e : ℕ) → RouteHeld d p n o c xs e) → ((s : Rect) → Held o xs j s → Q s) → EachShapeOf d p n (λ b. part_in d n c b ≡ j) Q
each_shape d p n o c xs j Q outs routes f =
    record {
      outlines = λ b child keep. f (outline_of d p b) (subst (λ i. Held o xs i (outline_of d p b)) keep (outs b child));
      points = λ e i edge keep l.
          f (point_rect (point_at p e i)) (subst (λ k. Held o xs k (point_rect (point_at p e i))) keep (routes e edge i l));
    }

-- bounds left of others hold what lies left of what those hold, and so for bounds above others
left_held : (o : LevelOptions) (xs : List Bounds) (i j : ℕ) (r s : Rect) → (bounds_at xs i).right ≤ℤ (bounds_at xs j).left → Held o xs i r → Held o xs j s → IsBeyond true o.component o.direction r s
left_held o xs i j r s h one other =
    trans_le _ (bounds_at xs i).right _ one.1.right (trans_le (bounds_at xs i).right (bounds_at xs j).left _ h other.1.left)

above_held : (o : LevelOptions) (xs : List Bounds) (i j : ℕ) (r s : Rect) → (bounds_at xs i).bottom ≤ℤ (bounds_at xs j).top → Held o xs i r → Held o xs j s → IsBeyond false o.component o.direction r s
above_held o xs i j r s h one other =
    trans_le _ (bounds_at xs i).bottom _ one.1.bottom (trans_le (bounds_at xs i).bottom (bounds_at xs j).top _ h other.1.top)

beyond_all : (d : Document) (p : Placed) (n : ℕ) (o : LevelOptions) (c : Certificate) (xs : List Bounds) (across : Bool) (i j : ℕ) → ((a : ℕ) → OutlineHeld d p n o c xs a) → ((e : ℕ) → RouteHeld d p n o c xs e) → ((r s : Rect) → Held o xs i r → Held o xs j s → IsBeyond across o.component o.direction r s) → PartsBeyond d p n o c across i j
beyond_all d p n o c xs across i j outs routes f =
    each_shape d p n o c xs i _ outs routes (λ r held. each_shape d p n o c xs j (λ s. IsBeyond across o.component o.direction r s) outs routes (λ s other. f r s held other))

-- parts stand apart where their bounds do
parts_apart : (d : Document) (p : Placed) (n : ℕ) (o : LevelOptions) (c : Certificate) (xs : List Bounds) (i j : ℕ) → ((a : ℕ) → OutlineHeld d p n o c xs a) → ((e : ℕ) → RouteHeld d p n o c xs e) → BoundsApart (bounds_at xs i) (bounds_at xs j) → PartsApart d p n o c i j
parts_apart d p n o c xs i j outs routes (inl (inl h)) = inl (inl (beyond_all d p n o c xs true i j outs routes (λ r s. left_held o xs i j r s h)))
parts_apart d p n o c xs i j outs routes (inl (inr h)) = inl (inr (beyond_all d p n o c xs false i j outs routes (λ r s. above_held o xs i j r s h)))
parts_apart d p n o c xs i j outs routes (inr (inl h)) = inr (inl (beyond_all d p n o c xs true j i outs routes (λ r s. left_held o xs j i r s h)))
parts_apart d p n o c xs i j outs routes (inr (inr h)) = inr (inr (beyond_all d p n o c xs false j i outs routes (λ r s. above_held o xs j i r s h)))

-- two least children of parts whose bounds are all apart keep their parts' distance
pub all_apart : (d : Document) (p : Placed) (n : ℕ) (o : LevelOptions) (c : Certificate) (xs : List Bounds) → ((a : ℕ) → OutlineHeld d p n o c xs a) → ((e : ℕ) → RouteHeld d p n o c xs e) → ((i j : ℕ) → i < j → j < length xs → BoundsApart (bounds_at xs i) (bounds_at xs j)) → (a b : ℕ) → PartsHold d p n o c a b
all_apart d p n o c xs outs routes far a b split one other less =
    let i = part_in d n c a in
    let j = part_in d n c b in
    elim (cases_lt i j) [
      | inl before ↦ parts_apart d p n o c xs i j outs routes (far i j before (outs b other.child).0)
      | inr after ↦
          elim (cases_eq i j) [
            | inl same ↦ absurd (let le : b ≤ a = other.least a one.child same in omega arith)
            | inr differ ↦
                let behind : j < i = omega arith in
                ⊎_elim inr inl (parts_apart d p n o c xs j i outs routes (far j i behind (outs a one.child).0))
          ]
    ]

-- numbers that go into a call and come out of it
pub below : (x y : ℤ) → SFits w128 x → SFits w128 y → x ≤ℤ to_z w128 (of_z w128 y) → to_z w128 (of_z w128 x) ≤ℤ y
below x y f g h = rw (to_z-of_z w128 x f) (subst (λ z. x ≤ℤ z) (to_z-of_z w128 y g) h)

pub above : (x y : ℤ) → SFits w128 x → SFits w128 y → to_z w128 (of_z w128 y) ≤ℤ x → y ≤ℤ to_z w128 (of_z w128 x)
above x y f g h = rw (to_z-of_z w128 x f) (subst (λ z. z ≤ℤ x) (to_z-of_z w128 y g) h)
