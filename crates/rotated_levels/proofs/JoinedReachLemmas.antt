-- The parts lie where they stand, and the whole begins at 0 with a tight extent.
use Rattle.std.proofs.Common.{◌≡◌, ◌≢◌, ◌⊎◌, inl, inr, ⊎_elim, ℕ, ◌<◌, ◌≤◌, List, [], ◌∷◌, length, map, slice_index, ℤ, pos, ◌+ℤ◌, ◌-ℤ◌, ◌≤ℤ◌, refl, sym, ap, ◌∙◌, subst, subst₂, arith}
use Rattle.std.specs.List.{range_with_len}
use Rattle.std.specs.Int.{int_min, int_max}
use Rattle.std.proofs.lemmas.Bool.{cases_lt}
use Rattle.std.proofs.lemmas.Int.{ints, clamps}
use Rattle.drawing_types.specs.declared.shape.Point.{Point}
use Rattle.drawing_types.specs.declared.shape.Rect.{Rect}
use Rattle.drawing_types.specs.declared.shape.Size.{Size}
use Rattle.drawing_types.specs.declared.section.Section.{Section}
use Rattle.drawing_types.specs.Clearance.{StandsClear}
use Rattle.drawing_types.specs.Shapes.{origin}
use Rattle.drawing_types.proofs.SameShapes.{same_point}
use Rattle.drawing_types.specs.Shapes.{Holds, bottom_of, hull, hull_size, point_rect, rect_at, right_of}
use Rattle.box_pack.specs.declared.packing.Rows.{Rows}
use Rattle.box_pack.specs.Boxes.{point_at}
use Rattle.box_pack.specs.Spaced.{AreSolid, AreSpaced}
use Rattle.box_pack.proofs.SpacedLemmas.{rows_are_spaced}
use Rattle.level_draw.specs.Drawing.{IsTight, outlines_in}
use Rattle.working_frame.specs.Reach.{IsReach, abscissae, corners_of, greatest, heights, least, points_along, points_of, reached}
use Rattle.level_model.specs.FromPlan.{LevelDrawing, section_at}
use Rattle.level_model.specs.Level.{Orders, PlainLevel, PlainPlan}
use Rattle.plan_laws.specs.Routes.{route_count, route_point}
use Rattle.level_model.specs.Apart.{drawn_box, drawn_outline, drawn_outline_from}
use Rattle.level_model.proofs.Lists.{Has, append_has, at_has, below_has, has_at, has_left, has_map, has_range, has_right, map_has}
use Rattle.network_parts.specs.Divided.{place_of}
use Rattle.network_parts.proofs.PlaceLemmas.{place_less}
use Rattle.level_parts.specs.Divided.{edge_keys}
use Rattle.level_parts.proofs.LevelLemmas.{many_children, many_edges}
use Rattle.level_parts.proofs.SplitLemmas.{keys_below}
use Rattle.rotated_levels.specs.Outlines.{shifted}
use Rattle.rotated_levels.proofs.ReachLemmas.{corners_has, greatest_high, greatest_in, has_corners, least_in, least_low}
use Rattle.working_frame.specs.Drawing.{plus}
use Rattle.rotated_levels.specs.Joined.{AreDrawn, AreInRows, IsJoinedDrawing, part_rect}
use Rattle.rotated_levels.proofs.PartLemmas as parts

-- ---- points that are reached

abbrev pub upper : Rect → Point
upper r = record { x = r.x; y = r.y }

abbrev pub lower : Rect → Point
lower r = record { x = right_of r; y = bottom_of r }

has_along : (ss : List Section) (s : Section) (q : Point) → Has ss s → Has (points_along s) q → Has (points_of ss) q
unfolding points_of
has_along [] s q h k = absurd h
has_along (t ∷ ss) s q h k =
    ⊎_elim
    (λ e. has_left (points_along t) (points_of ss) q (subst (λ x. Has (points_along x) q) (sym e) k))
    (λ rest. has_right (points_along t) (points_of ss) q (has_along ss s q rest k))
    h

along_has : (ss : List Section) (q : Point) → Has (points_of ss) q → (s : Section) × Has ss s × Has (points_along s) q
unfolding points_of
along_has [] q h = absurd h
along_has (t ∷ ss) q h =
    ⊎_elim
    (λ k. (t, inl refl, k))
    (λ rest. let r = along_has ss q rest in (r.0, inr r.1, r.2))
    (append_has (points_along t) (points_of ss) q h)

-- a point that a drawing reaches: a corner of an outline, or a point of a route
pub data IsReached (l : PlainLevel) (v : LevelDrawing) (q : Point) : Type 0 where
  at_upper : (c : ℕ) → c < length l.children → upper (drawn_outline l v c) ≡ q → IsReached l v q
  at_lower : (c : ℕ) → c < length l.children → lower (drawn_outline l v c) ≡ q → IsReached l v q
  on_route : (e i : ℕ) → e < length v.sections → i < route_count v e → route_point v e i ≡ q → IsReached l v q

abbrev pub all : PlainLevel → LevelDrawing → List Point
all l v = reached (outlines_in l v) v.sections

outline_there : (l : PlainLevel) (v : LevelDrawing) (c : ℕ) → c < length l.children → Has (outlines_in l v) (drawn_outline l v c)
outline_there l v c h = has_map (drawn_outline l v) (range_with_len 0 (length l.children)) c (has_range 0 (length l.children) c (omega arith) (omega (arith, h)))

pub reached_has : (l : PlainLevel) (v : LevelDrawing) (q : Point) → IsReached l v q → Has (all l v) q
reached_has l v q (at_upper c h e) =
    has_left (corners_of (outlines_in l v)) (points_of v.sections) q (subst (λ z. Has (corners_of (outlines_in l v)) z) e (corners_has (outlines_in l v) (drawn_outline l v c) (outline_there l v c h)).0)
reached_has l v q (at_lower c h e) =
    has_left (corners_of (outlines_in l v)) (points_of v.sections) q (subst (λ z. Has (corners_of (outlines_in l v)) z) e (corners_has (outlines_in l v) (drawn_outline l v c) (outline_there l v c h)).1)
reached_has l v q (on_route e i h k is) =
    has_right (corners_of (outlines_in l v)) (points_of v.sections) q
    (has_along v.sections (section_at v e) q (has_at v.sections e _ h) (subst (λ z. Has (points_along (section_at v e)) z) is (has_at (points_along (section_at v e)) i origin k)))

has_reached : (l : PlainLevel) (v : LevelDrawing) (q : Point) → Has (all l v) q → IsReached l v q
has_reached l v q h = ⊎_elim by_corner by_point (append_has (corners_of (outlines_in l v)) (points_of v.sections) q h)
  where
    by_corner : Has (corners_of (outlines_in l v)) q → IsReached l v q
    by_corner k =
        let found = has_corners (outlines_in l v) q k in
        let child = map_has (drawn_outline l v) (range_with_len 0 (length l.children)) found.0 found.1 in
        let there = below_has (length l.children) child.0 child.1 in
        ⊎_elim (λ e. at_upper child.0 there (ap upper child.2 ∙ e)) (λ e. at_lower child.0 there (ap lower child.2 ∙ e)) found.2

    by_point : Has (points_of v.sections) q → IsReached l v q
    by_point k =
        let found = along_has v.sections q k in
        let e = at_has v.sections _ found.0 found.1 in
        let i = at_has (points_along (section_at v e.0)) origin q (subst (λ z. Has (points_along z) q) (sym e.2) found.2) in
        on_route e.0 i.0 e.1 i.1 i.2

-- ---- bounds

-- points from 0 to this extent
pub record LiesIn (w h : ℤ) (q : Point) : Type 0 where
  pub left : pos 0 ≤ℤ q.x
  pub right : q.x ≤ℤ w
  pub top : pos 0 ≤ℤ q.y
  pub bottom : q.y ≤ℤ h

up_to : (a b c : ℤ) → a ≡ b → b ≤ℤ c → a ≤ℤ c
up_to a b c e h = omega (arith, ints, e, h)

from : (a b c : ℤ) → a ≡ b → c ≤ℤ b → c ≤ℤ a
from a b c e h = omega (arith, ints, e, h)

pub tight_lies : (l : PlainLevel) (v : LevelDrawing) → IsTight l v → (q : Point) → Has (all l v) q → LiesIn v.extent.width v.extent.height q
tight_lies l v tight q h =
    let x = has_map (λ (p : Point). p.x) (all l v) q h in
    let y = has_map (λ (p : Point). p.y) (all l v) q h in
    record {
      left = up_to (pos 0) _ q.x tight.left (least_low (abscissae (all l v)) q.x x);
      right = from v.extent.width _ q.x tight.right (greatest_high (abscissae (all l v)) q.x x);
      top = up_to (pos 0) _ q.y tight.top (least_low (heights (all l v)) q.y y);
      bottom = from v.extent.height _ q.y tight.bottom (greatest_high (heights (all l v)) q.y y);
    }

-- a number that is the least, or the greatest, of a list
least_is : (zs : List ℤ) (z : ℤ) → Has zs z → ((y : ℤ) → Has zs y → z ≤ℤ y) → z ≡ least zs
least_is zs z h low =
    let a = least_low zs z h in
    let b = low (least zs) (least_in zs z h) in
    omega (arith, ints, a, b)

greatest_is : (zs : List ℤ) (z : ℤ) → Has zs z → ((y : ℤ) → Has zs y → y ≤ℤ z) → z ≡ greatest zs
greatest_is zs z h high =
    let a = greatest_high zs z h in
    let b = high (greatest zs) (greatest_in zs z h) in
    omega (arith, ints, a, b)

-- ---- outlines have no negative sizes

hull_low : (a b : ℤ) → int_min a b ≤ℤ a
hull_low a b = omega (arith, ints, clamps)

hull_high : (a s b t : ℤ) → (a +ℤ s) ≤ℤ (int_min a b +ℤ hull_size a s b t)
hull_high a s b t = by a b (a +ℤ s) (b +ℤ t)
  where
    by : (a b p q : ℤ) → p ≤ℤ (int_min a b +ℤ (int_max p q -ℤ int_min a b))
    by a b p q = omega (arith, ints, clamps)

hull_holds : (r s t : Rect) → Holds r t → Holds (hull r s) t
hull_holds r s t h =
    let a = h.left in
    let b = h.top in
    let c = h.right in
    let d = h.bottom in
    let x = hull_low r.x s.x in
    let y = hull_low r.y s.y in
    let z = hull_high r.x r.width s.x s.width in
    let w = hull_high r.y r.height s.y s.height in
    record { left = two x a; top = two y b; right = two c z; bottom = two d w }
  where
    two : {a b c : ℤ} → a ≤ℤ b → b ≤ℤ c → a ≤ℤ c
    two {a} {b} {c} h k = omega (arith, ints, h, k)

-- an outline holds its box
pub box_held : (l : PlainLevel) (v : LevelDrawing) (c : ℕ) (qs : List ℕ) → Holds (drawn_outline_from l v c qs) (drawn_box l v c)
box_held l v c [] = record { left = same _; top = same _; right = same _; bottom = same _ }
  where
    same : (z : ℤ) → z ≤ℤ z
    same z = omega (arith, ints)
box_held l v c (q ∷ qs) = hull_holds (drawn_outline_from l v c qs) _ (drawn_box l v c) (box_held l v c qs)

holds_more : (p q r : Rect) → Holds p q → Holds q r → Holds p r
holds_more p q r h k = omega (arith, ints, h, k)

moved_in : (at : Point) (w h : ℤ) (q : Point) → LiesIn w h q → Holds (rect_at at (record { width = w; height = h })) (point_rect (plus at q))
moved_in at w h q lies =
    let a = lies.left in
    let b = lies.right in
    let c = lies.top in
    let d = lies.bottom in
    record { left = omega (arith, ints, a); top = omega (arith, ints, c); right = omega (arith, ints, b); bottom = omega (arith, ints, d) }

moved_rect_in : (at : Point) (w h : ℤ) (r : Rect) → LiesIn w h (upper r) → LiesIn w h (lower r) → Holds (rect_at at (record { width = w; height = h })) (shifted at r)
moved_rect_in at w h r first last =
    let a = first.left in
    let b = last.right in
    let c = first.top in
    let d = last.bottom in
    record { left = omega (arith, ints, a); top = omega (arith, ints, c); right = omega (arith, ints, b); bottom = omega (arith, ints, d) }

module _ (l : PlainLevel) (numbers : List ℕ) (count : ℕ) (plans : ℕ → PlainPlan) (orders : ℕ → Orders) (layers : ℕ → List ℕ) (own : ℕ → LevelDrawing) (listed : List ℕ) (gap limit : ℤ) (rows : Rows) (v : LevelDrawing)
    (are : AreDrawn l numbers count plans orders layers own listed) (placed : AreInRows count gap limit own rows) (joined : IsJoinedDrawing l numbers (point_at rows.at) own v) where
  abbrev at : ℕ → Point
  at k = point_at rows.at k

  abbrev part : ℕ → PlainLevel
  part k = parts.part l numbers at own v are.level are.numbered joined k

  abbrev some : ℕ → ℕ
  some k = parts.some l numbers at own v are.level are.numbered joined k

  abbrev many : ℕ → ℕ
  many k = parts.many l numbers at own v are.level are.numbered joined k

  abbrev child_of : ℕ → ℕ → ℕ
  child_of k i = parts.child_of l numbers at own v are.level are.numbered joined k i

  abbrev edge_of : ℕ → ℕ → ℕ
  edge_of k j = parts.edge_of l numbers at own v are.level are.numbered joined k j

  tight : (k : ℕ) → k < count → IsTight (part k) (own k)
  tight k h = (are.drawing k h).tight

  section_count : (k : ℕ) → k < count → length (own k).sections ≡ length (part k).edges
  section_count k h = ((are.drawing k h).from_plan (orders k) (are.ready k h)).section_count

  lies : (k : ℕ) → k < count → (q : Point) → IsReached (part k) (own k) q → LiesIn (own k).extent.width (own k).extent.height q
  lies k h q r = tight_lies (part k) (own k) (tight k h) q (reached_has (part k) (own k) q r)

  -- ---- what lies in a part

  pub outline_in : (k i : ℕ) → k < count → i < some k → Holds (part_rect at own k) (drawn_outline l v (child_of k i))
  outline_in k i less h =
      let r = drawn_outline (part k) (own k) i in
      let inside = parts.in_part l numbers at own v are.level are.numbered joined k i h in
      subst (Holds (part_rect at own k)) (sym (parts.outline_at l numbers at own v are.level are.numbered joined k i h))
      (moved_rect_in (at k) (own k).extent.width (own k).extent.height r (lies k less (upper r) (at_upper i inside refl)) (lies k less (lower r) (at_lower i inside refl)))

  pub box_in : (k i : ℕ) → k < count → i < some k → Holds (part_rect at own k) (drawn_box l v (child_of k i))
  box_in k i less h = holds_more (part_rect at own k) (drawn_outline l v (child_of k i)) (drawn_box l v (child_of k i)) (outline_in k i less h) (box_held l v (child_of k i) _)

  edge_there : (k j : ℕ) → k < count → j < many k → j < length (own k).sections
  edge_there k j less h = subst (λ n. j < n) (sym (section_count k less)) (parts.edge_in_part l numbers at own v are.level are.numbered joined k j h)

  pub point_in : (k j x : ℕ) → k < count → j < many k → x < route_count (own k) j → Holds (part_rect at own k) (point_rect (route_point v (edge_of k j) x))
  point_in k j x less h there =
      subst (λ q. Holds (part_rect at own k) (point_rect q)) (sym (parts.point_is l numbers at own v are.level are.numbered joined k j h x there))
      (moved_in (at k) (own k).extent.width (own k).extent.height (route_point (own k) j x) (lies k less (route_point (own k) j x) (on_route j x (edge_there k j less h) there refl)))

  -- ---- no part is empty

  taken : (k : ℕ) → k < count → (c : ℕ) × (c < length numbers) × (slice_index numbers c ≡ k)
  taken k h =
      let found = are.counted.last (omega (arith, h)) in
      let last = found.2 in
      let inside : found.0 < length l.children = subst (λ n. found.0 < n) are.numbered.as_many found.1 in
      let less = found.1 in
      elim (cases_lt k (slice_index numbers found.0)) [
        | inl below ↦ (let before = are.numbered.in_order found.0 k inside below in let b = before.1 in (before.0, omega (arith, b, less), before.2))
        | inr most ↦ (found.0, found.1, omega (arith, h, last, most))
      ]

  some_reached : (k : ℕ) → k < count → (q : Point) × IsReached (part k) (own k) q
  some_reached k h =
      let c = taken k h in
      let inside = parts.in_part l numbers at own v are.level are.numbered joined k (place_of numbers c.0) (place_less numbers k c.0 c.1 c.2) in
      (upper (drawn_outline (part k) (own k) (place_of numbers c.0)), at_upper (place_of numbers c.0) inside refl)

  wide_least : (k : ℕ) → k < count → pos 0 ≤ℤ (own k).extent.width
  wide_least k h = let some = some_reached k h in let there = lies k h some.0 some.1 in let a = there.left in let b = there.right in omega (arith, ints, a, b)

  high_least : (k : ℕ) → k < count → pos 0 ≤ℤ (own k).extent.height
  high_least k h = let some = some_reached k h in let there = lies k h some.0 some.1 in let a = there.top in let b = there.bottom in omega (arith, ints, a, b)

  -- ---- rows

  count_of : (k : ℕ) → k < length placed.sizes → k < count
  count_of k h = subst (λ n. k < n) placed.as_many h

  in_sizes : (k : ℕ) → k < count → k < length placed.sizes
  in_sizes k h = subst (λ n. k < n) (sym placed.as_many) h

  solid : AreSolid placed.sizes
  solid =
      record {
        width = λ k h. subst (λ (s : Size). pos 0 ≤ℤ s.width) (sym (placed.are k (count_of k h))) (wide_least k (count_of k h));
        height = λ k h. subst (λ (s : Size). pos 0 ≤ℤ s.height) (sym (placed.are k (count_of k h))) (high_least k (count_of k h));
      }

  pub spaced : AreSpaced placed.sizes gap rows
  spaced = let above = placed.gap_above in rows_are_spaced placed.sizes gap limit rows solid (omega (arith, ints, above)) placed.rows_are

  earlier : (j k : ℕ) → j < k → k < count → StandsClear gap (part_rect at own j) (part_rect at own k)
  earlier j k less h =
      subst₂ (λ (s t : Size). StandsClear gap (rect_at (at j) s) (rect_at (at k) t)) (placed.are j (omega (arith, less, h))) (placed.are k h) (spaced.apart k j less (in_sizes k h))

  pub clear : (j k : ℕ) → j < count → k < count → j ≢ k → StandsClear gap (part_rect at own j) (part_rect at own k) ⊎ StandsClear gap (part_rect at own k) (part_rect at own j)
  clear j k hj hk differ =
      elim (cases_lt j k) [
        | inl less ↦ inl (earlier j k less hk)
        | inr most ↦ elim (cases_lt k j) [ inl less ↦ inr (earlier k j less hj) | inr least ↦ absurd (differ (omega (arith, most, least))) ]
      ]

  -- ---- what the whole reaches is what the parts reach, moved

  pub key_below : (k j : ℕ) → k ≡ slice_index (edge_keys l numbers) (edge_of k j) → j < many k → k < count
  key_below k j is h =
      let there = parts.edge_there l numbers at own v are.level are.numbered joined k j h in
      subst (λ n. n < count) (sym is) (keys_below l numbers count are.level are.numbered are.counted (edge_of k j) (parts.in_keys l numbers at own v are.level are.numbered joined (edge_of k j) there))

  pub part_below : (k i : ℕ) → k ≡ slice_index numbers (child_of k i) → i < some k → k < count
  part_below k i is h =
      let there = parts.there l numbers at own v are.level are.numbered joined k i h in
      subst (λ n. n < count) (sym is) (are.counted.below (child_of k i) (subst (λ n. child_of k i < n) (sym are.numbered.as_many) there))

  lower_moved : (by : Point) (r : Rect) → lower (shifted by r) ≡ plus by (lower r)
  lower_moved by r = same_point _ _ (omega (arith, ints)) (omega (arith, ints))

  up : (k : ℕ) (q : Point) → k < count → IsReached (part k) (own k) q → IsReached l v (plus (at k) q)
  up k q less (at_upper i h e) =
      let inside = subst (λ n. i < n) (many_children l numbers k are.level are.numbered) h in
      at_upper (child_of k i) (parts.there l numbers at own v are.level are.numbered joined k i inside) (ap upper (parts.outline_at l numbers at own v are.level are.numbered joined k i inside) ∙ ap (plus (at k)) e)
  up k q less (at_lower i h e) =
      let inside = subst (λ n. i < n) (many_children l numbers k are.level are.numbered) h in
      at_lower (child_of k i) (parts.there l numbers at own v are.level are.numbered joined k i inside)
      (ap lower (parts.outline_at l numbers at own v are.level are.numbered joined k i inside) ∙ lower_moved (at k) (drawn_outline (part k) (own k) i) ∙ ap (plus (at k)) e)
  up k q less (on_route j x h there e) =
      let inside : j < many k = subst (λ n. j < n) (section_count k less ∙ many_edges l numbers k are.level are.numbered) h in
      let edge = parts.edge_there l numbers at own v are.level are.numbered joined k j inside in
      on_route (edge_of k j) x (subst (λ n. edge_of k j < n) (sym joined.section_count) edge)
      (subst (λ n. x < n) (sym (parts.count_is l numbers at own v are.level are.numbered joined k j inside)) there)
      (parts.point_is l numbers at own v are.level are.numbered joined k j inside x there ∙ ap (plus (at k)) e)

  abbrev Comes : Point → Type 0
  Comes q = (k : ℕ) × (p : Point) × (k < count) × IsReached (part k) (own k) p × (plus (at k) p ≡ q)

  down : (q : Point) → IsReached l v q → Comes q
  down q (at_upper c h e) =
      parts.by_child l numbers at own v are.level are.numbered joined (λ c. upper (drawn_outline l v c) ≡ q → Comes q)
      (λ k i is less e. (
        k,
        upper (drawn_outline (part k) (own k) i),
        part_below k i is less,
        at_upper i (parts.in_part l numbers at own v are.level are.numbered joined k i less) refl,
        sym (ap upper (parts.outline_at l numbers at own v are.level are.numbered joined k i less)) ∙ e,
      )) c h e
  down q (at_lower c h e) =
      parts.by_child l numbers at own v are.level are.numbered joined (λ c. lower (drawn_outline l v c) ≡ q → Comes q)
      (λ k i is less e. (
        k,
        lower (drawn_outline (part k) (own k) i),
        part_below k i is less,
        at_lower i (parts.in_part l numbers at own v are.level are.numbered joined k i less) refl,
        sym (ap lower (parts.outline_at l numbers at own v are.level are.numbered joined k i less) ∙ lower_moved (at k) (drawn_outline (part k) (own k) i)) ∙ e,
      )) c h e
  down q (on_route e x h there is) =
      parts.by_edge l numbers at own v are.level are.numbered joined (λ e. x < route_count v e → route_point v e x ≡ q → Comes q)
      (λ k j key less there is.
      let inside : x < route_count (own k) j = subst (λ n. x < n) (parts.count_is l numbers at own v are.level are.numbered joined k j less) there in
      let low = key_below k j key less in (
        k,
        route_point (own k) j x,
        low,
        on_route j x (edge_there k j low less) inside refl,
        sym (parts.point_is l numbers at own v are.level are.numbered joined k j less x inside) ∙ is,
      )) e (subst (λ n. e < n) joined.section_count h) there is

  -- ---- the extent of the whole

  in_rows : (k : ℕ) (q : Point) → k < count → LiesIn (own k).extent.width (own k).extent.height q → LiesIn rows.extent.width rows.extent.height (plus (at k) q)
  in_rows k q h inside =
      let size = placed.are k h in
      let x = spaced.right k (in_sizes k h) in
      let y = spaced.down k (in_sizes k h) in
      let wide = subst (λ (s : Size). ((at k).x +ℤ s.width) ≤ℤ rows.extent.width) size (placed.rows_are.extent.width.all k (in_sizes k h)) in
      let high = subst (λ (s : Size). ((at k).y +ℤ s.height) ≤ℤ rows.extent.height) size (placed.rows_are.extent.height.all k (in_sizes k h)) in
      let a = inside.left in
      let b = inside.right in
      let c = inside.top in
      let d = inside.bottom in
      record { left = omega (arith, ints, x, a); right = omega (arith, ints, b, wide); top = omega (arith, ints, y, c); bottom = omega (arith, ints, d, high) }

  whole_lies : (q : Point) → Has (all l v) q → LiesIn rows.extent.width rows.extent.height q
  whole_lies q h =
      let from = down q (has_reached l v q h) in
      subst (LiesIn rows.extent.width rows.extent.height) from.4 (in_rows from.0 from.1 from.2 (lies from.0 from.2 from.1 from.3))

  abbrev Reaches : (Point → ℤ) → ℤ → Type 0
  Reaches f z = (q : Point) × Has (all l v) q × (f q ≡ z)

  lifted : (k : ℕ) (q : Point) → k < count → Has (all (part k) (own k)) q → Has (all l v) (plus (at k) q)
  lifted k q h there = reached_has l v (plus (at k) q) (up k q h (has_reached (part k) (own k) q there))

  some_has : (k : ℕ) → k < count → (q : Point) × Has (all (part k) (own k)) q
  some_has k h = let some = some_reached k h in (some.0, reached_has (part k) (own k) some.0 some.1)

  -- the first part stands at the origin
  first : 0 < count → at 0 ≡ origin
  first h = spaced.first (in_sizes 0 h)

  zero_moved : (a b : ℤ) → a ≡ pos 0 → b ≡ pos 0 → a +ℤ b ≡ pos 0
  zero_moved a b p q = omega (arith, ints, p, q)

  touch_left : 0 < count → Reaches (λ q. q.x) (pos 0)
  touch_left h =
      let some = some_has 0 h in
      let found = map_has (λ (p : Point). p.x) (all (part 0) (own 0)) _ (least_in (abscissae (all (part 0) (own 0))) some.0.x (has_map (λ (p : Point). p.x) (all (part 0) (own 0)) some.0 some.1)) in
      (plus (at 0) found.0, lifted 0 found.0 h found.1, zero_moved (at 0).x found.0.x (ap (λ (p : Point). p.x) (first h)) (found.2 ∙ sym (tight 0 h).left))

  touch_top : 0 < count → Reaches (λ q. q.y) (pos 0)
  touch_top h =
      let some = some_has 0 h in
      let found = map_has (λ (p : Point). p.y) (all (part 0) (own 0)) _ (least_in (heights (all (part 0) (own 0))) some.0.y (has_map (λ (p : Point). p.y) (all (part 0) (own 0)) some.0 some.1)) in
      (plus (at 0) found.0, lifted 0 found.0 h found.1, zero_moved (at 0).y found.0.y (ap (λ (p : Point). p.y) (first h)) (found.2 ∙ sym (tight 0 h).top))

  some_size : 0 < count → 0 < length placed.sizes
  some_size h = in_sizes 0 h

  touch_right : 0 < count → Reaches (λ q. q.x) rows.extent.width
  touch_right h =
      let (k, inside, is) = placed.rows_are.extent.width.some (some_size h) in
      let less = count_of k inside in
      let some = some_has k less in
      let found = map_has (λ (p : Point). p.x) (all (part k) (own k)) _ (greatest_in (abscissae (all (part k) (own k))) some.0.x (has_map (λ (p : Point). p.x) (all (part k) (own k)) some.0 some.1)) in
      (plus (at k) found.0, lifted k found.0 less found.1, ap (λ z. (at k).x +ℤ z) (found.2 ∙ sym (tight k less).right ∙ ap (λ (s : Size). s.width) (sym (placed.are k less))) ∙ is)

  touch_bottom : 0 < count → Reaches (λ q. q.y) rows.extent.height
  touch_bottom h =
      let (k, inside, is) = placed.rows_are.extent.height.some (some_size h) in
      let less = count_of k inside in
      let some = some_has k less in
      let found = map_has (λ (p : Point). p.y) (all (part k) (own k)) _ (greatest_in (heights (all (part k) (own k))) some.0.y (has_map (λ (p : Point). p.y) (all (part k) (own k)) some.0 some.1)) in
      (plus (at k) found.0, lifted k found.0 less found.1, ap (λ z. (at k).y +ℤ z) (found.2 ∙ sym (tight k less).bottom ∙ ap (λ (s : Size). s.height) (sym (placed.are k less))) ∙ is)

  -- a least and a greatest coordinate that is reached and that all points keep
  least_of : (f : Point → ℤ) (z : ℤ) → Reaches f z → ((q : Point) → Has (all l v) q → z ≤ℤ f q) → z ≡ least (map f (all l v))
  least_of f z found low =
      least_is (map f (all l v)) z (subst (Has (map f (all l v))) found.2 (has_map f (all l v) found.0 found.1))
      (λ y h. let from = map_has f (all l v) y h in subst (λ x. z ≤ℤ x) from.2 (low from.0 from.1))

  greatest_of : (f : Point → ℤ) (z : ℤ) → Reaches f z → ((q : Point) → Has (all l v) q → f q ≤ℤ z) → z ≡ greatest (map f (all l v))
  greatest_of f z found high =
      greatest_is (map f (all l v)) z (subst (Has (map f (all l v))) found.2 (has_map f (all l v) found.0 found.1))
      (λ y h. let from = map_has f (all l v) y h in subst (λ x. x ≤ℤ z) from.2 (high from.0 from.1))

  none_reached : count ≤ 0 → (q : Point) → Has (all l v) q → ⊥
  none_reached none q h = let from = down q (has_reached l v q h) in let less = from.2 in absurd (omega (arith, none, less))

  empty : (ps : List Point) → ((q : Point) → Has ps q → ⊥) → ps ≡ []
  empty [] none = refl
  empty (p ∷ ps) none = absurd (none p (inl refl))

  no_sizes : count ≤ 0 → length placed.sizes ≡ 0
  no_sizes none = let many = placed.as_many in omega (arith, many, none)

  nothing : (w h : ℤ) → w ≡ pos 0 → h ≡ pos 0 → IsReach [] (record { low = origin; high = record { x = w; y = h } })
  unfolding least greatest
  nothing w h p q = record { left = refl; top = refl; right = p; bottom = q }

  whole_tight : IsReach (all l v) (record { low = origin; high = record { x = rows.extent.width; y = rows.extent.height } })
  whole_tight =
      elim (cases_lt 0 count) [
        | inl h ↦
            record {
              left = least_of (λ q. q.x) (pos 0) (touch_left h) (λ q there. (whole_lies q there).left);
              top = least_of (λ q. q.y) (pos 0) (touch_top h) (λ q there. (whole_lies q there).top);
              right = greatest_of (λ q. q.x) rows.extent.width (touch_right h) (λ q there. (whole_lies q there).right);
              bottom = greatest_of (λ q. q.y) rows.extent.height (touch_bottom h) (λ q there. (whole_lies q there).bottom);
            }
        | inr none ↦
            subst (λ (ps : List Point). IsReach ps (record { low = origin; high = record { x = rows.extent.width; y = rows.extent.height } })) (sym (empty (all l v) (none_reached none)))
            (nothing rows.extent.width rows.extent.height (placed.rows_are.extent.width.none (no_sizes none)) (placed.rows_are.extent.height.none (no_sizes none)))
      ]

  pub extent_least : (pos 0 ≤ℤ rows.extent.width) × (pos 0 ≤ℤ rows.extent.height)
  extent_least =
      elim (cases_lt 0 count) [
        | inl h ↦
            (let found = touch_left h in
            let inside = whole_lies found.0 found.1 in
            let a = inside.left in
            let b = inside.right in
            let c = inside.top in
            let d = inside.bottom in
            (omega (arith, ints, a, b), omega (arith, ints, c, d)))
        | inr none ↦
            (let w = placed.rows_are.extent.width.none (no_sizes none) in
            let t = placed.rows_are.extent.height.none (no_sizes none) in
            (omega (arith, ints, w), omega (arith, ints, t)))
      ]

  pub is_tight : v.extent ≡ rows.extent → IsTight l v
  is_tight same = subst (λ (s : Size). IsReach (all l v) (record { low = origin; high = record { x = s.width; y = s.height } })) (sym same) whole_tight
