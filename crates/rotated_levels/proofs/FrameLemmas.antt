-- A box that is framed round the drawing of its level holds it within its padding, and is no larger than it needs to be.
use Rattle.std.proofs.Common.{◌≡◌, ℕ, ◌<◌, inl, inr, ⊎_elim, List, [], ◌∷◌, map, length, ℤ, pos, neg_ℤ, ◌+ℤ◌, ◌-ℤ◌, ◌≤ℤ◌, refl, sym, ap, ◌∙◌, subst, arith}
use Rattle.std.specs.List.{range_with_len}
use Rattle.std.proofs.lemmas.Bool.{cases_eq}
use Rattle.std.proofs.lemmas.Int.{ints}
use Rattle.drawing_types.specs.declared.shape.Point.{Point}
use Rattle.drawing_types.specs.declared.shape.Size.{Size}
use Rattle.drawing_types.specs.declared.shape.Rect.{Rect}
use Rattle.elk_doc.specs.declared.document.Direction.{Direction}
use Rattle.elk_doc.specs.declared.document.Direction.TheVariants.{Right, Left, Down, Up}
use Rattle.elk_doc.specs.declared.document.Padding.{Padding}
use Rattle.elk_doc.specs.declared.document.LevelOptions.{LevelOptions}
use Rattle.elk_doc.specs.declared.drawing.Placed.{Placed}
use Rattle.elk_doc.specs.Document.{Document}
use Rattle.elk_doc.specs.Level.{children, edges_of, source_node}
use Rattle.elk_doc.specs.Shapes.{rotated}
use Rattle.drawing_types.specs.Shapes.{right_of, bottom_of}
use Rattle.elk_doc.specs.Drawing.{box_of}
use Rattle.elk_doc.specs.Content.{SomeShape}
use Rattle.elk_doc.specs.Fitted.{HasNoChild, IsGreatestOf, IsLeastOf, NeedsWidth, NeedsHeight}
use Rattle.elk_doc.specs.Inside.{Inside, IsWithinPadding}
use Rattle.elk_doc.specs.Sound.{IsSound}
use Rattle.drawing_types.proofs.SameShapes.{same_rect}
use Rattle.working_frame.specs.Reach.{IsReach, reached}
use Rattle.level_model.specs.FromPlan.{LevelDrawing}
use Rattle.level_model.specs.Apart.{drawn_outline}
use Rattle.working_frame.specs.Rotated.{child_number, edge_number, rotated_size, level_of}
use Rattle.working_frame.specs.Drawing.{IsRotatedDrawing}
use Rattle.working_frame.proofs.NumberedLemmas.{numbers_match, ends_match, levels_are_listed}
use Rattle.rotated_levels.specs.Outlines.{shifted}
use Rattle.rotated_levels.specs.Framed.{FillsExtent, IsFramed, IsFittedBox, start_of}
use Rattle.rotated_levels.proofs.ReachLemmas.{Lies, Touches, lies, touches, nothing_reached}
use Rattle.rotated_levels.proofs.ShapeLemmas.{Shape, outlines_in, each_back, some_back, some_shape, shapes_solid, outline_shape}

-- ---- back from the frame

-- a shape of a level's drawing that is as wide as w, in the document and measured from the padding's corner
abbrev within : Direction → ℤ → Rect → Rect
within Right w s = s
within Left w s = record { x = w -ℤ right_of s; y = s.y; width = s.width; height = s.height }
within Down w s = record { x = s.y; y = s.x; width = s.height; height = s.width }
within Up w s = record { x = s.y; y = w -ℤ right_of s; width = s.height; height = s.width }

abbrev corner : Padding → Point
corner m = record { x = m.left; y = m.top }

mirrored : (x w m e a b : ℤ) → neg_ℤ (x +ℤ w) ≡ neg_ℤ (m +ℤ e) +ℤ a → w ≡ b → x ≡ m +ℤ (e -ℤ (a +ℤ b))
mirrored x w m e a b h k = omega (arith, ints, h, k)

came_back : (way : Direction) (m : Padding) (e : Size) (r s : Rect) → rotated way r ≡ shifted (start_of way m e) s → r ≡ shifted (corner m) (within way e.width s)
came_back Right m e r s h = h
came_back Left m e r s h =
    same_rect r (shifted (corner m) (within Left e.width s)) (mirrored r.x r.width m.left e.width s.x s.width (ap (λ q. q.x) h) (ap (λ q. q.width) h)) (ap (λ q. q.y) h) (ap (λ q. q.width) h) (ap (λ q. q.height) h)
came_back Down m e r s h =
    same_rect r (shifted (corner m) (within Down e.width s)) (ap (λ q. q.y) h) (ap (λ q. q.x) h) (ap (λ q. q.height) h) (ap (λ q. q.width) h)
came_back Up m e r s h =
    same_rect r (shifted (corner m) (within Up e.width s)) (ap (λ q. q.y) h) (mirrored r.y r.height m.top e.width s.x s.width (ap (λ q. q.x) h) (ap (λ q. q.width) h)) (ap (λ q. q.height) h) (ap (λ q. q.width) h)

from_far : (w a : ℤ) → a ≤ℤ w → pos 0 ≤ℤ (w -ℤ a)
from_far w a h = omega (arith, ints, h)

to_far : (w x s : ℤ) → pos 0 ≤ℤ x → ((w -ℤ (x +ℤ s)) +ℤ s) ≤ℤ w
to_far w x s h = omega (arith, ints, h)

within_lies : (way : Direction) (e : Size) (s : Rect) → Lies e.width e.height s → Lies (rotated_size way e).width (rotated_size way e).height (within way e.width s)
within_lies Right e s h = h
within_lies Left e s h = record { left = from_far e.width (right_of s) h.right; right = to_far e.width s.x s.width h.left; top = h.top; bottom = h.bottom }
within_lies Down e s h = record { left = h.top; right = h.bottom; top = h.left; bottom = h.right }
within_lies Up e s h = record { left = h.top; right = h.bottom; top = from_far e.width (right_of s) h.right; bottom = to_far e.width s.x s.width h.left }

far_touch : (w a : ℤ) → a ≡ w → w -ℤ a ≡ pos 0
far_touch w a h = omega (arith, ints, h)

near_touch : (w x s : ℤ) → x ≡ pos 0 → (w -ℤ (x +ℤ s)) +ℤ s ≡ w
near_touch w x s h = omega (arith, ints, h)

-- some shapes touch the borders of the content in the document
record Borders (way : Direction) (e : Size) (Is : Rect → Type 0) : Type 0 where
  left : (s : Rect) × Is s × ((within way e.width s).x ≡ pos 0)
  right : (s : Rect) × Is s × (right_of (within way e.width s) ≡ (rotated_size way e).width)
  top : (s : Rect) × Is s × ((within way e.width s).y ≡ pos 0)
  bottom : (s : Rect) × Is s × (bottom_of (within way e.width s) ≡ (rotated_size way e).height)

borders : (way : Direction) (e : Size) (Is : Rect → Type 0) → Touches Is e.width e.height → Borders way e Is
borders Right e Is t = record { left = t.left; right = t.right; top = t.top; bottom = t.bottom }
borders Left e Is t =
    record {
      left = (t.right.0, t.right.1, far_touch e.width (right_of t.right.0) t.right.2);
      right = (t.left.0, t.left.1, near_touch e.width t.left.0.x t.left.0.width t.left.2);
      top = t.top;
      bottom = t.bottom;
    }
borders Down e Is t = record { left = t.top; right = t.bottom; top = t.left; bottom = t.right }
borders Up e Is t =
    record {
      left = t.top;
      right = t.bottom;
      top = (t.right.0, t.right.1, far_touch e.width (right_of t.right.0) t.right.2);
      bottom = (t.left.0, t.left.1, near_touch e.width t.left.0.x t.left.0.width t.left.2);
    }

-- ---- one dimension of the content in its box

low_in : (x m u : ℤ) → x ≡ m +ℤ u → pos 0 ≤ℤ u → m ≤ℤ x
low_in x m u e h = omega (arith, ints, e, h)

high_in : (x w m u k c room full : ℤ) → x ≡ m +ℤ u → w ≡ k → (u +ℤ k) ≤ℤ c → ((m +ℤ c) +ℤ room) ≤ℤ full → (x +ℤ w) ≤ℤ (full -ℤ room)
high_in x w m u k c room full e f h g = omega (arith, ints, e, f, h, g)

at_low : (x m u : ℤ) → x ≡ m +ℤ u → u ≡ pos 0 → m ≡ x
at_low x m u e h = omega (arith, ints, e, h)

at_high : (x w m u k c room z : ℤ) → x ≡ m +ℤ u → w ≡ k → u +ℤ k ≡ c → z ≡ (m +ℤ c) +ℤ room → z ≡ (x +ℤ w) +ℤ room
at_high x w m u k c room z e f h g = omega (arith, ints, e, f, h, g)

up_to : (y x room full : ℤ) → y ≡ x +ℤ room → x ≤ℤ (full -ℤ room) → y ≤ℤ full
up_to y x room full e h = omega (arith, ints, e, h)

without : (m room full y : ℤ) → ((m +ℤ pos 0) +ℤ room) ≤ℤ full → y ≡ m +ℤ room → y ≤ℤ full
without m room full y h e = omega (arith, ints, h, e)

only_room : (z m room : ℤ) → z ≡ (m +ℤ pos 0) +ℤ room → z ≡ m +ℤ room
only_room z m room h = omega (arith, ints, h)

empty : {X : Type 0} (xs : List X) → length xs ≡ 0 → xs ≡ []
empty [] h = refl
empty (x ∷ xs) h = absurd (omega (arith, h))

module _ (d : Document) (p : Placed) (n : ℕ) (o : LevelOptions) (v : LevelDrawing) (by : Point) (sound : IsSound d)
    (t : IsRotatedDrawing d p n o.direction v by) (fills : FillsExtent (level_of d p n o) v) (f : IsFramed d p n o v by) where
  abbrev content : Size
  content = rotated_size o.direction v.extent

  abbrev Is : Rect → Type 0
  Is = Shape d p n o v by t f.section_count

  abbrev inner : Rect → Rect
  inner s = within o.direction v.extent.width s

  back : (r s : Rect) → rotated o.direction r ≡ shifted by s → r ≡ shifted (corner o.padding) (inner s)
  back r s h = came_back o.direction o.padding v.extent r s (h ∙ ap (λ q. shifted q s) f.move)

  inner_lies : (s : Rect) → Is s → Lies content.width content.height (inner s)
  inner_lies s h =
      within_lies o.direction v.extent s
      (lies (outlines_in (level_of d p n o) v) v.sections v.extent.width v.extent.height fills (shapes_solid d p n o v by t f.section_count f.solid) s h)

  padded : (r s : Rect) → Is s → rotated o.direction r ≡ shifted by s → IsWithinPadding (box_of p n) o.padding r
  padded r s h e =
      let is = back r s e in
      let i = inner_lies s h in
      let u = inner s in
      record {
        left = low_in r.x o.padding.left u.x (ap (λ q. q.x) is) i.left;
        right = high_in r.x r.width o.padding.left u.x u.width content.width o.padding.right (box_of p n).width (ap (λ q. q.x) is) (ap (λ q. q.width) is) i.right (f.width.bound _ (inl refl));
        top = low_in r.y o.padding.top u.y (ap (λ q. q.y) is) i.top;
        bottom = high_in r.y r.height o.padding.top u.y u.height content.height o.padding.bottom (box_of p n).height (ap (λ q. q.y) is) (ap (λ q. q.height) is) i.bottom (f.height.bound _ (inl refl));
      }

  inside_box : Inside d p n o
  inside_box = each_back d p n o v by t f.section_count (IsWithinPadding (box_of p n) o.padding) padded

  -- what some shape has lies within the padding
  some_padded : (Q : Rect → Type 0) → SomeShape d p n Q → (r : Rect) × IsWithinPadding (box_of p n) o.padding r × Q r
  some_padded Q h = let k = some_shape d p n o v by t f.section_count Q h in (k.0, padded k.0 k.1 k.2 k.3, k.4)

  -- where a level has children they touch the borders of the content
  touched : 0 < length (children d n) → Borders o.direction v.extent Is
  touched h =
      borders o.direction v.extent Is
      (touches (outlines_in (level_of d p n o) v) v.sections v.extent.width v.extent.height fills (shapes_solid d p n o v by t f.section_count f.solid)
      (drawn_outline (level_of d p n o) v 0) (outline_shape d p n o v by t f.section_count 0 h))

  some_child : (HasNoChild d n → ⊥) → 0 < length (children d n)
  some_child h =
      ⊎_elim
      (λ none. absurd (h (λ c k. let below = (numbers_match d n).children.place_in c k in absurd (omega (arith, below, none)))))
      (λ some. omega (arith, some))
      (cases_eq (length (children d n)) 0)

  no_edge : length (children d n) ≡ 0 → length (edges_of d n) ≡ 0
  no_edge none =
      ⊎_elim
      (λ e. e)
      (λ some. let first = (numbers_match d n).edges.meant 0 (omega (arith, some)) in
      let below = (numbers_match d n).children.place_in (source_node d (edge_number d n 0)) (ends_match d n (edge_number d n 0) sound first).source in
      absurd (omega (arith, below, none)))
      (cases_eq (length (edges_of d n)) 0)

  -- where a level has no children nothing is drawn
  nothing : length (children d n) ≡ 0 → (v.extent.width ≡ pos 0) × (v.extent.height ≡ pos 0)
  nothing none =
      let l = level_of d p n o in
      let outlines : outlines_in l v ≡ [] = ap (λ m. map (drawn_outline l v) (range_with_len 0 m)) ((levels_are_listed d p n o).child_count ∙ none) in
      let routes : v.sections ≡ [] = empty v.sections (f.section_count ∙ no_edge none) in
      nothing_reached v.extent.width v.extent.height
      (subst (λ rs. IsReach (reached rs []) (record { low = record { x = pos 0; y = pos 0 }; high = record { x = v.extent.width; y = v.extent.height } })) outlines
      (subst (λ ss. IsReach (reached (outlines_in l v) ss) (record { low = record { x = pos 0; y = pos 0 }; high = record { x = v.extent.width; y = v.extent.height } })) routes fills))

  no_content : length (children d n) ≡ 0 → (content.width ≡ pos 0) × (content.height ≡ pos 0)
  no_content none = let k = nothing none in by_way o.direction v.extent k.0 k.1
    where
      by_way : (way : Direction) (e : Size) → e.width ≡ pos 0 → e.height ≡ pos 0 → ((rotated_size way e).width ≡ pos 0) × ((rotated_size way e).height ≡ pos 0)
      by_way Right e w h = (w, h)
      by_way Left e w h = (w, h)
      by_way Down e w h = (h, w)
      by_way Up e w h = (h, w)

  none_there : length (children d n) ≡ 0 → HasNoChild d n
  none_there none c k = let below = (numbers_match d n).children.place_in c k in absurd (omega (arith, below, none))

  left_least : (HasNoChild d n → ⊥) → IsLeastOf (λ z. SomeShape d p n (λ r. z ≡ r.x)) o.padding.left
  left_least some =
      let b = (touched (some_child some)).left in
      record {
        itself = some_back d p n o v by t f.section_count (λ r. o.padding.left ≡ r.x) b.0 b.1
            (λ r e. at_low r.x o.padding.left (inner b.0).x (ap (λ q. q.x) (back r b.0 e)) b.2);
        bound = λ y h. let k = some_padded (λ r. y ≡ r.x) h in subst (λ z. o.padding.left ≤ℤ z) (sym k.2) k.1.left;
      }

  top_least : (HasNoChild d n → ⊥) → IsLeastOf (λ z. SomeShape d p n (λ r. z ≡ r.y)) o.padding.top
  top_least some =
      let b = (touched (some_child some)).top in
      record {
        itself = some_back d p n o v by t f.section_count (λ r. o.padding.top ≡ r.y) b.0 b.1
            (λ r e. at_low r.y o.padding.top (inner b.0).y (ap (λ q. q.y) (back r b.0 e)) b.2);
        bound = λ y h. let k = some_padded (λ r. y ≡ r.y) h in subst (λ z. o.padding.top ≤ℤ z) (sym k.2) k.1.top;
      }

  width_asked : (z : ℤ) → z ≡ (o.padding.left +ℤ content.width) +ℤ o.padding.right → NeedsWidth d p n o z
  width_asked z e =
      ⊎_elim
      (λ none. inr (inl (none_there none, only_room z o.padding.left o.padding.right (e ∙ ap (λ c. (o.padding.left +ℤ c) +ℤ o.padding.right) (no_content none).0))))
      (λ some. let b = (touched (omega (arith, some))).right in
      inl (some_back d p n o v by t f.section_count (λ r. z ≡ right_of r +ℤ o.padding.right) b.0 b.1
      (λ r k. let is = back r b.0 k in
      at_high r.x r.width o.padding.left (inner b.0).x (inner b.0).width content.width o.padding.right z (ap (λ q. q.x) is) (ap (λ q. q.width) is) b.2 e)))
      (cases_eq (length (children d n)) 0)

  height_asked : (z : ℤ) → z ≡ (o.padding.top +ℤ content.height) +ℤ o.padding.bottom → NeedsHeight d p n o z
  height_asked z e =
      ⊎_elim
      (λ none. inr (inl (none_there none, only_room z o.padding.top o.padding.bottom (e ∙ ap (λ c. (o.padding.top +ℤ c) +ℤ o.padding.bottom) (no_content none).1))))
      (λ some. let b = (touched (omega (arith, some))).bottom in
      inl (some_back d p n o v by t f.section_count (λ r. z ≡ bottom_of r +ℤ o.padding.bottom) b.0 b.1
      (λ r k. let is = back r b.0 k in
      at_high r.y r.height o.padding.top (inner b.0).y (inner b.0).height content.height o.padding.bottom z (ap (λ q. q.y) is) (ap (λ q. q.height) is) b.2 e)))
      (cases_eq (length (children d n)) 0)

  -- a level that has no child has no content
  bare : HasNoChild d n → length (children d n) ≡ 0
  bare none =
      ⊎_elim
      (λ e. e)
      (λ some. absurd (none (child_number d n 0) ((numbers_match d n).children.meant 0 (omega (arith, some)))))
      (cases_eq (length (children d n)) 0)

  width_greatest : IsGreatestOf (NeedsWidth d p n o) (box_of p n).width
  width_greatest =
      record {
        itself = ⊎_elim (λ e. width_asked (box_of p n).width e) (λ k. inr (inr k)) f.width.itself;
        bound = λ y h. ⊎_elim
            (λ a. let k = some_padded (λ r. y ≡ right_of r +ℤ o.padding.right) a in up_to y (right_of k.0) o.padding.right (box_of p n).width k.2 k.1.right)
            (λ other. ⊎_elim
            (λ a. without o.padding.left o.padding.right (box_of p n).width y
            (subst (λ c. ((o.padding.left +ℤ c) +ℤ o.padding.right) ≤ℤ (box_of p n).width) (no_content (bare a.0)).0 (f.width.bound _ (inl refl))) a.1)
            (λ k. f.width.bound y (inr k))
            other)
            h;
      }

  height_greatest : IsGreatestOf (NeedsHeight d p n o) (box_of p n).height
  height_greatest =
      record {
        itself = ⊎_elim (λ e. height_asked (box_of p n).height e) (λ k. inr (inr k)) f.height.itself;
        bound = λ y h. ⊎_elim
            (λ a. let k = some_padded (λ r. y ≡ bottom_of r +ℤ o.padding.bottom) a in up_to y (bottom_of k.0) o.padding.bottom (box_of p n).height k.2 k.1.bottom)
            (λ other. ⊎_elim
            (λ a. without o.padding.top o.padding.bottom (box_of p n).height y
            (subst (λ c. ((o.padding.top +ℤ c) +ℤ o.padding.bottom) ≤ℤ (box_of p n).height) (no_content (bare a.0)).1 (f.height.bound _ (inl refl))) a.1)
            (λ k. f.height.bound y (inr k))
            other)
            h;
      }

  fitted_box : IsFittedBox d p n o
  fitted_box = record { inside = inside_box; left = left_least; top = top_least; width = width_greatest; height = height_greatest }

pub framed_boxes_fit : (d : Document) (p : Placed) (n : ℕ) (o : LevelOptions) (v : LevelDrawing) (by : Point)
    → IsSound d → IsRotatedDrawing d p n o.direction v by → FillsExtent (level_of d p n o) v → IsFramed d p n o v by → IsFittedBox d p n o
framed_boxes_fit d p n o v by s t fills f = fitted_box d p n o v by s t fills f
