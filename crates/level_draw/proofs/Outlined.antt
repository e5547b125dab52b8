-- The outlines of children by their boxes are those of the drawing, and lie near.
use Rattle.std.proofs.Common.{◌≡◌, ℕ, ◌<◌, List, length, arith, sym, ◌∙◌, ap₂, subst}
use Rattle.std.proofs.lemmas.Int.{ints}
use Rattle.std.proofs.lemmas.List.{ext_get_or, get_or_default}
use Rattle.std.proofs.lemmas.List.FromFn.{get_or-map-range_with_len, length-map-range_with_len}
use Rattle.std.specs.List.{All}
use Rattle.drawing_types.specs.declared.shape.Point.{Point}
use Rattle.drawing_types.specs.declared.shape.Rect.{Rect}
use Rattle.level_model.specs.declared.table.ChildAt.{ChildAt}
use Rattle.level_model.specs.declared.table.Table.{Table}
use Rattle.level_model.specs.Level.{PlainLevel, PlainPlan, Orders}
use Rattle.level_model.specs.Table.{IsTable, child_in}
use Rattle.level_model.specs.FromPlan.{LevelDrawing, IsDrawnFrom, point_or}
use Rattle.level_model.specs.Apart.{drawn_outline}
use Rattle.plan_laws.proofs.ApartLemmas.{outlines_are_drawn}
use Rattle.working_frame.specs.Reach.{IsNear}
use Rattle.dock_table.specs.Bounds.{AreNumbersIn, IsChildIn}
use Rattle.level_draw.specs.Reach.{IsBoxPoint}
use Rattle.level_draw.specs.Drawing.{outlines_in}
use Rattle.level_draw.specs.Outlines.{AreNearby, AreOutlines, IsNearby, outline_from, rect_in}

module _ (l : PlainLevel) (p : PlainPlan) (o : Orders) (d : LevelDrawing) (t : Table) (outlines : List Rect) (table : IsTable l p o t) (drawn : IsDrawnFrom l p o d) (are : AreOutlines t.children d.boxes (length t.children) outlines) where
  outline_is : (c : ℕ) → c < length l.children → rect_in outlines c ≡ drawn_outline l d c
  outline_is c h =
      let many = table.child_count in
      are.each c (omega (arith, h, many)) ∙ ap₂ outline_from (table.children c h).outline_is (drawn.children c h).box
      ∙ sym (outlines_are_drawn l p o d c (drawn.children c h))

  pub outlines_are : outlines ≡ outlines_in l d
  outlines_are =
      let many = table.child_count in
      let count = are.as_many in
      let n = length-map-range_with_len (drawn_outline l d) 0 (length l.children) in
      ext_get_or _ _ _ (count ∙ many ∙ sym n)
      (λ c h. outline_is c (omega (arith, h, count, many)) ∙ sym (get_or-map-range_with_len (drawn_outline l d) 0 (length l.children) c c _ (omega (arith, h, count, many)) (omega arith)))

near_child : (v : ChildAt) (q : Point) → IsChildIn v → IsBoxPoint q → IsNearby v.outline q
near_child v q child box =
    let x0 = child.x.above in let x1 = child.x.below in let y0 = child.y.above in let y1 = child.y.below in
    let u0 = box.x.above in let u1 = box.x.below in let v0 = box.y.above in let v1 = box.y.below in
    record {
      outline_near = record { x = record { above = omega (arith, ints, x0); below = omega (arith, ints, x1) }; y = record { above = omega (arith, ints, y0); below = omega (arith, ints, y1) } };
      corner_near = record { x = record { above = omega (arith, ints, u0); below = omega (arith, ints, u1) }; y = record { above = omega (arith, ints, v0); below = omega (arith, ints, v1) } };
    }

pub are_nearby : (t : Table) (boxes : List Point) → length boxes ≡ length t.children → AreNumbersIn t → All IsBoxPoint boxes → AreNearby t.children boxes
are_nearby t boxes many numbers near =
    record { as_many = many; each = λ c h. near_child (child_in t.children c) (point_or boxes c) (numbers.children c h) (near c _ (omega (arith, h, many))) }

near_outline : (v : ChildAt) (q : Point) → IsChildIn v → IsBoxPoint q → IsNear (outline_from v.outline q)
near_outline v q child box =
    let x0 = child.x.above in let x1 = child.x.below in let y0 = child.y.above in let y1 = child.y.below in
    let u0 = box.x.above in let u1 = box.x.below in let v0 = box.y.above in let v1 = box.y.below in
    let w0 = child.width.above in let w1 = child.width.below in let h0 = child.height.above in let h1 = child.height.below in
    record {
      x = record { above = omega (arith, ints, x0, u0); below = omega (arith, ints, x1, u1) };
      y = record { above = omega (arith, ints, y0, v0); below = omega (arith, ints, y1, v1) };
      width = record { above = w0; below = omega (arith, ints, w1) };
      height = record { above = h0; below = omega (arith, ints, h1) };
    }

pub outlines_near : (t : Table) (boxes : List Point) (outlines : List Rect) → length boxes ≡ length t.children → AreNumbersIn t → All IsBoxPoint boxes → AreOutlines t.children boxes (length t.children) outlines
    → All IsNear outlines
outlines_near t boxes outlines many numbers near are i d h =
    let count = are.as_many in
    let there : i < length t.children = omega (arith, h, count) in
    subst IsNear (sym (get_or_default outlines i d _ h ∙ are.each i there))
    (near_outline (child_in t.children i) (point_or boxes i) (numbers.children i there) (near i _ (omega (arith, there, many))))
