-- Shapes with the same parts are the same.
use Rattle.std.proofs.Common.{◌≡◌, ℤ, ap, ◌∙◌}
use Rattle.drawing_types.specs.declared.shape.Point.{Point}
use Rattle.drawing_types.specs.declared.shape.Rect.{Rect}

-- two rectangles with the same parts are the same
pub same_rect : (r s : Rect) → r.x ≡ s.x → r.y ≡ s.y → r.width ≡ s.width → r.height ≡ s.height → r ≡ s
same_rect r s ex ey ew eh =
    let f : ℤ → Rect = λ z. record { x = z; y = r.y; width = r.width; height = r.height } in
    let g : ℤ → Rect = λ z. record { x = s.x; y = z; width = r.width; height = r.height } in
    let h : ℤ → Rect = λ z. record { x = s.x; y = s.y; width = z; height = r.height } in
    let i : ℤ → Rect = λ z. record { x = s.x; y = s.y; width = s.width; height = z } in
    ap f ex ∙ ap g ey ∙ ap h ew ∙ ap i eh

-- two points with the same coordinates are the same
pub same_point : (p q : Point) → p.x ≡ q.x → p.y ≡ q.y → p ≡ q
same_point p q ex ey =
    let f : ℤ → Point = λ z. record { x = z; y = p.y } in
    let g : ℤ → Point = λ z. record { x = q.x; y = z } in
    ap f ex ∙ ap g ey
