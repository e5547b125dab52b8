-- Outlines of children are joined port by port.
use Rattle.std.proofs.Common.{◌≡◌, ℕ, suc, ◌+◌, ◌-◌, ◌<◌, List, sym, ap, ◌∙◌, arith}
use Rattle.std.specs.List.{range_with_len}
use Rattle.drawing_types.specs.declared.shape.Point.{Point}
use Rattle.drawing_types.specs.declared.shape.Rect.{Rect}
use Rattle.drawing_types.specs.Shapes.{hull}
use Rattle.port_order.specs.declared.children.Child.{Child}
use Rattle.level_split.specs.Outlines.{outline_from, port_rect}

-- the outline with the port before
pub outline_more : (c : Child) (ports : List Point) (k j n : ℕ) (r q s : Rect) → j ≡ k + 1 → k < n → r ≡ outline_from c ports (range_with_len j (n - j)) → q ≡ port_rect c ports k → s ≡ hull r q
    → s ≡ outline_from c ports (range_with_len k (n - k))
outline_more c ports k j n r q s next h outline rect joined =
    let count : n - k ≡ suc (n - (k + 1)) = omega (arith, h) in
    joined
    ∙ ap (λ x. hull x q) (outline ∙ ap (λ m. outline_from c ports (range_with_len m (n - m))) next)
    ∙ ap (hull (outline_from c ports (range_with_len (k + 1) (n - (k + 1))))) rect
    ∙ sym (ap (λ m. outline_from c ports (range_with_len k m)) count)
