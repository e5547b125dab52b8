use Rattle.std.proofs.Common.{◌≡◌, ◌∙◌, ap, ℕ, ℤ, ◌+ℤ◌, refl, rules, w64}
use Rattle.std.proofs.lemmas.Int.{to_z-of_z}
use Rattle.std.specs.Int.{w128}
use Rattle.drawing_types.specs.declared.shape.Rect.{Rect}
use Rattle.elk_doc.specs.Shapes.{rotated}
use Rattle.drawing_types.specs.Shapes.{bottom_of, right_of}
use Rattle.layout_check.specs.declared.framed.FramedChild.{FramedChild}
use Rattle.layout_check.proofs.framed.framed_child.Goals as goal

child_of : ℕ → ℕ → ℕ → ℤ → ℤ → ℤ → ℤ → FramedChild
child_of a part layer left right top bottom = record { node = a; part = part; layer = layer; left = left; right = right; top = top; bottom = bottom }

same_child : (a p p2 m m2 : ℕ) (l l2 r r2 t t2 b b2 : ℤ) → p ≡ p2 → m ≡ m2 → l ≡ l2 → r ≡ r2 → t ≡ t2 → b ≡ b2 → child_of a p m l r t b ≡ child_of a p2 m2 l2 r2 t2 b2
same_child a p p2 m m2 l l2 r r2 t t2 b b2 ep em el er et eb = rw (ep, em, el, er, et, eb) refl

pub returns : goal.returns
unfolding child_of
returns c =
    let way = c.args.level.now.options.now.direction in
    let room = c.args.level.now.options.now.spacing in
    let outline = c.outline_at-outline.ensures in
    let right = c.with_room.ensures in
    let bottom = c.with_room-2.ensures in
    let beside : c.with_room.result ≡ c.right.result +ℤ room.node_layers = rw (to_z-of_z w128 c.right.result (search rules), to_z-of_z w64 room.node_layers (search rules)) at right in
    let under : c.with_room-2.result ≡ c.bottom.result +ℤ room.node_node = rw (to_z-of_z w128 c.bottom.result (search rules), to_z-of_z w64 room.node_node (search rules)) at bottom in
    same_child c.args.child _ _ _ _ _ _ _ _ _ _ _ _ c.part_of.ensures (c.requires.level.layers.each c.args.child 0 c.requires.child_in)
    (to_z-of_z w128 _ (search rules) ∙ c.left.ensures.value ∙ ap (λ (r : Rect). (rotated way r).x) outline)
    (to_z-of_z w128 _ (search rules) ∙ beside ∙ ap (λ z. z +ℤ room.node_layers) (c.right.ensures.value ∙ ap (λ r. right_of (rotated way r)) outline))
    (to_z-of_z w128 _ (search rules) ∙ c.from.ensures ∙ to_z-of_z w64 _ (search rules) ∙ c.top.ensures ∙ ap (λ (r : Rect). (rotated way r).y) outline)
    (to_z-of_z w128 _ (search rules) ∙ under ∙ ap (λ z. z +ℤ room.node_node) (c.bottom.ensures.value ∙ ap (λ r. bottom_of (rotated way r)) outline))
