use Rattle.std.proofs.Common.{◌≡◌, ◌⊎◌, IsTrue, rules, subst}
use Rattle.drawing_types.specs.declared.shape.Rect.{Rect}
use Rattle.elk_doc.specs.Drawing.{section_of}
use Rattle.elk_doc.specs.Level.{source_node, target_node}
use Rattle.layout_check.specs.Stretches.{KeepsOff}
use Rattle.layout_check.proofs.BoundsLaws.{route_off}
use Rattle.layout_check.proofs.clear.is_far.Goals as goal

pub returns : goal.returns
returns c =
    let d = c.args.scene.now.doc.now in
    let e = c.args.edge in
    let a = c.args.child in
    let s = section_of c.args.scene.now.placed.now e in
    let off = route_off c.args.bounds s c.outline_at.result c.requires.bounds (c.lie_off.ensures c.if-not-lie_off.false) in
    let P : Rect → Type 0 = λ r. KeepsOff s r in
    let keeps = subst P c.outline_at.ensures off in
    λ t.
    let no_end : (source_node d e ≡ a) ⊎ (target_node d e ≡ a) → ⊥ = λ o. let yes : IsTrue c.is_end_node.result = c.is_end_node.ensures.1 o in absurd (search rules) in
    record { foreign = λ _ _. keeps; own = λ o. absurd (no_end o) }
