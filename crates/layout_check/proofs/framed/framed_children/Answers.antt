use Rattle.std.proofs.lemmas.Bool.{both_ways}
use Rattle.std.proofs.Common.{◌∙◌}
use Rattle.layout_check.proofs.FrontLaws.{none_more, one_more}
use Rattle.layout_check.proofs.framed.framed_children.Goals as goal
use Rattle.layout_check.proofs.framed.framed_children.Goals.{then-is_child+in_ok-push, else-is_child}

pub loop-child-preserved : goal.loop-child-preserved
loop-child-preserved c =
    let d = c.args.level.now.scene.now.doc.now in
    let p = c.args.level.now.scene.now.placed.now in
    let n = c.args.level.now.node in
    let o = c.args.level.now.options.now in
    let x = c.args.level.now.certificate.now in
    let a = c.loop-child.child in
    elim c.if-is_child.branch [
      | then-is_child+in_ok-push w ↦
          rw (w.children-is, w.in_ok-push.ensures.items, w.framed_child.ensures)
          (one_more d p n o x c.loop-child.children.items a c.loop-child.invariant)
      | else-is_child w ↦
          rw w.children-is
          (none_more d p n o x c.loop-child.children.items a (λ h. both_ways c.is_child.result w.if-is_child.false (c.is_child.ensures ∙ h.child)) c.loop-child.invariant)
    ]
