use Rattle.std.proofs.Common.{ℕ, ◌<◌, Contains}
use Rattle.elk_doc.specs.Level.{IsChild}
use Rattle.layout_check.specs.Framed.{framed_child}
use Rattle.layout_check.proofs.framed.framed_children.Given as goal

abbrev pub invariant-loop-child : goal.invariant-loop-child
invariant-loop-child l =
    (a : ℕ) → a < l.child → IsChild l.level.scene.now.doc.now l.level.node a → Contains l.children.items (framed_child l.level.scene.now.doc.now l.level.scene.now.placed.now l.level.node l.level.options.now l.level.certificate.now a)
