use Rattle.std.proofs.Common.{◌≡◌, ◌∙◌, None, IsNone, ap, refl, subst, sym}
use Rattle.elk_doc.specs.declared.document.Node.{Node}
use Rattle.elk_doc.specs.Document.{node_at}
use Rattle.level_io.specs.Canvas.{drawing_of}
use Rattle.compound.proofs.FrameLemmas.{leaf_worked}
use Rattle.compound.proofs.layout.lay_out_node.Goals as goal

pub returns-in-None : goal.returns-in-None
returns-in-None c =
    let d = c.args.doc.now in
    let none : (node_at d c.args.node).level ≡ None = ap (λ (x : Node). x.level) (sym c.node.ensures.value) ∙ c.in-None.is in
    leaf_worked d (drawing_of c.args.work.now.canvas) c.args.work.now.sizes.items c.args.node c.requires.node (subst IsNone (sym none) refl) c.requires.work
