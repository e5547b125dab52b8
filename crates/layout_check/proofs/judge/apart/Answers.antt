use Rattle.std.proofs.lemmas.Result.{IfOk-weaker}
use Rattle.layout_check.specs.declared.definition.Definition.TheVariants.{Apart}
use Rattle.layout_check.proofs.BreakLaws.{judged}
use Rattle.layout_check.proofs.judge.apart.Goals as goal

pub returns : goal.returns
returns c =
    IfOk-weaker c.apart_fault.result _ _
    (λ fault found. judged Apart c.args.scene.now.doc.now c.args.scene.now.placed.now c.args.node c.args.options.now c.args.certificate.now fault c.requires.sound found)
    c.apart_fault.ensures
