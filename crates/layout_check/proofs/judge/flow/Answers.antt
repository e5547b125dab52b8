use Rattle.std.proofs.lemmas.Result.{IfOk-weaker}
use Rattle.layout_check.specs.declared.definition.Definition.TheVariants.{FlowProof}
use Rattle.layout_check.proofs.BreakLaws.{judged}
use Rattle.layout_check.proofs.judge.flow.Goals as goal

pub returns : goal.returns
returns c =
    IfOk-weaker c.flow_fault.result _ _
    (λ fault found. judged FlowProof c.args.scene.now.doc.now c.args.scene.now.placed.now c.args.node c.args._options.now c.args.certificate.now fault c.requires.sound found)
    c.flow_fault.ensures
