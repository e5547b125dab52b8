use Rattle.layout_check.specs.declared.definition.Definition.TheVariants.{Layering}
use Rattle.layout_check.proofs.BreakLaws.{judged}
use Rattle.layout_check.proofs.judge.layering.Goals as goal

pub returns : goal.returns
returns c =
    judged Layering c.args.scene.now.doc.now c.args.scene.now.placed.now c.args.node c.args._options.now c.args.certificate.now _ c.requires.sound c.layering_fault.ensures
