use Rattle.layout_check.specs.declared.definition.Definition.TheVariants.{Clear}
use Rattle.layout_check.proofs.BreakLaws.{judged}
use Rattle.layout_check.proofs.judge.clear.Goals as goal

pub returns : goal.returns
returns c =
    judged Clear c.args.scene.now.doc.now c.args.scene.now.placed.now c.args.node c.args._options.now c.args._certificate.now _ c.requires.sound c.clear_fault.ensures
