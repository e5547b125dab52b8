use Rattle.layout_check.specs.declared.definition.Definition.TheVariants.{Inside}
use Rattle.layout_check.proofs.BreakLaws.{judged}
use Rattle.layout_check.proofs.judge.inside.Goals as goal

pub returns : goal.returns
returns c =
    judged Inside c.args.scene.now.doc.now c.args.scene.now.placed.now c.args.node c.args.options.now c.args._certificate.now _ c.requires.sound c.inside_fault.ensures
