use Rattle.layout_check.specs.declared.definition.Definition.TheVariants.{PortsKept}
use Rattle.layout_check.proofs.BreakLaws.{judged}
use Rattle.layout_check.proofs.judge.ports.Goals as goal

pub returns : goal.returns
returns c =
    judged PortsKept c.args.scene.now.doc.now c.args.scene.now.placed.now c.args.node c.args._options.now c.args._certificate.now _ c.requires.sound c.ports_fault.ensures
