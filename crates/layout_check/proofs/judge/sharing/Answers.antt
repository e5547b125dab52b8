use Rattle.layout_check.proofs.BreakLaws.{sharing_judged}
use Rattle.layout_check.proofs.judge.sharing.Goals as goal

pub returns : goal.returns
returns c =
    sharing_judged c.args.scene.now.doc.now c.args.scene.now.placed.now c.args.node c.args._options.now c.args._certificate.now _ c.requires.sound c.sharing_fault.ensures
