use Rattle.std.proofs.Common.{subst}
use Rattle.layout_check.specs.declared.definition.Definition.{Definition}
use Rattle.layout_check.specs.Judged.{Needs}
use Rattle.layout_check.proofs.judge.judge.Goals as goal

pub clear-requires-clause-routes : goal.clear-requires-clause-routes
clear-requires-clause-routes c =
    subst (λ (t : Definition). Needs t c.args.scene.now.doc.now c.args.scene.now.placed.now) c.in-Clear.is c.requires.needs c.args.node c.args.options.now c.args.certificate.now c.requires.level

pub sharing-requires-clause-routes : goal.sharing-requires-clause-routes
sharing-requires-clause-routes c =
    subst (λ (t : Definition). Needs t c.args.scene.now.doc.now c.args.scene.now.placed.now) c.in-Sharing.is c.requires.needs c.args.node c.args.options.now c.args.certificate.now c.requires.level
