use Rattle.std.proofs.Common.{MatchOption, Option, subst, below_more}
use Rattle.layout_check.specs.declared.fault.Fault.{Fault}
use Rattle.layout_check.specs.Definitions.{FailsAt, HoldsAt}
use Rattle.layout_check.proofs.levels.first_fault.Goals as goal

pub loop-node-preserved : goal.loop-node-preserved
loop-node-preserved c =
    below_more (HoldsAt c.args.definition c.args.scene.now.doc.now c.args.scene.now.placed.now) _ c.loop-node.invariant (subst (λ (o : Option Fault). MatchOption o (HoldsAt c.args.definition c.args.scene.now.doc.now c.args.scene.now.placed.now c.loop-node.node) (FailsAt c.args.definition c.args.scene.now.doc.now c.args.scene.now.placed.now c.loop-node.node)) c.in_default.is c.in_ok-fault.ensures)
