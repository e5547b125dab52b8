use Rattle.level_model.specs.Conditions.{plain_level}
use Rattle.level_layout.specs.Flows.{AreFlows}
use Rattle.level_layout.proofs.certificates.flows_of.Given as goal

abbrev pub invariant-loop-edge : goal.invariant-loop-edge
invariant-loop-edge l = AreFlows (plain_level l.level) l.flow l.edge-index l.next l.flows.items
