use Rattle.level_split.specs.Gathered.{AreFlows}
use Rattle.level_split.proofs.certificate.flow_of.Given as goal

abbrev pub invariant-loop-i : goal.invariant-loop-i
invariant-loop-i l = AreFlows l.outs l.parts l.places l.i l.flow.items
