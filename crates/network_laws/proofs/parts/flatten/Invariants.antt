use Rattle.std.proofs.Common.{◌≤◌, length}
use Rattle.std.specs.List.{sum}
use Rattle.network_laws.specs.Parts.{AreNames}
use Rattle.network_laws.proofs.parts.flatten.Given as goal

abbrev pub invariant-loop-v : goal.invariant-loop-v
invariant-loop-v l = AreNames (length l.initial.names) l.edges l.names × (sum l.names ≤ sum l.initial.names)
