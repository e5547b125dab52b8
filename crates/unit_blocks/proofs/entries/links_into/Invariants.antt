use Rattle.elk_layers.specs.Layered.{plain}
use Rattle.unit_blocks.specs.Entries.{AreLinksBelow}
use Rattle.unit_blocks.proofs.entries.links_into.Given as goal

abbrev pub invariant-loop-k : goal.invariant-loop-k
invariant-loop-k l = AreLinksBelow (plain l.layered) l.chosen l.k l.into.items
