use Rattle.std.proofs.Common.{◌≡◌}
use Rattle.layer_units.specs.Numbered.{link_on}
use Rattle.layer_units.specs.Grown.{grown}
use Rattle.layer_units.proofs.units.push_links.Given as goal

abbrev pub invariant-loop-gap : goal.invariant-loop-gap
invariant-loop-gap l = l.links.items ≡ grown (link_on l.run) l.initial.links.items l.gap
