use Rattle.cycle_break.specs.Ways.{edge_keys}
use Rattle.cycle_break.proofs.Listing.{ListedTo}
use Rattle.cycle_break.proofs.orienting.list_backward.Given as goal

abbrev pub invariant-keys : goal.invariant-keys
invariant-keys l = ListedTo l.arena l.kept l.places (edge_keys l.listed.items) l.at
