use Rattle.std.proofs.Common.{◌≡◌, map, take}
use Rattle.level_io.specs.Read.{sized_child}
use Rattle.level_io.proofs.reading.read_children.Given as goal

abbrev pub invariant-loop-child : goal.invariant-loop-child
invariant-loop-child l = l.found.items ≡ map (sized_child l.source.doc.now l.way l.sizes) (take l.child-index l.numbers)
