use Rattle.std.specs.List.{All}
use Rattle.level_nets.specs.Held.{plain_gaps}
use Rattle.level_nets.specs.Reach.{parts_in}
use Rattle.level_draw.specs.Reach.{IsBoxPoint}
use Rattle.level_draw.specs.Traced.{AreBoxes}
use Rattle.level_draw.proofs.places.boxes_in.Given as goal

abbrev pub invariant-loop-child : goal.invariant-loop-child
invariant-loop-child l = AreBoxes (parts_in l.sheet) (plain_gaps l.gaps) l.child l.boxes.items × All IsBoxPoint l.boxes.items
