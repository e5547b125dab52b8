use Rattle.std.proofs.Common.{◌≡◌, ◌++◌, map, drop}
use Rattle.level_nets.specs.Reach.{parts_in}
use Rattle.level_draw.specs.Read.{loop_step}
use Rattle.level_draw.proofs.loops.push_loop.Given as goal

abbrev pub invariant-loop-side : goal.invariant-loop-side
invariant-loop-side l =
    l.steps.items ++ map (loop_step (parts_in l.sheet) l.routing l.edge) (drop l.side-index l.side-items)
    ≡ l.initial.steps.items ++ map (loop_step (parts_in l.sheet) l.routing l.edge) l.side-items
