use Rattle.std.proofs.Common.{◌≡◌, map, take}
use Rattle.level_io.specs.Canvas.{blank_box}
use Rattle.level_io.proofs.canvas.blank_boxes.Given as goal

abbrev pub invariant-loop-node : goal.invariant-loop-node
invariant-loop-node l = l.boxes.items ≡ map blank_box (take l.node-index l.nodes)
