use Rattle.std.proofs.Common.{◌≡◌, map, take}
use Rattle.elk_doc.specs.Drawing.{no_section}
use Rattle.level_io.proofs.canvas.blank_sections.Given as goal

abbrev pub invariant-loop-edge : goal.invariant-loop-edge
invariant-loop-edge l = l.sections.items ≡ map (λ _. no_section) (take l._edge-index l.edges)
