use Rattle.std.proofs.Common.{◌≡◌, take}
use Rattle.compound.specs.Figures.{layers_for}
use Rattle.compound.proofs.figures.layers_for.Given as goal

abbrev pub invariant-loop-place : goal.invariant-loop-place
invariant-loop-place l = l.layers.items ≡ layers_for (take l._place-index l.boxes)
