use Rattle.std.proofs.Common.{arith}
use Rattle.std.proofs.lemmas.Int.{ints}
use Rattle.elk_layers.specs.Layered.{plain}
use Rattle.unit_blocks.proofs.PhaseLemmas.{distance_small}
use Rattle.unit_blocks.proofs.constraints.distance.Goals as goal

pub returns-then-outlines-clause-low : goal.returns-then-outlines-clause-low
returns-then-outlines-clause-low c =
    let h = rw c.if-outlines.true at (distance_small (plain c.args.layered.now) c.args.outlines c.args.upper c.args.lower c.requires.sound c.requires.upper c.requires.lower) in
    omega (arith, ints, h.0, h.1, c.body_room.ensures)

pub returns-then-outlines-clause-high : goal.returns-then-outlines-clause-high
returns-then-outlines-clause-high c =
    let h = rw c.if-outlines.true at (distance_small (plain c.args.layered.now) c.args.outlines c.args.upper c.args.lower c.requires.sound c.requires.upper c.requires.lower) in
    omega (arith, ints, h.0, h.1, c.body_room.ensures)

pub returns-else-outlines-clause-high : goal.returns-else-outlines-clause-high
returns-else-outlines-clause-high c =
    let h = rw c.if-outlines.false at (distance_small (plain c.args.layered.now) c.args.outlines c.args.upper c.args.lower c.requires.sound c.requires.upper c.requires.lower) in
    omega (arith, ints, h.0, h.1, c.room.ensures)
