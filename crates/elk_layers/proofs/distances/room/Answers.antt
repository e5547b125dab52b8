use Rattle.std.proofs.Common.{arith}
use Rattle.std.proofs.lemmas.Int.{ints}
use Rattle.elk_layers.proofs.HeightLemmas.{height_below}
use Rattle.elk_layers.proofs.distances.room.Goals as goal

pub overflow_add-result : goal.overflow_add-result
overflow_add-result c =
    let low = rw (← c.as_slice-units.ensures.value) at (c.requires.sound.heights c.args.upper c.requires.upper) in
    let high = rw (← c.as_slice-units.ensures.value) at (height_below _ c.requires.sound c.args.upper c.requires.upper) in
    omega (arith, ints, low, high, c.facing-distance.ensures.low, c.facing-distance.ensures.high)

pub returns : goal.returns
returns c =
    let low = rw (← c.as_slice-units.ensures.value) at (c.requires.sound.heights c.args.upper c.requires.upper) in
    let high = rw (← c.as_slice-units.ensures.value) at (height_below _ c.requires.sound c.args.upper c.requires.upper) in
    rw (← c.as_slice-units.ensures.value, ← c.shows_lane.ensures, ← c.shows_lane-2.ensures, ← c.facing-distance.ensures.value)
    (omega (arith, ints, low, high, c.facing-distance.ensures.low, c.facing-distance.ensures.high))
