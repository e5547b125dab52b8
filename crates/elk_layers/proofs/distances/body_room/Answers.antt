use Rattle.std.proofs.Common.{arith}
use Rattle.std.proofs.lemmas.Int.{ints}
use Rattle.elk_layers.proofs.HeightLemmas.{height_below}
use Rattle.elk_layers.proofs.distances.body_room.Goals as goal

pub overflow_add-result-2 : goal.overflow_add-result-2
overflow_add-result-2 c =
    let high = rw (← c.as_slice-units.ensures.value) at (height_below _ c.requires.sound c.args.upper c.requires.upper) in
    let body = rw (← c.as_slice-units.ensures.value) at (c.requires.sound.bodies c.args.upper c.requires.upper c.requires.upper_child) in
    omega (arith, ints, high, body.top, body.height, body.bottom, c.requires.sound.node_node_is.low, c.requires.sound.node_node_is.high)

pub overflow_sub-result : goal.overflow_sub-result
overflow_sub-result c =
    let high = rw (← c.as_slice-units.ensures.value) at (height_below _ c.requires.sound c.args.upper c.requires.upper) in
    let body = rw (← c.as_slice-units.ensures.value) at (c.requires.sound.bodies c.args.upper c.requires.upper c.requires.upper_child) in
    let high_below = rw (← c.as_slice-units.ensures.value) at (height_below _ c.requires.sound c.args.lower c.requires.lower) in
    let body_below = rw (← c.as_slice-units.ensures.value) at (c.requires.sound.bodies c.args.lower c.requires.lower c.requires.lower_child) in
    omega (arith, ints, high, body.top, body.height, body.bottom, high_below, body_below.top, body_below.height, body_below.bottom, c.requires.sound.node_node_is.low, c.requires.sound.node_node_is.high)

pub returns : goal.returns
returns c =
    let high = rw (← c.as_slice-units.ensures.value) at (height_below _ c.requires.sound c.args.upper c.requires.upper) in
    let body = rw (← c.as_slice-units.ensures.value) at (c.requires.sound.bodies c.args.upper c.requires.upper c.requires.upper_child) in
    let high_below = rw (← c.as_slice-units.ensures.value) at (height_below _ c.requires.sound c.args.lower c.requires.lower) in
    let body_below = rw (← c.as_slice-units.ensures.value) at (c.requires.sound.bodies c.args.lower c.requires.lower c.requires.lower_child) in
    rw (← c.as_slice-units.ensures.value)
    (omega (arith, ints, high, body.top, body.height, body.bottom, high_below, body_below.top, body_below.height, body_below.bottom, c.requires.sound.node_node_is.low, c.requires.sound.node_node_is.high))
