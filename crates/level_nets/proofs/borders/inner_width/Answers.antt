use Rattle.std.proofs.Common.{◌∙◌, ◌-◌, pos, ◌+ℤ◌, ◌*ℤ◌, FitsSigned, w64, to_z, of_z, arith, rules}
use Rattle.std.proofs.lemmas.Bool.{ne_eqb}
use Rattle.std.proofs.lemmas.Int.{ints, to_z-of_z}
use Rattle.level_nets.proofs.BorderLemmas.{max_same}
use Rattle.level_nets.proofs.borders.inner_width.Goals as goal

pub returns-clause-value : goal.returns-clause-value
returns-clause-value c =
    let sp = c.args.level.now.spacing in
    let fits : FitsSigned w64 c.greater.result = search rules in
    let room = c.slots_room.ensures.value in
    let low = c.slots_room.ensures.range.0 in
    let high = c.slots_room.ensures.range.1 in
    let a = c.requires.node_layers.above in
    let b = c.requires.node_layers.below in
    let d = c.requires.edge_node_layers.above in
    let e = c.requires.edge_node_layers.below in
    rw (ne_eqb c.args.count 0 c.if-count-eq0.false)
    (to_z-of_z w64 c.greater.result fits ∙ c.greater.ensures.value
    ∙ max_same (to_z w64 (of_z w64 sp.node_layers)) (to_z w64 (of_z w64 (to_z w64 (of_z w64 sp.edge_node_layers) +ℤ to_z w64 (of_z w64 c.slots_room.result))))
    sp.node_layers (sp.edge_node_layers +ℤ sp.edge_node_layers +ℤ (pos (c.args.count - 1) *ℤ sp.edge_edge_layers))
    (omega (arith, ints, a, b)) (omega (arith, ints, room, low, high, d, e)))
