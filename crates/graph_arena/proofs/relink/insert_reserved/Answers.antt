use Rattle.std.proofs.Common.{Some, arith, ◌∙◌, ap, ◌≤◌, ◌+◌, ◌^◌}
use Rattle.slab.specs.Slab.{slab_len}
use Rattle.graph_arena.specs.declared.slots.Flank.TheVariants.{Outward, Inward}
use Rattle.graph_arena.specs.Flanks.{IsSound, graph_of}
use Rattle.graph_arena.specs.Changes.{AddsEdge}
use Rattle.graph_arena.proofs.Whole.{same_came, same_sound, same_kept, in_not_out, moved_both, added_sound, added_edge}
use Rattle.graph_arena.proofs.relink.insert_reserved.Goals as goal
use Rattle.graph_arena.proofs.relink.insert_reserved.Goals.{After-attach-2}

pub attach-requires-clause-flank : goal.attach-requires-clause-flank
attach-requires-clause-flank c =
    same_sound Outward c.args.nodes.now c.args.nodes.now c.args.edges.now c.insert_reserved-edge.new.self
    (same_came Outward c.args.nodes.now c.args.edges.now c.insert_reserved-edge.new.self c.insert_reserved-edge.result c.insert_reserved-edge.ensures.was_vacant (c.insert_reserved-edge.ensures.updates.changed ∙ ap Some c.new_edge.ensures) c.insert_reserved-edge.ensures.updates.others)
    (c.requires.sound.flanks Outward)

pub attach-requires-2-clause-flank : goal.attach-requires-2-clause-flank
attach-requires-2-clause-flank c =
    same_sound Inward c.args.nodes.now c.attach.new.nodes c.insert_reserved-edge.new.self c.attach.new.edges
    (same_kept Outward Inward c.args.nodes.now c.attach.new.nodes c.insert_reserved-edge.new.self c.attach.new.edges in_not_out c.attach.ensures.nodes_kept c.attach.ensures.edges_kept)
    (same_sound Inward c.args.nodes.now c.args.nodes.now c.args.edges.now c.insert_reserved-edge.new.self
    (same_came Inward c.args.nodes.now c.args.edges.now c.insert_reserved-edge.new.self c.insert_reserved-edge.result c.insert_reserved-edge.ensures.was_vacant (c.insert_reserved-edge.ensures.updates.changed ∙ ap Some c.new_edge.ensures) c.insert_reserved-edge.ensures.updates.others)
    (c.requires.sound.flanks Inward))

added : (c : After-attach-2) → IsSound c.attach-2.new.nodes c.attach-2.new.edges × AddsEdge (graph_of c.args.nodes.now c.args.edges.now) (graph_of c.attach-2.new.nodes c.attach-2.new.edges) c.insert_reserved-edge.result c.args.tail c.args.head
added c =
    let m = moved_both _ _ _ _ _ _ c.args.nodes.now c.attach.new.nodes c.attach-2.new.nodes c.insert_reserved-edge.new.self c.attach.new.edges c.attach-2.new.edges c.attach.ensures c.attach-2.ensures in
    let room : slab_len c.args.edges.now + 1 ≤ 2 ^ 62 = omega (arith, c.requires.room) in
    let here = c.insert_reserved-edge.ensures.updates.changed ∙ ap Some c.new_edge.ensures in (
      added_sound c.args.nodes.now c.attach-2.new.nodes c.args.edges.now c.insert_reserved-edge.new.self c.attach-2.new.edges c.insert_reserved-edge.result c.args.tail c.args.head c.requires.sound c.insert_reserved-edge.ensures.was_vacant here c.insert_reserved-edge.ensures.updates.others c.insert_reserved-edge.ensures.len room m,
      added_edge c.args.nodes.now c.attach-2.new.nodes c.args.edges.now c.insert_reserved-edge.new.self c.attach-2.new.edges c.insert_reserved-edge.result c.args.tail c.args.head c.requires.sound c.insert_reserved-edge.ensures.was_vacant here c.insert_reserved-edge.ensures.updates.others c.insert_reserved-edge.ensures.len room m,
    )

pub returns-clause-sound : goal.returns-clause-sound
returns-clause-sound c = (added c).0

pub returns-clause-added : goal.returns-clause-added
returns-clause-added c = (added c).1
