use Rattle.std.proofs.Common.{◌≡◌, ◌≤◌, ◌+◌, ◌^◌, ℕ, Some, subst, sym, ap, ◌∙◌, arith}
use Rattle.slab.specs.Slab.{slab_len}
use Rattle.graph_arena.specs.declared.slots.Flank.TheVariants.{Outward, Inward}
use Rattle.graph_arena.specs.Graph.{tail_in}
use Rattle.graph_arena.specs.Flanks.{graph_of, IsSound, owner}
use Rattle.graph_arena.specs.Changes.{Splits}
use Rattle.graph_arena.proofs.Views.{tail_is, head_known}
use Rattle.graph_arena.proofs.Whole.{some_of, start_flank, middle_flank, split_sound, split_edge}
use Rattle.graph_arena.proofs.relink.split_reserved.Goals as goal
use Rattle.graph_arena.proofs.relink.split_reserved.Goals.{After-attach-2}

pub hand_over-requires-clause-flank : goal.hand_over-requires-clause-flank
hand_over-requires-clause-flank c =
    let t = some_of (owner Outward c.args.edges.now c.args.edge) (c.requires.sound.ends Outward c.args.edge c.requires.edge) in
    start_flank c.args.nodes.now c.insert_reserved-node.new.self c.insert_reserved-node.new.self c.insert_reserved-node.new.self c.insert_reserved-node.new.self c.args.edges.now c.insert_reserved-far.new.self c.insert_reserved-far.new.self c.insert_reserved-far.new.self c.insert_reserved-far.new.self c.args.edge c.insert_reserved-node.result c.insert_reserved-far.result t.0 c.end_at-head.result c.requires.sound t.1 c.end_at-head.ensures
    c.insert_reserved-node.ensures.was_vacant (c.insert_reserved-node.ensures.updates.changed ∙ ap Some c.new_node.ensures) c.insert_reserved-node.ensures.updates.others
    c.insert_reserved-far.ensures.was_vacant (c.insert_reserved-far.ensures.updates.changed ∙ ap Some c.new_edge.ensures) c.insert_reserved-far.ensures.updates.others Inward

pub attach-requires-2-clause-flank : goal.attach-requires-2-clause-flank
attach-requires-2-clause-flank c =
    let t = some_of (owner Outward c.args.edges.now c.args.edge) (c.requires.sound.ends Outward c.args.edge c.requires.edge) in
    middle_flank c.args.nodes.now c.insert_reserved-node.new.self c.hand_over.new.nodes c.attach.new.nodes c.attach.new.nodes c.args.edges.now c.insert_reserved-far.new.self c.hand_over.new.edges c.attach.new.edges c.attach.new.edges c.args.edge c.insert_reserved-node.result c.insert_reserved-far.result t.0 c.end_at-head.result c.requires.sound t.1 c.end_at-head.ensures
    c.insert_reserved-node.ensures.was_vacant (c.insert_reserved-node.ensures.updates.changed ∙ ap Some c.new_node.ensures) c.insert_reserved-node.ensures.updates.others
    c.insert_reserved-far.ensures.was_vacant (c.insert_reserved-far.ensures.updates.changed ∙ ap Some c.new_edge.ensures) c.insert_reserved-far.ensures.updates.others c.hand_over.ensures c.attach.ensures

parted : (c : After-attach-2) (tail : ℕ) → owner Outward c.args.edges.now c.args.edge ≡ Some tail → IsSound c.attach-2.new.nodes c.attach-2.new.edges × Splits (graph_of c.args.nodes.now c.args.edges.now) (graph_of c.attach-2.new.nodes c.attach-2.new.edges) c.args.edge c.insert_reserved-node.result c.insert_reserved-far.result tail c.end_at-head.result
parted c tail is =
    let room : slab_len c.args.edges.now + 1 ≤ 2 ^ 62 = omega (arith, c.requires.edge_room) in (
      split_sound c.args.nodes.now c.insert_reserved-node.new.self c.hand_over.new.nodes c.attach.new.nodes c.attach-2.new.nodes c.args.edges.now c.insert_reserved-far.new.self c.hand_over.new.edges c.attach.new.edges c.attach-2.new.edges c.args.edge c.insert_reserved-node.result c.insert_reserved-far.result tail c.end_at-head.result c.requires.sound is c.end_at-head.ensures
          c.insert_reserved-node.ensures.was_vacant (c.insert_reserved-node.ensures.updates.changed ∙ ap Some c.new_node.ensures) c.insert_reserved-node.ensures.updates.others
          c.insert_reserved-far.ensures.was_vacant (c.insert_reserved-far.ensures.updates.changed ∙ ap Some c.new_edge.ensures) c.insert_reserved-far.ensures.updates.others c.hand_over.ensures c.attach.ensures c.insert_reserved-far.ensures.len room c.attach-2.ensures,
      split_edge c.args.nodes.now c.insert_reserved-node.new.self c.hand_over.new.nodes c.attach.new.nodes c.attach-2.new.nodes c.args.edges.now c.insert_reserved-far.new.self c.hand_over.new.edges c.attach.new.edges c.attach-2.new.edges c.args.edge c.insert_reserved-node.result c.insert_reserved-far.result tail c.end_at-head.result c.requires.sound is c.end_at-head.ensures
          c.insert_reserved-node.ensures.was_vacant (c.insert_reserved-node.ensures.updates.changed ∙ ap Some c.new_node.ensures) c.insert_reserved-node.ensures.updates.others
          c.insert_reserved-far.ensures.was_vacant (c.insert_reserved-far.ensures.updates.changed ∙ ap Some c.new_edge.ensures) c.insert_reserved-far.ensures.updates.others c.hand_over.ensures c.attach.ensures c.insert_reserved-far.ensures.len room c.attach-2.ensures,
    )

pub returns-clause-sound : goal.returns-clause-sound
returns-clause-sound c =
    let t = some_of (owner Outward c.args.edges.now c.args.edge) (c.requires.sound.ends Outward c.args.edge c.requires.edge) in
    (parted c t.0 t.1).0

pub returns-clause-parted : goal.returns-clause-parted
returns-clause-parted c =
    λ x is.
    let own : owner Outward c.args.edges.now c.args.edge ≡ Some x.tail = sym (tail_is c.args.nodes.now c.args.edges.now c.args.edge c.requires.sound) ∙ ap tail_in is in
    subst (λ (h : ℕ). Splits (graph_of c.args.nodes.now c.args.edges.now) (graph_of c.attach-2.new.nodes c.attach-2.new.edges) c.args.edge c.insert_reserved-node.result c.insert_reserved-far.result x.tail h) (head_known c.args.nodes.now c.args.edges.now c.args.edge c.end_at-head.result x c.requires.sound c.end_at-head.ensures is) (parted c x.tail own).1
