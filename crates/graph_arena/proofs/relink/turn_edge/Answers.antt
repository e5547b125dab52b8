use Rattle.std.proofs.Common.{ℕ, subst, ◌∙◌}
use Rattle.graph_arena.specs.declared.slots.Flank.TheVariants.{Outward, Inward}
use Rattle.graph_arena.specs.Flanks.{graph_of, IsSound}
use Rattle.graph_arena.specs.Changes.{Reverses}
use Rattle.graph_arena.proofs.Moves.{owner_is_node}
use Rattle.graph_arena.proofs.Views.{tail_known, head_known}
use Rattle.graph_arena.proofs.Whole.{same_sound, same_kept, in_not_out, moved_both, reversed_sound, reversed_edge}
use Rattle.graph_arena.proofs.relink.turn_edge.Goals as goal
use Rattle.graph_arena.proofs.relink.turn_edge.Goals.{After-attach-2}

pub attach-requires-clause-node : goal.attach-requires-clause-node
attach-requires-clause-node c = c.detach_both.ensures.moved.nodes_kept.live c.end_at-head.result ∙ owner_is_node Inward c.args.nodes.now c.args.edges.now c.end_at-head.result c.args.edge (c.requires.sound.flanks Inward) c.end_at-head.ensures

pub attach-requires-2-clause-flank : goal.attach-requires-2-clause-flank
attach-requires-2-clause-flank c =
    same_sound Inward c.detach_both.new.nodes c.attach.new.nodes c.detach_both.new.edges c.attach.new.edges
    (same_kept Outward Inward c.detach_both.new.nodes c.attach.new.nodes c.detach_both.new.edges c.attach.new.edges in_not_out c.attach.ensures.nodes_kept c.attach.ensures.edges_kept)
    (c.detach_both.ensures.moved.flanks Inward)

pub attach-requires-2-clause-node : goal.attach-requires-2-clause-node
attach-requires-2-clause-node c = c.attach.ensures.nodes_kept.live c.end_at-tail.result ∙ (c.detach_both.ensures.moved.nodes_kept.live c.end_at-tail.result ∙ owner_is_node Outward c.args.nodes.now c.args.edges.now c.end_at-tail.result c.args.edge (c.requires.sound.flanks Outward) c.end_at-tail.ensures)

is_reversed : (c : After-attach-2) → IsSound c.attach-2.new.nodes c.attach-2.new.edges × Reverses (graph_of c.args.nodes.now c.args.edges.now) (graph_of c.attach-2.new.nodes c.attach-2.new.edges) c.args.edge c.end_at-tail.result c.end_at-head.result
is_reversed c =
    let m = moved_both _ _ _ _ _ _ c.detach_both.new.nodes c.attach.new.nodes c.attach-2.new.nodes c.detach_both.new.edges c.attach.new.edges c.attach-2.new.edges c.attach.ensures c.attach-2.ensures in (
      reversed_sound c.args.nodes.now c.detach_both.new.nodes c.attach-2.new.nodes c.args.edges.now c.detach_both.new.edges c.attach-2.new.edges c.args.edge c.end_at-tail.result c.end_at-head.result c.requires.sound c.end_at-tail.ensures c.end_at-head.ensures c.detach_both.ensures m,
      reversed_edge c.args.nodes.now c.detach_both.new.nodes c.attach-2.new.nodes c.args.edges.now c.detach_both.new.edges c.attach-2.new.edges c.args.edge c.end_at-tail.result c.end_at-head.result c.requires.sound c.end_at-tail.ensures c.end_at-head.ensures c.detach_both.ensures m,
    )

pub returns-clause-sound : goal.returns-clause-sound
returns-clause-sound c = (is_reversed c).0

pub returns-clause-is_reversed : goal.returns-clause-is_reversed
returns-clause-is_reversed c =
    λ x is.
    subst (λ (h : ℕ). Reverses (graph_of c.args.nodes.now c.args.edges.now) (graph_of c.attach-2.new.nodes c.attach-2.new.edges) c.args.edge x.tail h) (head_known c.args.nodes.now c.args.edges.now c.args.edge c.end_at-head.result x c.requires.sound c.end_at-head.ensures is)
    (subst (λ (t : ℕ). Reverses (graph_of c.args.nodes.now c.args.edges.now) (graph_of c.attach-2.new.nodes c.attach-2.new.edges) c.args.edge t c.end_at-head.result) (tail_known c.args.nodes.now c.args.edges.now c.args.edge c.end_at-tail.result x c.requires.sound c.end_at-tail.ensures is) (is_reversed c).1)
