use Rattle.std.proofs.Common.{ℕ, subst}
use Rattle.graph_arena.specs.Flanks.{graph_of}
use Rattle.graph_arena.specs.Changes.{RemovesEdge}
use Rattle.graph_arena.proofs.Views.{tail_known, head_known}
use Rattle.graph_arena.proofs.Whole.{gone_sound, gone_edge}
use Rattle.graph_arena.proofs.relink.take_edge.Goals as goal

pub returns-clause-sound : goal.returns-clause-sound
returns-clause-sound c =
    gone_sound c.args.nodes.now c.detach_both.new.nodes c.args.edges.now c.detach_both.new.edges c.remove.new.self c.args.edge c.end_at-tail.result c.end_at-head.result c.requires.sound c.detach_both.ensures c.remove.ensures.updates.changed c.remove.ensures.updates.others c.remove.ensures.len

pub returns-clause-removed : goal.returns-clause-removed
returns-clause-removed c =
    λ x is.
    let base = gone_edge c.args.nodes.now c.detach_both.new.nodes c.args.edges.now c.detach_both.new.edges c.remove.new.self c.args.edge c.end_at-tail.result c.end_at-head.result c.requires.sound c.detach_both.ensures c.remove.ensures.updates.changed c.remove.ensures.updates.others c.remove.ensures.len in
    subst (λ (h : ℕ). RemovesEdge (graph_of c.args.nodes.now c.args.edges.now) (graph_of c.detach_both.new.nodes c.remove.new.self) c.args.edge x.tail h) (head_known c.args.nodes.now c.args.edges.now c.args.edge c.end_at-head.result x c.requires.sound c.end_at-head.ensures is)
    (subst (λ (t : ℕ). RemovesEdge (graph_of c.args.nodes.now c.args.edges.now) (graph_of c.detach_both.new.nodes c.remove.new.self) c.args.edge t c.end_at-head.result) (tail_known c.args.nodes.now c.args.edges.now c.args.edge c.end_at-tail.result x c.requires.sound c.end_at-tail.ensures is) base)
