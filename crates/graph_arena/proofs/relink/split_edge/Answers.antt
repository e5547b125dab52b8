use Rattle.std.proofs.Common.{◌≡◌, Some, ◌∙◌, refl}
use Rattle.graph_arena.specs.Graph.{ends_at}
use Rattle.graph_arena.specs.Flanks.{graph_of}
use Rattle.graph_arena.proofs.Rooms.{roomy_sound, roomy_same, roomy_split, on_err}
use Rattle.graph_arena.proofs.relink.split_edge.Goals as goal

pub returns-in_err-reserve-clause-sound : goal.returns-in_err-reserve-clause-sound
returns-in_err-reserve-clause-sound c = roomy_sound c.args.nodes.now c.reserve.new.self c.args.edges.now c.args.edges.now c.reserve.ensures.rest_kept refl c.requires.sound

pub returns-in_err-reserve_edges-clause-sound : goal.returns-in_err-reserve_edges-clause-sound
returns-in_err-reserve_edges-clause-sound c = roomy_sound c.args.nodes.now c.reserve.new.self c.args.edges.now c.reserve_edges.new.edges c.reserve.ensures.rest_kept c.reserve_edges.ensures.kept c.requires.sound

pub returns-in_err-reserve_edges-clause-err : goal.returns-in_err-reserve_edges-clause-err
returns-in_err-reserve_edges-clause-err c = on_err _ (roomy_same c.args.nodes.now c.reserve.new.self c.args.edges.now c.reserve_edges.new.edges c.reserve.ensures.rest_kept c.reserve_edges.ensures.kept)

pub split_reserved-requires-clause-sound : goal.split_reserved-requires-clause-sound
split_reserved-requires-clause-sound c = roomy_sound c.args.nodes.now c.reserve.new.self c.args.edges.now c.reserve_edges.new.edges c.reserve.ensures.rest_kept c.reserve_edges.ensures.kept c.requires.sound

pub returns-clause-parted : goal.returns-clause-parted
returns-clause-parted c =
    λ x is.
    let there : ends_at (graph_of c.reserve.new.self c.reserve_edges.new.edges) c.args.edge ≡ Some x =
    (roomy_same c.args.nodes.now c.reserve.new.self c.args.edges.now c.reserve_edges.new.edges c.reserve.ensures.rest_kept c.reserve_edges.ensures.kept).same_edges c.args.edge ∙ is
    in
    roomy_split c.args.nodes.now c.reserve.new.self c.args.edges.now c.reserve_edges.new.edges c.split_reserved.new.nodes c.split_reserved.new.edges c.args.edge c.split_reserved.result.0 c.split_reserved.result.1 x.tail x.head
    c.reserve.ensures.rest_kept c.reserve_edges.ensures.kept (c.split_reserved.ensures.parted x there)
