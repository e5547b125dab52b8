use Rattle.std.proofs.Common.{refl}
use Rattle.graph_arena.proofs.Rooms.{roomy_sound, roomy_same, roomy_added, on_err}
use Rattle.graph_arena.proofs.relink.insert_edge.Goals as goal

pub returns-in_err-reserve_edges-clause-sound : goal.returns-in_err-reserve_edges-clause-sound
returns-in_err-reserve_edges-clause-sound c = roomy_sound c.args.nodes.now c.args.nodes.now c.args.edges.now c.reserve_edges.new.edges refl c.reserve_edges.ensures.kept c.requires.sound

pub returns-in_err-reserve_edges-clause-err : goal.returns-in_err-reserve_edges-clause-err
returns-in_err-reserve_edges-clause-err c = on_err c.from_residual.result (roomy_same c.args.nodes.now c.args.nodes.now c.args.edges.now c.reserve_edges.new.edges refl c.reserve_edges.ensures.kept)

pub insert_reserved-requires-clause-sound : goal.insert_reserved-requires-clause-sound
insert_reserved-requires-clause-sound c = roomy_sound c.args.nodes.now c.args.nodes.now c.args.edges.now c.reserve_edges.new.edges refl c.reserve_edges.ensures.kept c.requires.sound

pub returns-clause-added : goal.returns-clause-added
returns-clause-added c = roomy_added c.args.nodes.now c.args.edges.now c.reserve_edges.new.edges c.insert_reserved.new.nodes c.insert_reserved.new.edges c.insert_reserved.result c.args.tail c.args.head c.reserve_edges.ensures.kept c.insert_reserved.ensures.added
