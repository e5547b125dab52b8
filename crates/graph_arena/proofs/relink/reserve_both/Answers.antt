use Rattle.std.proofs.Common.{refl}
use Rattle.graph_arena.proofs.Rooms.{roomy_sound}
use Rattle.graph_arena.proofs.relink.reserve_both.Goals as goal

pub returns-in_err-reserve-clause-sound : goal.returns-in_err-reserve-clause-sound
returns-in_err-reserve-clause-sound c = roomy_sound c.args.nodes.now c.reserve.new.self c.args.edges.now c.args.edges.now c.reserve.ensures.rest_kept refl c.requires

pub returns-clause-sound : goal.returns-clause-sound
returns-clause-sound c = roomy_sound c.args.nodes.now c.reserve.new.self c.args.edges.now c.reserve_edges.new.edges c.reserve.ensures.rest_kept c.reserve_edges.ensures.kept c.requires
