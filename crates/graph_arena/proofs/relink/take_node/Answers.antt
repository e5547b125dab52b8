use Rattle.graph_arena.proofs.Removal.{dropped_sound, dropped_node}
use Rattle.graph_arena.proofs.relink.take_node.Goals as goal

pub returns-clause-sound : goal.returns-clause-sound
returns-clause-sound c =
    dropped_sound c.args.nodes.now c.clear_flank.new.nodes c.clear_flank-2.new.nodes c.remove.new.self c.args.edges.now c.clear_flank.new.edges c.clear_flank-2.new.edges c.args.node c.clear_flank.ensures.sound c.clear_flank-2.ensures.sound c.clear_flank.ensures.peeled c.clear_flank-2.ensures.peeled c.clear_flank.ensures.empty c.clear_flank-2.ensures.empty c.remove.ensures.updates.changed c.remove.ensures.updates.others

pub returns-clause-removed : goal.returns-clause-removed
returns-clause-removed c =
    dropped_node c.args.nodes.now c.clear_flank.new.nodes c.clear_flank-2.new.nodes c.remove.new.self c.args.edges.now c.clear_flank.new.edges c.clear_flank-2.new.edges c.args.node c.clear_flank.ensures.sound c.clear_flank-2.ensures.sound c.clear_flank.ensures.peeled c.clear_flank-2.ensures.peeled c.clear_flank.ensures.empty c.clear_flank-2.ensures.empty c.remove.ensures.updates.changed c.remove.ensures.updates.others
