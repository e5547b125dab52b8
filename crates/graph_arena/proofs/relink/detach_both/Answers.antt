use Rattle.std.proofs.Common.{◌≡◌, Some, ◌∙◌}
use Rattle.slab.specs.Slab.{get}
use Rattle.graph_arena.specs.declared.slots.Flank.TheVariants.{Outward, Inward}
use Rattle.graph_arena.specs.Flanks.{place_in, no_place}
use Rattle.graph_arena.proofs.Whole.{by_flank, same_sound, same_kept, in_not_out, out_not_in, moved_both}
use Rattle.graph_arena.proofs.relink.detach_both.Goals as goal

pub detach-requires-2-clause-flank : goal.detach-requires-2-clause-flank
detach-requires-2-clause-flank c =
    same_sound Inward c.args.nodes.now c.detach.new.nodes c.args.edges.now c.detach.new.edges
    (same_kept Outward Inward c.args.nodes.now c.detach.new.nodes c.args.edges.now c.detach.new.edges in_not_out c.detach.ensures.moved.nodes_kept c.detach.ensures.moved.edges_kept)
    (c.requires.sound.flanks Inward)

pub returns : goal.returns
returns c =
    record {
      moved = moved_both _ _ _ _ _ _ c.args.nodes.now c.detach.new.nodes c.detach-2.new.nodes c.args.edges.now c.detach.new.edges c.detach-2.new.edges c.detach.ensures.moved c.detach-2.ensures.moved;
      loose = by_flank (λ s. place_in s (get c.detach-2.new.edges c.args.edge) ≡ Some no_place) (c.detach-2.ensures.moved.edges_kept.other_flank Outward out_not_in c.args.edge ∙ c.detach.ensures.loose) c.detach-2.ensures.loose;
    }
