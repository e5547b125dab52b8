use Rattle.std.proofs.Common.{◌<◌, ap, arith, length, refl, sym, subst, ◌∙◌}
use Rattle.std.proofs.lemmas.List.{length-set}
use Rattle.level_layout.specs.Marks.{node_of}
use Rattle.level_layout.proofs.LongEdgeLemmas.{noted_more}
use Rattle.level_layout.proofs.chaining.note_layers.Goals as goal

pub loop-c-init : goal.loop-c-init
loop-c-init c = (refl, λ b h. absurd (omega (arith, h)))

pub note_layer-requires : goal.note_layer-requires
note_layer-requires c = subst (λ n. node_of c.args.nodes.now c.loop-c.c < n) (sym c.loop-c.invariant.0) (c.requires.within c.loop-c.c c.loop-c-test.true)

pub loop-c-preserved : goal.loop-c-preserved
loop-c-preserved c = (
  ap length c.note_layer.ensures ∙ length-set _ _ _ ∙ c.loop-c.invariant.0,
  noted_more c.args.nodes.now c.args.layers.now c.loop-c.by_node c.note_layer.new.by_node c.loop-c.c c.loop-c-test.true
      (λ b h. subst (λ n. node_of c.args.nodes.now b < n) (sym c.loop-c.invariant.0) (c.requires.within b h)) c.requires.once c.loop-c.invariant.1 c.note_layer.ensures,
)
