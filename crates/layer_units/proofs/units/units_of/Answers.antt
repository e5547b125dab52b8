use Rattle.std.proofs.lemmas.Result.{IfOk-weaker}
use Rattle.elk_layers.specs.Layered.{plain}
use Rattle.level_model.specs.Conditions.{plain_level}
use Rattle.layer_units.specs.Layering.{layering}
use Rattle.layer_units.specs.Marks.{listed}
use Rattle.layer_units.proofs.LayerLemmas.{few_counted}
use Rattle.layer_units.proofs.SoundLemmas.{is_sound, num}
use Rattle.layer_units.proofs.LinkedLemmas.{are_linked}
use Rattle.layer_units.proofs.units.units_of.Goals as goal

pub returns : goal.returns
returns c =
    let s = layering (plain_level c.args.level.now) (listed c.args.is_reversed.now) c.args.layers.now in
    record {
      linked = IfOk-weaker c.grow.result _ _ (λ v made rows tops. are_linked s c.requires.level c.requires.layering (plain v) made rows tops) c.grow.ensures;
      sound = IfOk-weaker c.grow.result _ _ (λ v made. is_sound s c.requires.level c.requires.layering (plain v) made) c.grow.ensures;
      numbered = IfOk-weaker c.grow.result _ _ (λ v made. num s c.requires.level c.requires.layering (plain v) made) c.grow.ensures;
      layers = IfOk-weaker c.grow.result _ _ (λ v made. made.count_is) c.grow.ensures;
      few_layers = IfOk-weaker c.grow.result _ _ (λ v made. few_counted s.level s.reversed s.layers v.layers c.requires.layering made.count_is) c.grow.ensures;
      node_node = IfOk-weaker c.grow.result _ _ (λ v made. made.node_node_is) c.grow.ensures;
      edge_node = IfOk-weaker c.grow.result _ _ (λ v made. made.edge_node_is) c.grow.ensures;
      edge_edge = IfOk-weaker c.grow.result _ _ (λ v made. made.edge_edge_is) c.grow.ensures;
    }
