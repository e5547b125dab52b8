use Rattle.std.proofs.Common.{◌≡◌}
use Rattle.level_model.specs.Conditions.{plain_level}
use Rattle.layer_units.specs.Layering.{layering}
use Rattle.layer_units.specs.Marks.{listed}
use Rattle.layer_units.specs.Grown.{units_to, links_to}
use Rattle.layer_units.proofs.units.grow.Given as goal

abbrev pub invariant-loop-edge : goal.invariant-loop-edge
invariant-loop-edge l =
    record {
      units_are : l.units.items ≡ units_to (layering (plain_level l.level) (listed l.is_reversed) l.layers) l.edge;
      links_are : l.links.items ≡ links_to (layering (plain_level l.level) (listed l.is_reversed) l.layers) l.edge;
    }
