-- One unit with a link to a unit and two links to another.
use Rattle.std.specs.Prelude.{pos, [], ◌∷◌}
use Rattle.elk_layers.specs.Layered.{Plain}
use Rattle.elk_layers.specs.PlaceExamples.{box, leads}

abbrev pub doubled : Plain
doubled =
    record {
      layers = 2;
      units = box 0 ∷ box 1 ∷ box 1 ∷ [];
      links = leads 1 (pos 10) ∷ leads 2 (pos 20) ∷ leads 2 (pos 20) ∷ [];
      node_node = pos 20;
      edge_node = pos 10;
      edge_edge = pos 10;
    }
