-- A root alone in its document, with two ports.
use Rattle.std.specs.Prelude.{pos, [], ◌∷◌, Option, Some, None}
use Rattle.drawing_types.specs.declared.shape.Side.{Side}
use Rattle.elk_doc.specs.declared.document.Id.{Id}
use Rattle.elk_doc.specs.declared.document.Id.TheVariants.{Whole}
use Rattle.elk_doc.specs.declared.document.PortRule.{PortRule}
use Rattle.elk_doc.specs.declared.document.Direction.{Direction}
use Rattle.elk_doc.specs.declared.document.Port.{Port}
use Rattle.elk_doc.specs.Document.{Document}
use Rattle.drawing_types.specs.Shapes.{no_size}
use Rattle.elk_doc.specs.Examples.{options, point, size}

abbrev pub port_with : Id → Option Side → Port
port_with id side =
    record { id = id; node = 0; size = size 10 20; place = point (pos 0) (pos 100); side = side; index = pos 0 }

-- the first port may ask for a side
abbrev pub rooted : Direction → PortRule → Option Side → Document
rooted way rule side =
    record {
      nodes = record { id = None; parent = None; size = no_size; rule = rule; position = None; level = Some (options way) } ∷ [];
      ports = port_with (Whole (pos 1)) side ∷ port_with (Whole (pos 2)) None ∷ [];
      edges = [];
    }
