-- A document whose root runs in any direction, over one node with a port and a loop, and a drawing of the root's level.
use Rattle.std.specs.Prelude.{ℕ, false, List, [], ◌∷◌, None, Some, pos}
use Rattle.elk_doc.specs.declared.document.Direction.{Direction}
use Rattle.elk_doc.specs.declared.document.End.TheVariants.{Node as AtNode}
use Rattle.elk_doc.specs.declared.document.Id.TheVariants.{Whole}
use Rattle.elk_doc.specs.declared.document.LevelOptions.{LevelOptions}
use Rattle.elk_doc.specs.declared.document.Node.{Node}
use Rattle.elk_doc.specs.declared.document.Port.{Port}
use Rattle.elk_doc.specs.declared.document.PortRule.TheVariants.{Free}
use Rattle.elk_doc.specs.Document.{Document}
use Rattle.drawing_types.specs.Shapes.{no_size}
use Rattle.elk_doc.specs.Examples.{edge, options, point, size}
use Rattle.level_io.specs.declared.figure.LevelFigure.{LevelFigure}

-- the default options with a padding of another width on each side
abbrev pub padded : Direction → LevelOptions
padded way =
    record {
      direction = way;
      spacing = (options way).spacing;
      padding = record { top = pos 1; left = pos 2; bottom = pos 3; right = pos 4 };
      fixed = None;
      split = false;
      component = pos 20;
      placing = (options way).placing;
      boxes = false;
      choices = (options way).choices;
    }

abbrev pub root : Direction → Node
root way = record { id = None; parent = None; size = no_size; rule = Free; position = None; level = Some (padded way) }

-- a leaf of 30 by 50
abbrev pub leaf : Node
leaf = record { id = Some (Whole (pos 1)); parent = Some 0; size = size 30 50; rule = Free; position = None; level = None }

-- its port, of 10 by 7
abbrev pub port : Port
port = record { id = Whole (pos 2); node = 1; size = size 10 7; place = point (pos 0) (pos 0); side = None; index = pos 0 }

abbrev pub rotating : Direction → Document
rotating way = record { nodes = root way ∷ leaf ∷ []; ports = port ∷ []; edges = edge (AtNode 1) (AtNode 1) ∷ [] }

-- the numbers of the ports of each node
abbrev pub port_rows : List (List ℕ)
port_rows = [] ∷ (0 ∷ []) ∷ []

-- a drawing of 65 by 31, in which the port has this place
abbrev pub figure : ℕ → ℕ → LevelFigure
figure x y =
    record {
      boxes = point (pos 3) (pos 4) ∷ [];
      ports = (point (pos x) (pos y) ∷ []) ∷ [];
      sections = record {
        start = point (pos 1) (pos 2);
        bends = point (pos 5) (pos 2) ∷ point (pos 5) (pos 9) ∷ [];
        end = point (pos 8) (pos 9);
      } ∷ [];
      certificate = record { layers = 0 ∷ []; reversed = []; flow = 0 ∷ []; span = 0; parts = [] };
      extent = size 65 31;
    }
