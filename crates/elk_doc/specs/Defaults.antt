-- The options of a level that asks for none.
use Rattle.std.specs.Prelude.{[], ◌∷◌, pos, None, false}
use Rattle.elk_doc.specs.declared.document.Direction.{Direction}
use Rattle.elk_doc.specs.declared.document.Placing.TheVariants.{BrandesKoepf}
use Rattle.elk_doc.specs.declared.document.Slotting.TheVariants.{Fewest}
use Rattle.elk_doc.specs.declared.document.Choices.{Choices}
use Rattle.elk_doc.specs.declared.document.LevelOptions.{LevelOptions}

-- what a level chooses that asks for nothing
abbrev pub default_choices : Choices
default_choices = record { slots = Fewest; numbers = 0 ∷ 0 ∷ 0 ∷ 0 ∷ 0 ∷ 0 ∷ 0 ∷ 0 ∷ [] }

-- the options of a level that asks for nothing but this direction
abbrev pub default_options : Direction → LevelOptions
default_options way =
    record {
      direction = way;
      spacing = record {
        node_node = pos 20;
        edge_node = pos 10;
        edge_edge = pos 10;
        node_layers = pos 20;
        edge_node_layers = pos 10;
        edge_edge_layers = pos 10;
      };
      padding = record { top = pos 12; left = pos 12; bottom = pos 12; right = pos 12 };
      fixed = None;
      split = false;
      component = pos 20;
      placing = BrandesKoepf;
      boxes = false;
      choices = default_choices;
    }
