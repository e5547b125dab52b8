-- A level of four boxes without ports.
use Rattle.std.specs.Prelude.{ℕ, false, [], ◌∷◌, pos, None}
use Rattle.elk_doc.specs.Defaults.{default_choices}
use Rattle.elk_doc.specs.declared.document.PortRule.TheVariants.{Free}
use Rattle.elk_doc.specs.declared.document.Direction.{Direction}
use Rattle.port_order.specs.declared.children.Child.{Child}
use Rattle.level_model.specs.Examples.{spacing}
use Rattle.level_model.specs.Level.{PlainLevel}

abbrev pub box_of : Direction → ℕ → ℕ → Child
box_of way width height =
    record { size = record { width = pos width; height = pos height }; compound = false; rule = Free; direction = way; position = None; ports = [] }

abbrev pub four_boxes : Direction → PlainLevel
four_boxes way =
    record {
      children = box_of way 100 20 ∷ box_of way 30 30 ∷ box_of way 30 30 ∷ box_of way 40 10 ∷ [];
      edges = [];
      spacing = spacing;
      choices = default_choices;
    }
