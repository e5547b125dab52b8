-- A level of two children, one with a port on its west side that an edge leaves, as a table is made of it.
use Rattle.std.specs.Prelude.{ℕ, List, [], ◌∷◌}
use Rattle.level_model.specs.Level.{PlainLevel, PlainPlan}
use Rattle.level_model.specs.Examples as worked

abbrev pub west : PlainLevel
west = worked.west

-- its plan, before tops are known
abbrev pub west_plan : PlainPlan
west_plan =
    record {
      layers = worked.west_plan.layers;
      layered = worked.west_plan.layered;
      rows = worked.west_plan.rows;
      tops = [];
      reversed = [];
    }

-- the layers of its children
abbrev pub west_layers : List ℕ
west_layers = 0 ∷ 1 ∷ []
