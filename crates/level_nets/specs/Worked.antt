-- Two children side by side, joined by two parallel edges, with the table of their docks.
use Rattle.std.specs.Prelude.{ℕ, [], ◌∷◌, pos}
use Rattle.drawing_types.specs.declared.shape.Side.{Side}
use Rattle.drawing_types.specs.declared.shape.Side.TheVariants.{East, West}
use Rattle.level_model.specs.declared.table.EndAt.{EndAt}
use Rattle.level_model.specs.declared.table.ChildAt.{ChildAt}
use Rattle.level_model.specs.declared.table.Table.{Table}
use Rattle.level_model.specs.Examples.{parallel, parallel_plan}
use Rattle.level_nets.specs.Parts.{Parts}

abbrev pub child_of_table : ℕ → ChildAt
child_of_table unit =
    record { unit = unit; outline = record { x = pos 0; y = pos 0; width = pos 30; height = pos 30 }; ports = []; north = 0; south = 0 }

abbrev pub end_of_table : ℕ → Side → ℕ → ℕ → EndAt
end_of_table c side x y =
    record { dock = record { node = c; side = side; offset = pos y }; anchor = record { x = pos x; y = pos y }; lane = pos 0 }

abbrev pub parallel_table : Table
parallel_table =
    record {
      children = child_of_table 0 ∷ child_of_table 1 ∷ [];
      ends = end_of_table 0 East 30 10 ∷ end_of_table 1 West 0 10 ∷ end_of_table 0 East 30 20 ∷ end_of_table 1 West 0 20 ∷ [];
      loops = (record { north = pos 0; south = pos 0 }) ∷ (record { north = pos 0; south = pos 0 }) ∷ [];
    }

abbrev pub parallel_parts : Parts
parallel_parts =
    record { level = parallel; layered = parallel_plan.layered; tops = parallel_plan.tops; reversed = []; table = parallel_table }
