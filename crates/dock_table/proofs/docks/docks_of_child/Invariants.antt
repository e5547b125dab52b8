use Rattle.std.proofs.Common.{◌≡◌, map, take}
use Rattle.std.specs.List.{All}
use Rattle.drawing_types.specs.declared.shape.Dock.{Dock}
use Rattle.dock_table.specs.Narrow.{IsOffset}
use Rattle.dock_table.specs.Sides.{dock_by, four_of}
use Rattle.dock_table.proofs.docks.docks_of_child.Given as goal

abbrev pub invariant-loop-i : goal.invariant-loop-i
invariant-loop-i l =
    record {
      docks : l.docks.items ≡ map (dock_by l.child l.node (four_of l.orders)) (take l.i l.spots);
      offsets : All (λ (d : Dock). IsOffset d.offset) l.docks.items;
    }
