use Rattle.std.proofs.Common.{List}
use Rattle.level_model.specs.Conditions.{plain_level}
use Rattle.level_model.specs.Level.{PlainPlan}
use Rattle.std.proofs.Common.{length}
use Rattle.std.specs.List.{All}
use Rattle.drawing_types.specs.declared.shape.Dock.{Dock}
use Rattle.dock_table.specs.Narrow.{IsOffset}
use Rattle.dock_table.specs.Ends.{AreEndDocks}
use Rattle.dock_table.specs.Rows.{AreSpotsOf, row_lists}
use Rattle.dock_table.specs.Sides.{AreDocks, FourOrders, dock_lists, orders_in}
use Rattle.dock_table.proofs.loops.end_docks.Given as goal

abbrev pub invariant-loop-e : goal.invariant-loop-e
invariant-loop-e l =
    record {
      offsets : All (λ (d : Dock). IsOffset d.offset) l.ends.items;
      docks : (p : PlainPlan) (vs : List FourOrders) → AreSpotsOf (plain_level l.level) p l.spots → AreDocks (plain_level l.level) (row_lists l.spots.rows) vs (length l.level.children) (dock_lists l.docks)
          → AreEndDocks (plain_level l.level) p (orders_in vs) l.e l.ends.items;
    }
