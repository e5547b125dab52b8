-- Orders and tables do not depend on where units stand.
use Rattle.std.proofs.Common.{List, ℤ}
use Rattle.level_model.specs.declared.table.Table.{Table}
use Rattle.level_model.specs.Level.{Orders, PlainLevel, PlainPlan}
use Rattle.level_model.specs.Table.{IsTable}
use Rattle.dock_table.specs.Tops.{ReadNoTops, with_tops}

other_table : (l : PlainLevel) (p : PlainPlan) (o : Orders) (tops : List ℤ) (t : Table) → IsTable l p o t → IsTable l (with_tops p tops) o t
other_table l p o tops t is =
    record {
      child_count = is.child_count;
      end_count = is.end_count;
      loop_count = is.loop_count;
      children = λ c h. let x = is.children c h in record { unit = x.unit; outline_is = x.outline_is; as_many = x.as_many; ports = x.ports; north = x.north; south = x.south };
      sources = λ e h. let x = is.sources e h in record { dock = x.dock; anchor = x.anchor; lane = x.lane };
      targets = λ e h. let x = is.targets e h in record { dock = x.dock; anchor = x.anchor; lane = x.lane };
      loops = λ e h loop. let x = is.loops e h loop in record { north = x.north; south = x.south };
    }

pub no_tops : ReadNoTops
no_tops = record { orders = λ l p o tops are. are; table = other_table }
