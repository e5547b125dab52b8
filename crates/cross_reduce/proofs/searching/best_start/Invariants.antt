use Rattle.elk_layers.specs.Layered.{plain, rows_of}
use Rattle.cross_reduce.specs.Candidates.{IsBestFrom, IsKeptOrFewer}
use Rattle.cross_reduce.proofs.searching.best_start.Given as goal

abbrev pub invariant-loop-start : goal.invariant-loop-start
invariant-loop-start l =
    record {
      best : IsBestFrom (plain l.layered) (rows_of l.initial.kept.order) l.kept;
      fewer : IsKeptOrFewer (plain l.layered) (rows_of l.initial.kept.order) (rows_of l.kept.order);
    }
