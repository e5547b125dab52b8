use Rattle.std.proofs.Common.{◌+◌, ◌-◌, length, count_by}
use Rattle.std.specs.Option.{is_none}
use Rattle.cycle_break.specs.Search.{IsReady, Searched}
use Rattle.cycle_break.proofs.searching.search.Given as goal

abbrev pub invariant-entries : goal.invariant-entries
invariant-entries l =
    record {
      ready : IsReady l.work l.reached.items l.index;
      searched : Searched l.arena l.work l.fn.to.at l.next l.reached.items l.index;
    }

abbrev pub decreases-entries : goal.decreases-entries
decreases-entries l = count_by is_none l.index + length l.reached.items - l.next
