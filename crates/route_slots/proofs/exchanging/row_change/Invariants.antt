use Rattle.std.proofs.Common.{◌≡◌, ◌≤◌, ◌*◌}
use Rattle.route_slots.specs.Exchanges.{row_before, row_after}
use Rattle.route_slots.proofs.exchanging.row_change.Given as goal

abbrev pub invariant-nets : goal.invariant-nets
invariant-nets l =
    record {
      before : l.change.before ≡ row_before l.nets l.routes l.slot l.j l.k;
      after : l.change.after ≡ row_after l.nets l.routes l.slot l.j l.k;
      few_before : l.change.before ≤ 6 * l.k;
      few_after : l.change.after ≤ 6 * l.k;
    }
