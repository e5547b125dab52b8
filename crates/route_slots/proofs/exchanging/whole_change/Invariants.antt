use Rattle.std.proofs.Common.{◌≡◌, ◌≤◌, ◌*◌}
use Rattle.route_slots.specs.Exchanges.{all_before, all_after}
use Rattle.route_slots.proofs.exchanging.whole_change.Given as goal

abbrev pub invariant-nets : goal.invariant-nets
invariant-nets l =
    record {
      before : l.change.before ≡ all_before l.nets l.routes l.slot l.j;
      after : l.change.after ≡ all_after l.nets l.routes l.slot l.j;
      few_before : l.change.before ≤ 6144 * l.j;
      few_after : l.change.after ≤ 6144 * l.j;
    }
