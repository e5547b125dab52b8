use Rattle.std.proofs.Common.{◌≤◌}
use Rattle.route_slots.specs.Exchanges.{AreLaid}
use Rattle.net_routes.specs.Crossings.{crossings}
use Rattle.route_slots.proofs.settling.settle.Given as goal

abbrev pub invariant-sweeps : goal.invariant-sweeps
invariant-sweeps l =
    record {
      laid : AreLaid l.nets l.count l.routes.items;
      most : crossings l.nets l.routes.items ≤ crossings l.nets l.initial.routes.items;
    }

abbrev pub decreases-sweeps : goal.decreases-sweeps
decreases-sweeps l = crossings l.nets l.routes.items
