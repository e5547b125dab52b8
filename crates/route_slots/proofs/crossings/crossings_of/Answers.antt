use Rattle.std.proofs.Common.{length, sym, arith}
use Rattle.net_routes.specs.Crossings.{sum_to, cut_at}
use Rattle.net_routes.proofs.Summing.{sum_none, sum_more}
use Rattle.route_slots.proofs.crossings.crossings_of.Goals as goal

pub nets-init : goal.nets-init
nets-init c = record { sum = sym (sum_none _); few = omega arith }

pub nets-preserved : goal.nets-preserved
nets-preserved c =
    let here = c.row_crossings-total.ensures.few in
    let few = c.row_crossings-total.ensures.row in
    let was = c.nets.invariant.sum in
    let bound = c.nets.invariant.few in
    let more = sum_more (λ j. sum_to (cut_at c.args.nets.now c.args.routes.now j) (length c.args.nets.now)) c.nets.j in
    record { sum = omega arith; few = omega arith }
