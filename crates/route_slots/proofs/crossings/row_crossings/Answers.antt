use Rattle.std.proofs.Common.{sym, arith}
use Rattle.net_routes.specs.Crossings.{cut_at}
use Rattle.net_routes.proofs.Summing.{sum_none, sum_more}
use Rattle.route_slots.proofs.crossings.row_crossings.Goals as goal

pub nets-init : goal.nets-init
nets-init c = record { sum = sym (sum_none _); few = omega arith }

pub nets-preserved : goal.nets-preserved
nets-preserved c =
    let here = c.cut-total.ensures.few in
    let few = c.cut-total.ensures.cut in
    let was = c.nets.invariant.sum in
    let bound = c.nets.invariant.few in
    let more = sum_more (cut_at c.args.nets.now c.args.routes.now c.args.j) c.nets.k in
    record { sum = omega arith; few = omega arith }
