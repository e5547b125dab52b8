use Rattle.std.proofs.Common.{sym, arith}
use Rattle.route_slots.specs.Exchanges.{near_before, near_after}
use Rattle.net_routes.specs.Pieces.{net_at, route_at}
use Rattle.net_routes.proofs.Summing.{sum_none, sum_more}
use Rattle.route_slots.proofs.exchanging.row_change.Goals as goal

pub nets-init : goal.nets-init
nets-init c = record { before = sym (sum_none _); after = sym (sum_none _); few_before = omega arith; few_after = omega arith }

pub nets-preserved : goal.nets-preserved
nets-preserved c =
    let nets = c.args.nets.now in
    let routes = c.args.routes.now in
    let s = c.args.slot in
    let j = c.args.j in
    let k = c.nets.k in
    let old = c.nets.invariant in
    let new = c.added-change.ensures in
    let here = c.pair_change-pair.ensures in
    let was_before = old.before in
    let was_after = old.after in
    let is_before = new.before in
    let is_after = new.after in
    let here_before = here.before in
    let here_after = here.after in
    let few_before = old.few_before in
    let few_after = old.few_after in
    let one_before = here.few_before in
    let one_after = here.few_after in
    let more_before = sum_more (λ k. near_before (net_at nets j) (route_at routes j) (net_at nets k) (route_at routes k) s) k in
    let more_after = sum_more (λ k. near_after (net_at nets j) (route_at routes j) (net_at nets k) (route_at routes k) s) k in
    record { before = omega arith; after = omega arith; few_before = omega arith; few_after = omega arith }
