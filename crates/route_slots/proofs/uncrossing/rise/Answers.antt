use Rattle.std.proofs.Common.{◌≡◌, ◌<◌, ℕ, true, length, rules, arith}
use Rattle.route_slots.specs.NetDepths.{net_depth}
use Rattle.net_routes.specs.Uncrossed.{Precedes}
use Rattle.route_slots.proofs.Ordered.{two_bent}
use Rattle.route_slots.proofs.uncrossing.rise.Goals as goal
use borrow.Author.Count.{below_more}

pub nets-preserved : goal.nets-preserved
nets-preserved c =
    let yes : c.rises_from.result ≡ true = search rules in
    let each = below_more (λ j. (k : ℕ) → k < length c.args.nets.now → Precedes c.args.nets.now j k → net_depth c.args.depths.now j < net_depth c.args.depths.now k) c.nets.first
    (λ j h k l p. c.nets.invariant j k h l p) (c.rises_from.ensures yes) in
    λ j k h l p. each j h k l p

pub returns : goal.returns
returns c =
    let same : length c.args.depths.now ≡ length c.args.nets.now = search rules in
    let done = c.nets-test.false in
    λ e. record {
      len = same;
      rising = λ j k p. let w = two_bent c.args.nets.now j k p in let l = w.0 in c.nets.invariant j k (omega arith) w.1 p;
    }
