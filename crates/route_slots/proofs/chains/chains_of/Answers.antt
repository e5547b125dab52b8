use Rattle.std.proofs.Common.{◌≡◌, ◌+◌, ◌-◌, ◌<◌, sym, subst, length, arith}
use Rattle.route_slots.specs.Chains.{AreFirsts, AreNexts}
use Rattle.route_slots.proofs.Chaining.{firsts_more, nexts_more}
use Rattle.route_slots.proofs.chains.chains_of.Goals as goal

pub links-preserved : goal.links-preserved
links-preserved c =
    let nodes = c.args.nodes in
    let links = c.args.links.now in
    let k = c.links.number - 1 in
    let old = c.links.chains in
    let first = old.first.items in
    let next = old.next.items in
    let positive = c.links-test.true in
    let e : c.links.number ≡ c.links.number - 1 + 1 = omega arith in
    let within = c.links.invariant.within in
    let inside : c.links.number - 1 < length c.args.links.now = omega arith in
    let firsts = subst (λ z. AreFirsts nodes links z first) e c.links.invariant.firsts in
    let nexts = subst (λ z. AreNexts links z next) e c.links.invariant.nexts in
    let tail_inside = c.requires.ends.tails k inside in
    let puts = c.put_before.ensures in
    record {
      firsts = subst (AreFirsts nodes links k) (sym puts.first) (firsts_more nodes links first next k firsts nexts inside tail_inside);
      nexts = subst (AreNexts links k) (sym puts.next) (nexts_more nodes links first next k firsts nexts inside tail_inside);
      within = omega arith;
    }
