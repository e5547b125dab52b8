use Rattle.std.proofs.Common.{◌≡◌, ◌++◌, ◌∷◌, [], ◌+◌, get_or, rules}
use Rattle.net_routes.specs.declared.NetRoute.{NetRoute}
use Rattle.net_routes.specs.declared.NetRoute.TheVariants.{Straight}
use Rattle.route_slots.specs.Marks.{mark_at, height_of, route_by}
use Rattle.net_routes.proofs.Lists.{each_pushed}
use Rattle.route_slots.proofs.assigning.routes_of.Goals as goal

pub nets-preserved : goal.nets-preserved
nets-preserved c =
    let i = c.nets.number in
    let items : c.push.new.self.items ≡ c.nets.routes.items ++ c.route_of.result ∷ [] = search rules in
    let here : c.route_of.result ≡ route_by (mark_at c.args.marks.now c.nets.number) (get_or c.args.slots.now (c.nets.number + c.nets.number) 0) (height_of c.args.middles.now c.nets.number) (get_or c.args.slots.now (c.nets.number + c.nets.number + 1) 0) =
    c.route_of.ensures in
    record {
      len = search rules;
      each =
          each_pushed NetRoute Straight (λ k r. r ≡ route_by (mark_at c.args.marks.now k) (get_or c.args.slots.now (k + k) 0) (height_of c.args.middles.now k) (get_or c.args.slots.now (k + k + 1) 0))
          c.nets.routes.items c.push.new.self.items c.route_of.result i c.nets.invariant.len items c.nets.invariant.each here;
    }
