use Rattle.std.proofs.Common.{◌≡◌, ◌++◌, ◌∷◌, [], rules}
use Rattle.route_slots.specs.declared.links.Link.{Link}
use Rattle.net_routes.specs.Pieces.{net_at}
use Rattle.route_slots.specs.Numbers.{IsLinkOf}
use Rattle.net_routes.proofs.Lists.{each_pushed}
use Rattle.route_slots.proofs.depths.links_of.Goals as goal

pub nets-preserved : goal.nets-preserved
nets-preserved c =
    let items : c.push.new.self.items ≡ c.nets.links.items ++ c.link_of.result ∷ [] = search rules in
    let here : IsLinkOf c.args.heights.now.numbers (net_at c.args.nets.now c.nets.net-index) c.link_of.result = search rules in
    record {
      len = search rules;
      each =
          each_pushed Link (record { tail = 0; head = 0 }) (λ k l. IsLinkOf c.args.heights.now.numbers (net_at c.args.nets.now k) l) c.nets.links.items c.push.new.self.items c.link_of.result c.nets.net-index
          c.nets.invariant.len items c.nets.invariant.each here;
    }
