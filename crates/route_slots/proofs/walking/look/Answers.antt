use Rattle.std.proofs.Common.{◌+◌, ◌-◌, ◌<◌, sym, subst, length, arith, rules}
use Rattle.std.specs.List.{sum_by}
use Rattle.route_slots.specs.declared.walking.Place.TheVariants.{New, Open, Done}
use Rattle.route_slots.specs.Links.{link_at, number_at}
use Rattle.route_slots.specs.Walks.{Enters, CutsLink, Sinks, weight}
use Rattle.route_slots.proofs.WalkStepping.{entered, cut_on, sunk_on, less_entered, link_from_top, same_search, place_read, few_done}
use Rattle.route_slots.proofs.walking.look.Goals as goal

pub sink-requires-clause-small : goal.sink-requires-clause-small
sink-requires-clause-small c =
    let s = c.requires.walk in
    let places = c.args.walk.now.places.items in
    let head = (link_at c.args.links.now c.args.number).head in
    let inside = c.requires.ends.heads c.args.number c.requires.number in
    let len = s.places_len in
    let there : (link_at c.args.links.now c.args.number).head < length c.args.walk.now.places.items = omega arith in
    let below = s.below head inside (place_read places head c.index.result.now Done there c.index.ensures c.in-Done.is) in
    let few = few_done places in
    let small = c.requires.nodes in omega arith

pub returns-in_ok-enter-in-New-clause-walk : goal.returns-in_ok-enter-in-New-clause-walk
returns-in_ok-enter-in-New-clause-walk c =
    let s = c.requires.walk in
    let w = c.args.walk.now in
    let links = c.args.links.now in
    let head = (link_at links c.args.number).head in
    let inside = c.requires.ends.heads c.args.number c.requires.number in
    let len = s.places_len in
    let there : (link_at c.args.links.now c.args.number).head < length c.args.walk.now.places.items = omega arith in
    let e : Enters c.args.walk.now c.enter.new.walk (link_at c.args.links.now c.args.number).head = search rules in
    same_search links w.ahead.items _ _ _ w.depths.items _ w.cut.items _ _ _ e.ahead e.places e.depths e.cut e.way
    (entered links w.ahead.items w.places.items w.depths.items w.cut.items w.way.items s head inside
    (place_read w.places.items head c.index.result.now New there c.index.ensures c.in-New.is)
    (link_from_top links w.ahead.items w.places.items w.depths.items w.cut.items w.way.items s c.args.node c.requires.top c.args.number c.requires.at c.requires.number))

pub returns-in_ok-enter-in-New-clause-less : goal.returns-in_ok-enter-in-New-clause-less
returns-in_ok-enter-in-New-clause-less c =
    let s = c.requires.walk in
    let w = c.args.walk.now in
    let n = c.enter.new.walk in
    let links = c.args.links.now in
    let head = (link_at links c.args.number).head in
    let inside = c.requires.ends.heads c.args.number c.requires.number in
    let len = s.places_len in
    let there : (link_at c.args.links.now c.args.number).head < length c.args.walk.now.places.items = omega arith in
    let e : Enters c.args.walk.now c.enter.new.walk (link_at c.args.links.now c.args.number).head = search rules in
    let less = less_entered w.places.items head there (place_read w.places.items head c.index.result.now New there c.index.ensures c.in-New.is) in
    subst (λ z. sum_by weight n.places.items + sum_by (λ a. length links - a) z < sum_by weight w.places.items + sum_by (λ a. length links - a) w.ahead.items) (sym e.ahead)
    (subst (λ z. sum_by weight z + sum_by (λ a. length links - a) w.ahead.items < sum_by weight w.places.items + sum_by (λ a. length links - a) w.ahead.items) (sym e.places)
    (omega (arith, less)))

pub returns-in-Open-clause-walk : goal.returns-in-Open-clause-walk
returns-in-Open-clause-walk c =
    let s = c.requires.walk in
    let w = c.args.walk.now in
    let links = c.args.links.now in
    let head = (link_at links c.args.number).head in
    let inside = c.requires.ends.heads c.args.number c.requires.number in
    let len = s.places_len in
    let there : (link_at c.args.links.now c.args.number).head < length c.args.walk.now.places.items = omega arith in
    let e : CutsLink c.args.walk.now c.cut_link.new.walk c.args.node c.args.number (number_at c.args.next.now c.args.number) = search rules in
    same_search links _ _ w.places.items _ w.depths.items _ _ _ w.way.items _ e.ahead e.places e.depths e.cut e.way
    (cut_on links w.ahead.items w.places.items w.depths.items w.cut.items w.way.items s c.args.node c.requires.top c.args.next.now c.requires.next c.args.number c.requires.at c.requires.number
    (place_read w.places.items head c.index.result.now Open there c.index.ensures c.in-Open.is) inside)

pub returns-in-Done-clause-walk : goal.returns-in-Done-clause-walk
returns-in-Done-clause-walk c =
    let s = c.requires.walk in
    let w = c.args.walk.now in
    let links = c.args.links.now in
    let head = (link_at links c.args.number).head in
    let inside = c.requires.ends.heads c.args.number c.requires.number in
    let len = s.places_len in
    let there : (link_at c.args.links.now c.args.number).head < length c.args.walk.now.places.items = omega arith in
    let e : Sinks c.args.walk.now c.sink.new.walk c.args.node (link_at c.args.links.now c.args.number).head (number_at c.args.next.now c.args.number) = search rules in
    same_search links _ _ w.places.items _ _ _ w.cut.items _ w.way.items _ e.ahead e.places e.depths e.cut e.way
    (sunk_on links w.ahead.items w.places.items w.depths.items w.cut.items w.way.items s c.args.node c.requires.top c.args.next.now c.requires.next c.args.number c.requires.at c.requires.number
    (place_read w.places.items head c.index.result.now Done there c.index.ensures c.in-Done.is) inside)
