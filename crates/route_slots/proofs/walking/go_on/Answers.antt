use Rattle.std.proofs.Common.{◌≡◌, ◌∙◌, ◌+◌, ◌-◌, ◌<◌, ◌≤◌, vec_len, ap, sym, subst, length, arith, rules}
use Rattle.std.proofs.lemmas.List.{get_or_read}
use Rattle.std.specs.List.{sum_by}
use Rattle.route_slots.specs.Links.{number_at}
use Rattle.route_slots.specs.Walks.{IsTop, Leaves, weight}
use Rattle.route_slots.proofs.WalkStepping.{left, top_inside, top_places, top_open, less_left, same_search}
use Rattle.route_slots.proofs.walking.go_on.Goals as goal

pub returns-then-number-links-clause-walk : goal.returns-then-number-links-clause-walk
returns-then-number-links-clause-walk c =
    let s = c.requires.walk in
    let w = c.args.walk.now in
    let links = c.args.links.now in
    let node = c.index-node.result.now in
    let n : vec_len c.args.walk.now.way ≡ length c.args.walk.now.way.items = search rules in
    let len = c.len.ensures in
    let some = c.requires.some in
    let last = get_or_read w.way.items (c.len.result - 1) node (omega arith) c.index-node.ensures 0 ∙ ap (number_at w.way.items) (omega arith) in
    let top : IsTop c.args.walk.now.way.items c.index-node.result.now = record { some = c.requires.some; last = sym last } in
    let inside : c.index-node.result.now < length c.args.walk.now.ahead.items = top_inside links w.ahead.items w.places.items w.depths.items w.cut.items w.way.items s node top in
    let e : Leaves c.args.walk.now c.leave.new.walk c.index-node.result.now = search rules in
    let number : c.index-number.result.now ≡ number_at c.args.walk.now.ahead.items c.index-node.result.now = get_or_read w.ahead.items node c.index-number.result.now inside c.index-number.ensures 0 in
    let spent : length c.args.links.now ≤ number_at c.args.walk.now.ahead.items c.index-node.result.now = let past = c.if-number-links.true in omega arith in
    same_search links w.ahead.items _ _ _ w.depths.items _ w.cut.items _ _ _ e.ahead e.places e.depths e.cut e.way
    (left links w.ahead.items w.places.items w.depths.items w.cut.items w.way.items s node top spent)

pub returns-then-number-links-clause-less : goal.returns-then-number-links-clause-less
returns-then-number-links-clause-less c =
    let s = c.requires.walk in
    let w = c.args.walk.now in
    let left_walk = c.leave.new.walk in
    let links = c.args.links.now in
    let node = c.index-node.result.now in
    let n : vec_len c.args.walk.now.way ≡ length c.args.walk.now.way.items = search rules in
    let len = c.len.ensures in
    let some = c.requires.some in
    let last = get_or_read w.way.items (c.len.result - 1) node (omega arith) c.index-node.ensures 0 ∙ ap (number_at w.way.items) (omega arith) in
    let top : IsTop c.args.walk.now.way.items c.index-node.result.now = record { some = c.requires.some; last = sym last } in
    let e : Leaves c.args.walk.now c.leave.new.walk c.index-node.result.now = search rules in
    let less = less_left w.places.items node (top_places links w.ahead.items w.places.items w.depths.items w.cut.items w.way.items s node top)
    (top_open links w.ahead.items w.places.items w.depths.items w.cut.items w.way.items s node top) in
    subst (λ z. sum_by weight left_walk.places.items + sum_by (λ a. length links - a) z < sum_by weight w.places.items + sum_by (λ a. length links - a) w.ahead.items) (sym e.ahead)
    (subst (λ z. sum_by weight z + sum_by (λ a. length links - a) w.ahead.items < sum_by weight w.places.items + sum_by (λ a. length links - a) w.ahead.items) (sym e.places)
    (omega (arith, less)))
