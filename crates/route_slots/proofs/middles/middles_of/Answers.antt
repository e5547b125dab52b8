use Rattle.std.proofs.Common.{◌≡◌, ◌++◌, ◌∷◌, [], length, subst, rules, arith}
use Rattle.route_slots.specs.Middles.{IsMiddle}
use Rattle.net_routes.specs.Pieces.{net_at}
use Rattle.route_slots.proofs.Meeting.{AreMet, none_met, met_more, all_met}
use Rattle.route_slots.proofs.middles.middles_of.Goals as goal

pub nets-init : goal.nets-init
nets-init c = none_met c.args.nets.now c.highest-top.result.value c.in_ok-taken.taken c.new-middles.result.items c.new-middles.ensures.items c.in_ok-taken.ensures

pub nets-preserved : goal.nets-preserved
nets-preserved c =
    let nets = c.args.nets.now in
    let n = c.nets.number in
    let top = c.highest-top.result.value in
    let x = c.in_ok-take_height.field-0 in
    let items : c.push.new.self.items ≡ c.nets.middles.items ++ c.in_ok-take_height.field-0 ∷ [] = search rules in
    let middle =
    subst (λ a. IsMiddle c.nets.taken c.take_height.new.taken (net_at nets n) a x.value) c.above_pins-above.ensures c.in_ok-take_height.ensures.middle in
    met_more nets top c.nets.taken c.take_height.new.taken c.nets.middles.items c.push.new.self.items x n c.nets.invariant (omega arith) c.highest-top.ensures.top c.in_ok-take_height.ensures.kept middle items

pub returns : goal.returns
returns c =
    let e : c.nets.number ≡ length c.args.nets.now = omega arith in
    all_met c.args.nets.now c.highest-top.result.value c.nets.taken c.nets.middles.items
    (subst (λ n. AreMet c.args.nets.now c.highest-top.result.value c.nets.taken c.nets.middles.items n) e c.nets.invariant) c.highest-top.ensures.top
