use Rattle.std.proofs.Common.{◌++◌, ◌∷◌, [], pos, map, arith, ap, sym, ◌∙◌}
use Rattle.std.proofs.lemmas.List.{map_more, take_all}
use Rattle.elk_layers.specs.Layered.{link_at}
use Rattle.ns_place.specs.Straight.{weight_for}
use Rattle.ns_place.proofs.straight.weigh_straight.Goals as goal

pub loop-link-preserved : goal.loop-link-preserved
loop-link-preserved c =
    let links = c.args.links.now in
    let i = c.loop-link.link-index in
    let weight = weight_for c.args.straightness c.args.top.now in
    c.in_ok-push.ensures.items
    ∙ ap (λ w. c.loop-link.weights.items ++ w ∷ []) c.weight_for.ensures
    ∙ ap (λ ws. ws ++ weight_for c.args.straightness c.args.top.now (link_at links i) ∷ []) c.loop-link.invariant
    ∙ sym (map_more (weight_for c.args.straightness c.args.top.now) links i (record { edge = 0; tail = 0; head = 0; tail_rank = 0; head_rank = 0; tail_at = pos 0; head_at = pos 0 }) c.loop-link-test.true)

pub returns : goal.returns
returns c = c.loop-link.invariant ∙ ap (map (weight_for c.args.straightness c.args.top.now)) (take_all c.loop-link.link-index c.args.links.now (omega arith))
