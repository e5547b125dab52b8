use Rattle.std.proofs.Common.{◌++◌, ◌∷◌, [], pos, map, take, arith, rules, ap, sym, ◌∙◌, append_assoc, w64, FitsSigned, to_z-of_z}
use Rattle.std.proofs.lemmas.List.{map_more, take_all}
use Rattle.elk_layers.specs.Layered.{link_at}
use Rattle.ns_place.specs.Start.{joint_layer}
use Rattle.ns_place.proofs.start.push_joint_layers.Goals as goal

pub loop-link-preserved : goal.loop-link-preserved
loop-link-preserved c =
    let tops = c.args.top.now in
    let links = c.args.links.now in
    let i = c.loop-link.link-index in
    let fits : FitsSigned w64 c.joint_layer.result = search rules in
    let pushed = rw (to_z-of_z fits) at c.in_ok-push.ensures.items in
    pushed ∙ ap (λ z. c.loop-link.all.items ++ z ∷ []) c.joint_layer.ensures ∙ ap (λ zs. zs ++ joint_layer tops (link_at links i) ∷ []) c.loop-link.invariant
    ∙ append_assoc c.args.all.now.items (map (joint_layer tops) (take i links)) (joint_layer tops (link_at links i) ∷ [])
    ∙ ap (λ zs. c.args.all.now.items ++ zs) (sym (map_more (joint_layer tops) links i (record { edge = 0; tail = 0; head = 0; tail_rank = 0; head_rank = 0; tail_at = pos 0; head_at = pos 0 }) c.loop-link-test.true))

pub returns : goal.returns
returns c = c.loop-link.invariant ∙ ap (λ ls. c.args.all.now.items ++ map (joint_layer c.args.top.now) ls) (take_all c.loop-link.link-index c.args.links.now (omega arith))
