use Rattle.std.proofs.Common.{◌+◌, drop, ◌++◌, ◌∙◌, ap, sym, rules, arith, append-nil, w64, FitsSigned, to_z-of_z}
use Rattle.std.proofs.lemmas.List.{drop_all}
use Rattle.elk_layers.specs.Layered.{link_at}
use Rattle.ns_place.specs.Network.{joining}
use Rattle.ns_place.proofs.NetworkLemmas.{joints_step}
use Rattle.ns_place.proofs.network.push_joints.Goals as goal

pub loop-k-preserved : goal.loop-k-preserved
loop-k-preserved c =
    let ls = c.args.links.now in
    let k = c.loop-k.k in
    let ft : FitsSigned w64 (link_at ls k).tail_at = search rules in
    let fh : FitsSigned w64 (link_at ls k).head_at = search rules in
    let a = rw (to_z-of_z fh) at c.joint_edge.ensures in
    let b = rw (to_z-of_z ft) at c.joint_edge-in-loop-k.ensures in
    rw (c.in_ok-push-2.ensures.items, c.in_ok-push.ensures.items)
    (joints_step c.args.first ls c.args.weights.now k c.loop-k.edges.items c.joint_edge.result c.joint_edge-in-loop-k.result c.loop-k-test.true (omega arith) a b ∙ c.loop-k.invariant)

pub returns : goal.returns
returns c =
    let none = drop_all c.loop-k.k c.args.links.now (omega arith) in
    sym (append-nil c.loop-k.edges.items) ∙ ap (λ ls. c.loop-k.edges.items ++ joining (c.args.first + c.loop-k.k) ls (drop c.loop-k.k c.args.weights.now)) (sym none) ∙ c.loop-k.invariant
