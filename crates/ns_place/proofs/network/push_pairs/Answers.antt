use Rattle.std.proofs.Common.{◌≡◌, ◌++◌, ◌∷◌, [], ◌∙◌, ap, sym, map, take, append_assoc, rules, false, w64, FitsSigned, to_z-of_z}
use Rattle.std.proofs.lemmas.List.{map_more}
use Rattle.elk_layers.specs.Layered.{plain}
use Rattle.ns_place.specs.Flows.{pair_at}
use Rattle.ns_place.specs.Network.{edge_for, edge_between}
use Rattle.ns_place.proofs.network.push_pairs.Goals as goal

pub loop-pair-preserved : goal.loop-pair-preserved
loop-pair-preserved c =
    let l = plain c.args.layered.now in
    let ps = c.args.pairs.now in
    let i = c.loop-pair.pair-index in
    let old = c.args.edges.now.items in
    let fits : FitsSigned w64 c.distance.result = search rules in
    let is : c.pair_edge.result ≡ edge_for l c.args.alone (pair_at ps i) =
    (rw (to_z-of_z fits) at c.pair_edge.ensures) ∙ ap (edge_between c.args.alone (pair_at ps i)) c.distance.ensures in
    c.in_ok-push.ensures.items
    ∙ ap (λ e. c.loop-pair.edges.items ++ e ∷ []) is
    ∙ ap (λ es. es ++ edge_for l c.args.alone (pair_at ps i) ∷ []) c.loop-pair.invariant
    ∙ append_assoc old (map (edge_for l c.args.alone) (take i ps)) (edge_for l c.args.alone (pair_at ps i) ∷ [])
    ∙ ap (λ es. old ++ es) (sym (map_more (edge_for l c.args.alone) ps i (record { upper = 0; lower = 0; body = false; flow = 0 }) c.loop-pair-test.true))
