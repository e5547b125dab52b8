use Rattle.std.proofs.Common.{◌≡◌, ◌∙◌, Some, ap, subst, rules, FitsSigned, w64, pos}
use Rattle.std.proofs.lemmas.Int.{to_z-of_z}
use Rattle.network_laws.specs.Network.{edge_at}
use Rattle.network_laws.specs.declared.links.End.TheVariants.{Tail, Head}
use Rattle.net_simplex.specs.Pivots.{is_in, shifted, slack}
use Rattle.net_simplex.specs.Outward.{IsNearest}
use Rattle.net_simplex.proofs.Nearness.{only_up, only_down, nearer_wins}
use Rattle.net_simplex.proofs.entering.nearer_of_both.Goals as goal

pub with_slack-requires : goal.with_slack-requires
with_slack-requires c =
    let m = subst (λ o. IsNearest c.args.edges.now Tail c.args.reached.now c.args.layers.now o) c.in-Some.is c.requires.up in
    rw (to_z-of_z w64 c.args.by c.ranges.by) (record { there = m.0; marks = c.requires.marks; ends = c.requires.ends; layering = c.requires.layering })

pub with_slack-requires-in-Some-down : goal.with_slack-requires-in-Some-down
with_slack-requires-in-Some-down c =
    let m = subst (λ o. IsNearest c.args.edges.now Head c.args.reached.now c.args.layers.now o) c.in-Some-down.is c.requires.down in
    rw (to_z-of_z w64 c.args.by c.ranges.by) (record { there = m.0; marks = c.requires.marks; ends = c.requires.ends; layering = c.requires.layering })

pub returns-in-Some-down : goal.returns-in-Some-down
returns-in-Some-down c =
    let edges = c.args.edges.now in
    let reached = c.args.reached.now in
    let layers = c.args.layers.now in
    let by = c.args.by in
    let fb : FitsSigned w64 by = search rules in
    let a = c.in-Some.a in
    let b = c.in-Some-down.b in
    let x = c.with_slack.result in
    let y = c.with_slack-in-Some-down.result in
    let m = subst (λ o. IsNearest edges Tail reached layers o) c.in-Some.is c.requires.up in
    let n = subst (λ o. IsNearest edges Head reached layers o) c.in-Some-down.is c.requires.down in
    let sa : x.slack ≡ pos (slack (shifted (is_in reached) by layers) (edge_at edges a)) = rw (to_z-of_z w64 by fb) at c.with_slack.ensures.slack in
    let sb : y.slack ≡ pos (slack (shifted (is_in reached) by layers) (edge_at edges b)) = rw (to_z-of_z w64 by fb) at c.with_slack-in-Some-down.ensures.slack in
    ap Some c.nearer.ensures ∙ nearer_wins edges reached by layers c.requires.ends c.requires.layering x y a b c.with_slack.ensures.edge c.with_slack-in-Some-down.ensures.edge sa sb m n

pub returns-in-None-down : goal.returns-in-None-down
returns-in-None-down c =
    only_up c.args.edges.now c.args.reached.now c.args.by c.args.layers.now c.requires.ends c.requires.layering c.in-Some.a
    (subst (λ o. IsNearest c.args.edges.now Tail c.args.reached.now c.args.layers.now o) c.in-Some.is c.requires.up)
    (subst (λ o. IsNearest c.args.edges.now Head c.args.reached.now c.args.layers.now o) c.in-None-down.is c.requires.down)

pub returns-in-None : goal.returns-in-None
returns-in-None c =
    only_down c.args.edges.now c.args.reached.now c.args.by c.args.layers.now c.requires.ends c.requires.layering c.args.down
    (subst (λ o. IsNearest c.args.edges.now Tail c.args.reached.now c.args.layers.now o) c.in-None.is c.requires.up) c.requires.down
