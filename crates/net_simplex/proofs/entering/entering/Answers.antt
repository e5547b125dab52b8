use Rattle.std.proofs.Common.{◌≡◌, ◌+◌, ◌∙◌, length, arith, sym, subst, rules, FitsSigned, w64}
use Rattle.std.specs.Int.{w128}
use Rattle.std.proofs.lemmas.Int.{to_z-of_z}
use Rattle.network_laws.specs.Network.{edge_at}
use Rattle.network_laws.specs.Layering.{layer_of}
use Rattle.net_simplex.specs.Pivots.{slack, leads_back, least_of}
use Rattle.net_simplex.specs.Rooted.{part_from}
use Rattle.net_simplex.specs.Walks.{part}
use Rattle.net_simplex.specs.Chosen.{Tells}
use Rattle.net_simplex.proofs.Looking.{passed_over, looked_at, slack_value}
use Rattle.net_simplex.proofs.entering.entering.Goals as goal
use Rattle.net_simplex.proofs.entering.entering.Goals.{then-leads_back_to, else-leads_back_to}

pub loop-k-preserved : goal.loop-k-preserved
loop-k-preserved c =
    let edges = c.args.edges.now in
    let layers = c.args.layers.now in
    let i = c.loop-k.k in
    let inside = part_from c.args.root_in (part c.args.tree.now.place.items c.args.walk.now.size.items c.args.child) in
    let leads : leads_back inside (edge_at edges i) ≡ c.leads_back_to.result = sym (rw (c.place_of-first.ensures, c.size_of-many.ensures) at c.leads_back_to.ensures) in
    elim c.if-leads_back_to.branch [
      | then-leads_back_to w ↦
          let e = edge_at edges i in
          let low = w.from.result in
          let high = w.from-then-leads_back_to.result in
          let z = w.slack_between-slack.result in
          let ft : FitsSigned w64 (layer_of layers e.tail) = search rules in
          let fh : FitsSigned w64 (layer_of layers e.head) = search rules in
          let fl : FitsSigned w128 low = search rules in
          let fg : FitsSigned w128 high = search rules in
          let fz : FitsSigned w128 z = search rules in
          let is = slack_value layers e low high z (c.requires.layering i c.loop-k-test.true) (rw (to_z-of_z w64 (layer_of layers e.tail) ft) at w.from.ensures) (rw (to_z-of_z w64 (layer_of layers e.head) fh) at w.from-then-leads_back_to.ensures) (rw (to_z-of_z w128 low fl, to_z-of_z w128 high fg) at w.slack_between-slack.ensures) in
          subst (λ o. Tells (λ k. slack layers (edge_at edges k)) (least_of (λ k. leads_back inside (edge_at edges k)) (λ k. slack layers (edge_at edges k)) (i + 1)) o) (sym (w.best-is ∙ (rw (to_z-of_z w128 z fz) at w.better-best.ensures)))
          (looked_at (λ k. leads_back inside (edge_at edges k)) (λ k. slack layers (edge_at edges k)) i z c.loop-k.best (leads ∙ w.if-leads_back_to.true) is c.loop-k.invariant)
      | else-leads_back_to w ↦
          subst (λ o. Tells (λ k. slack layers (edge_at edges k)) (least_of (λ k. leads_back inside (edge_at edges k)) (λ k. slack layers (edge_at edges k)) (i + 1)) o) (sym w.best-is)
          (passed_over (λ k. leads_back inside (edge_at edges k)) (λ k. slack layers (edge_at edges k)) i c.loop-k.best (leads ∙ w.if-leads_back_to.false) c.loop-k.invariant)
    ]

pub returns : goal.returns
returns c =
    let edges = c.args.edges.now in
    let layers = c.args.layers.now in
    let inside = part_from c.args.root_in (part c.args.tree.now.place.items c.args.walk.now.size.items c.args.child) in
    let e : c.loop-k.k ≡ length edges = let t = c.loop-k-test.false in let a = c.loop-k.auto.k-end in omega (arith, t, a) in
    subst (λ n. Tells (λ k. slack layers (edge_at edges k)) (least_of (λ k. leads_back inside (edge_at edges k)) (λ k. slack layers (edge_at edges k)) n) c.loop-k.best) e c.loop-k.invariant
