use Rattle.std.proofs.Common.{◌≡◌, ap, arith, length, subst}
use Rattle.drawing_types.specs.declared.section.Section.{Section}
use Rattle.layout_check.specs.Bounds.{AreRouteBoundsBelow, HoldsRoute}
use Rattle.layout_check.proofs.BoundsLaws.{bounds_push}
use Rattle.layout_check.proofs.bounds.route_bounds.Goals as goal

pub loop-edge-preserved : goal.loop-edge-preserved
loop-edge-preserved c =
    let P : Section → Type 0 = λ s. HoldsRoute c.bounds_of.result s in
    bounds_push c.args.placed.now c.loop-edge.edge c.loop-edge.bounds.items _ c.bounds_of.result c.loop-edge.invariant (subst P c.section.ensures c.bounds_of.ensures) c.in_ok-push.ensures.items

pub returns : goal.returns
returns c =
    let end : c.loop-edge.edge ≡ length c.args.doc.now.edges = let e = ap length c.edges-edge-end.ensures.value in omega (arith, e) in
    subst (λ n. AreRouteBoundsBelow c.args.placed.now n c.loop-edge.bounds.items) end c.loop-edge.invariant
