use Rattle.std.proofs.Common.{rules, below_more, subst, IsTrue}
use Rattle.layout_check.specs.Bounds.{HoldsRoute}
use Rattle.layout_check.specs.FirstRoutes.{ChildClear}
use Rattle.layout_check.proofs.ParallelLaws.{route_parallel}
use Rattle.layout_check.proofs.clear.first_met.Goals as goal

pub child_clear-requires : goal.child_clear-requires
child_clear-requires c =
    record {
      edge_in = c.requires.edge_in;
      child_in = search rules;
      scene = c.requires.scene;
      parallel = route_parallel c.args.scene.now.doc.now c.args.scene.now.placed.now c.args.edge c.requires.route;
      bounds = subst (λ s. HoldsRoute c.bounds_of-bounds.result s) c.section.ensures c.bounds_of-bounds.ensures;
    }

pub loop-child-preserved : goal.loop-child-preserved
loop-child-preserved c =
    let t : IsTrue c.child_clear.result = search rules in
    below_more (ChildClear c.args.scene.now.doc.now c.args.scene.now.placed.now c.args.node c.args.edge) _ c.loop-child.invariant (c.child_clear.ensures.0 t)
