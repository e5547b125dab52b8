use Rattle.std.proofs.Common.{◌*◌, ◌+◌, ◌<◌, ◌≤◌, arith, inl, inr}
use Rattle.std.proofs.lemmas.Bool.{cases_lt}
use Rattle.layout_check.proofs.ParallelLaws.{route_parallel}
use Rattle.layout_check.proofs.blocks.all_clear.Goals as goal

pub child_clear-requires-clause-parallel : goal.child_clear-requires-clause-parallel
child_clear-requires-clause-parallel c = route_parallel c.args.scene.now.doc.now c.args.scene.now.placed.now c.args.edge c.requires.route

pub child_clear-requires-2-clause-parallel : goal.child_clear-requires-2-clause-parallel
child_clear-requires-2-clause-parallel c = route_parallel c.args.scene.now.doc.now c.args.scene.now.placed.now c.args.edge c.requires.route

pub block_clear-requires-clause-parallel : goal.block_clear-requires-clause-parallel
block_clear-requires-clause-parallel c = route_parallel c.args.scene.now.doc.now c.args.scene.now.placed.now c.args.edge c.requires.route

pub loop-block-preserved : goal.loop-block-preserved
loop-block-preserved c =
    λ k below inside.
    elim (cases_lt k (c.loop-block.block * 16)) [
      | inl before ↦ c.loop-block.invariant k before inside
      | inr after ↦
          let first : c.loop-block.block * 16 ≤ k = omega (arith, after) in
          let near : k < c.loop-block.block * 16 + 16 = omega (arith, below) in
          c.block_clear.ensures c.if-not-block_clear.false k first (c.block_end-to.ensures.whole k near inside)
    ]
