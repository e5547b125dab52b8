use Rattle.std.proofs.Common.{ℕ, ◌<◌, below_more}
use Rattle.layout_check.specs.BoxBounds.{OutlineHeld}
use Rattle.layout_check.specs.Levels.{at_level}
use Rattle.layout_check.proofs.box_bounds.add_children.Goals as goal

pub loop-child-preserved : goal.loop-child-preserved
loop-child-preserved c =
    let P : ℕ → Type 0 = at_level OutlineHeld c.args.level.now c.add_child-held.new.bounds in
    let before : (k : ℕ) → k < c.loop-child.child → P k = λ k l child. c.add_child-held.ensures.kept _ _ (c.loop-child.invariant k l child) in
    below_more P _ before (c.add_child-held.ensures.held c.if-not-held.false)
