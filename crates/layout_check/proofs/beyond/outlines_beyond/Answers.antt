use Rattle.std.proofs.Common.{rules, below_more}
use Rattle.std.proofs.lemmas.Bool.{both_ways}
use Rattle.layout_check.specs.FirstApart.{OutlineBeyond}
use Rattle.layout_check.specs.Levels.{at_level}
use Rattle.layout_check.proofs.beyond.outlines_beyond.Goals as goal

pub loop-child-preserved : goal.loop-child-preserved
loop-child-preserved c =
    below_more (at_level OutlineBeyond c.args.level.now c.args.across c.args.r c.args.j) _ c.loop-child.invariant (c.outline_beyond.ensures.0 c.if-not-outline_beyond.false)

pub returns-then-not-outline_beyond : goal.returns-then-not-outline_beyond
returns-then-not-outline_beyond c =
    (λ h. absurd (search rules), λ h. absurd (both_ways c.outline_beyond.result c.if-not-outline_beyond.true (c.outline_beyond.ensures.1 (h c.loop-child.child))))
