use Rattle.std.proofs.Common.{rules, below_more}
use Rattle.std.proofs.lemmas.Bool.{both_ways}
use Rattle.layout_check.specs.FirstApart.{OutlineClear}
use Rattle.layout_check.specs.Levels.{at_level}
use Rattle.layout_check.proofs.beyond.outlines_clear.Goals as goal

pub loop-child-preserved : goal.loop-child-preserved
loop-child-preserved c =
    below_more (at_level OutlineClear c.args.level.now c.args.across c.args.i c.args.j) _ c.loop-child.invariant (c.outline_clear.ensures.0 c.if-not-outline_clear.false)

pub returns-then-not-outline_clear : goal.returns-then-not-outline_clear
returns-then-not-outline_clear c =
    (λ h. absurd (search rules), λ h. absurd (both_ways c.outline_clear.result c.if-not-outline_clear.true (c.outline_clear.ensures.1 (h c.loop-child.child))))
