use Rattle.std.proofs.Common.{subst, sym}
use Rattle.level_layout.specs.Layout.{IsLaidOut}
use Rattle.level_model.specs.Conditions.{IsLevel, plain_level}
use Rattle.level_parts.specs.declared.levels.PartLevel.{PartLevel}
use Rattle.level_split.proofs.StepLemmas.{layouts_more, part_read}
use Rattle.level_split.proofs.layouts.layouts_of.Goals as goal

pub layout_level-requires : goal.layout_level-requires
layout_level-requires c =
    subst (λ (x : PartLevel). IsLevel (plain_level x.level)) (sym (part_read c.args.parts.now c.loop-i.i c.index-parts-i.result c.loop-i-test.true)) (c.requires c.loop-i.i c.loop-i-test.true)

pub loop-i-preserved : goal.loop-i-preserved
loop-i-preserved c =
    layouts_more c.args.parts.now c.loop-i.i c.loop-i.outs.items c.push.new.self.items c.in_ok-layout_level.field-0 c.loop-i.invariant c.in_ok-push.ensures.items
    (subst (λ (x : PartLevel). IsLaidOut x.level c.in_ok-layout_level.field-0) (part_read c.args.parts.now c.loop-i.i c.index-parts-i.result c.loop-i-test.true) c.in_ok-layout_level.ensures)
