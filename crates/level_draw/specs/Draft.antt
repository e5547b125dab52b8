-- What a level's drawing is made from.
use Rattle.level_model.specs.Conditions.{plain_plan}
use Rattle.level_model.specs.Level.{PlainPlan}
use Rattle.level_draw.specs.declared.parts.Draft.{Draft}

-- the plan of a draft
abbrev pub plan_in : Draft → PlainPlan
plan_in v = plain_plan v.layered.now v.order.now v.lines.now.top.items v.reversed.now
