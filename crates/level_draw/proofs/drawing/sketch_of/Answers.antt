use Rattle.std.proofs.Common.{pos, ◌+ℤ◌}
use Rattle.level_model.specs.Conditions.{plain_level}
use Rattle.level_draw.specs.Draft.{plan_in}
use Rattle.level_draw.proofs.Sketching.{moved_drawn, moved_tight}
use Rattle.level_draw.proofs.drawing.sketch_of.Goals as goal

pub returns : goal.returns
returns c =
    let l = plain_level c.args.draft.now.level.now in
    let p = plan_in c.args.draft.now in
    let layers = c.requires.drawable.0 in
    let drawable = c.requires.drawable.1 in
    let v = c.in_ok-parts.parts in
    let w = c.in_ok-moved.moved in
    let r = c.reach_in-reach.result in
    let extent = c.size_of.result in
    record {
      left = pos 0 +ℤ r.low.x;
      top = pos 0 +ℤ r.low.y;
      drawn = moved_drawn l p layers drawable v w r extent c.in_ok-parts.ensures c.reach_in-reach.ensures.reach c.in_ok-moved.ensures c.size_of.ensures.width c.size_of.ensures.height;
      tight = moved_tight l p layers drawable v w r extent c.in_ok-parts.ensures c.reach_in-reach.ensures.reach c.in_ok-moved.ensures c.size_of.ensures.width c.size_of.ensures.height;
    }
