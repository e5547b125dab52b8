use Rattle.std.proofs.Common.{sym, arith}
use Rattle.level_split.proofs.StepLemmas.{area_more, area_none}
use Rattle.level_split.proofs.limit.total_area.Goals as goal

pub loop-size-init : goal.loop-size-init
loop-size-init c = (sym (area_none c.args.sizes.now _), omega arith)

pub loop-size-preserved : goal.loop-size-preserved
loop-size-preserved c =
    area_more c.args.sizes.now _ c.loop-size.size-index c.loop-size.total c.area-total.result _ c.loop-size-test.true c.loop-size.invariant c.area-total.ensures.value c.area-total.ensures.small
