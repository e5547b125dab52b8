use Rattle.std.proofs.Common.{refl}
use Rattle.elk_doc.specs.Numbers.{count_below, numbers_below}
use Rattle.working_frame.proofs.laws.levels_rotate.Goals as goal

pub returns : goal.returns
unfolding count_below numbers_below
returns c = record { right = refl; left = refl; down = refl; up = refl }
