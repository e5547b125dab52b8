use Rattle.bk_place.proofs.LaneLemmas.{lanes_are_chosen}
use Rattle.bk_place.proofs.row_laws.lanes_stay_straight.Goals as goal

pub returns : goal.returns
returns c = λ l rows sweep sound are one order k hk inner. lanes_are_chosen l rows sweep sound are one order k hk inner
