use Rattle.std.proofs.Common.{subst}
use Rattle.elk_layers.specs.Lines.{IsHorizontal}
use Rattle.bk_place.proofs.LaneLemmas.{lanes_are_chosen}
use Rattle.bk_place.proofs.laws.lanes_are_horizontal.Goals as goal

pub returns : goal.returns
returns c = λ l rows sweep tops sound are one order lines k hk inner.
    let at = lanes_are_chosen l rows sweep sound are one order k hk inner in
    subst (IsHorizontal l tops) at.2 (lines.horizontal at.0 0 at.1)
