use Rattle.unit_blocks.proofs.StackLemmas.{can_be_placed}
use Rattle.unit_blocks.proofs.laws.blocks_can_be_placed.Goals as goal

pub returns : goal.returns
returns c = λ l rows chosen blocks roots order offsets floor bounds sound are straight posed counts few.
    can_be_placed l rows chosen blocks roots offsets floor bounds sound are straight posed order counts few
