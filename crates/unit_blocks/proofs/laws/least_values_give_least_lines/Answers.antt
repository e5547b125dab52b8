use Rattle.unit_blocks.proofs.LeastLemmas.{least_lines_from}
use Rattle.unit_blocks.proofs.laws.least_values_give_least_lines.Goals as goal

pub returns : goal.returns
returns c = λ l rows chosen blocks roots offsets floor values tops bounds holds sound are straight posed settled are_tops.
    least_lines_from l rows chosen blocks roots offsets floor bounds sound are straight posed values tops holds settled are_tops
