use Rattle.unit_blocks.proofs.JoinLemmas.{names_from, horizontal_from}
use Rattle.unit_blocks.proofs.laws.joined_units_are_named.Goals as goal

pub returns : goal.returns
returns c = λ l rows chosen into names offsets sound straight are long all.
    record {
      named = names_from l rows chosen into names offsets sound straight are long all;
      horizontal = horizontal_from l rows chosen into names offsets sound straight are all;
    }
