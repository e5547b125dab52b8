use Rattle.unit_blocks.proofs.WeavingLemmas.{woven_names, woven_row, woven_once}
use Rattle.unit_blocks.proofs.laws.weaving_is_sound.Goals as goal

pub returns : goal.returns
returns c = λ known names row can.
    record {
      names_kept = woven_names known names row can;
      row_kept = woven_row known names row;
      no_repeat = woven_once known names row can;
    }
