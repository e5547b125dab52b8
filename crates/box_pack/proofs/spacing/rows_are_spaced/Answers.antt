use Rattle.box_pack.proofs.SpacedLemmas.{rows_are_spaced}
use Rattle.box_pack.proofs.spacing.rows_are_spaced.Goals as goal

pub returns : goal.returns
returns c = rows_are_spaced
