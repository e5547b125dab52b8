use Rattle.std.proofs.Common.{[], ◌∷◌}
use Rattle.std.proofs.lemmas.List.Elements.{All-nil, All-cons}
use Rattle.box_pack.specs.Boxes.{IsSize}
use Rattle.phase_tests.proofs.packing.three_small_boxes_take_two_rows.Goals as goal

pub pack-requires-clause-sizes : goal.pack-requires-clause-sizes
pack-requires-clause-sizes g c =
    All-cons IsSize c.size.result (c.size-2.result ∷ c.size-3.result ∷ []) c.size.ensures
    (All-cons IsSize c.size-2.result (c.size-3.result ∷ []) c.size-2.ensures
    (All-cons IsSize c.size-3.result [] c.size-3.ensures (All-nil IsSize)))
