use Rattle.std.proofs.Common.{[], ◌∷◌}
use Rattle.std.proofs.lemmas.List.Elements.{All-nil, All-cons}
use Rattle.box_pack.specs.Boxes.{IsSize}
use Rattle.phase_tests.proofs.packing.four_boxes_are_squarest_in_three_rows.Goals as goal

pub best-requires-clause-sizes : goal.best-requires-clause-sizes
best-requires-clause-sizes g c =
    All-cons IsSize c.size.result (c.size-2.result ∷ c.size-3.result ∷ c.size-4.result ∷ []) c.size.ensures
    (All-cons IsSize c.size-2.result (c.size-3.result ∷ c.size-4.result ∷ []) c.size-2.ensures
    (All-cons IsSize c.size-3.result (c.size-4.result ∷ []) c.size-3.ensures
    (All-cons IsSize c.size-4.result [] c.size-4.ensures (All-nil IsSize))))
