use Rattle.std.proofs.Common.{◌∷◌, [], ◌++◌, List, Some, sym, ap, ◌∙◌, arith, map}
use Rattle.std.specs.List.{range_with_len}
use Rattle.std.proofs.lemmas.List.FromFn.{map-range_with_len_more}
use Rattle.port_order.specs.declared.spots.Spot.{Spot}
use Rattle.dock_table.specs.Rows.{bare}
use Rattle.dock_table.proofs.spots.port_row.Goals as goal

pub loop-k-preserved : goal.loop-k-preserved
loop-k-preserved c =
    c.in_ok-push.ensures.items
    ∙ ap (λ (xs : List Spot). xs ++ c.bare.result ∷ []) c.loop-k.invariant
    ∙ ap (λ (s : Spot). map (λ k. bare (Some k) k) (range_with_len 0 c.loop-k.k) ++ s ∷ []) c.bare.ensures
    ∙ sym (map-range_with_len_more (λ k. bare (Some k) k) 0 c.loop-k.k c.loop-k.k (omega arith))
