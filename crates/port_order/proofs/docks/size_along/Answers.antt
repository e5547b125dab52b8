use Rattle.std.proofs.Common.{◌^◌, pos, w64, subst, sym}
use Rattle.std.proofs.lemmas.Int.{to_z-of_z}
use Rattle.drawing_types.specs.Ranges.{IsWithin}
use Rattle.port_order.proofs.ChildLemmas.{size_along_small, small_fits}
use Rattle.port_order.proofs.docks.size_along.Goals as goal

pub returns-clause-small : goal.returns-clause-small
returns-clause-small c =
    let w : IsWithin (pos 0) (pos (2 ^ 47)) c.size_along.result = subst (IsWithin (pos 0) (pos (2 ^ 47))) (sym c.size_along.ensures) (size_along_small c.args.side c.args.size c.requires) in
    rw (to_z-of_z w64 c.size_along.result (small_fits _ w)) w
