use Rattle.std.proofs.Common.{rules, sym, subst, w64, FitsSigned}
use Rattle.std.proofs.lemmas.Int.{to_z-of_z}
use Rattle.level_split.specs.Placing.{IsNearSize}
use Rattle.level_split.proofs.RoomLemmas.{box_stands, near_fits, place_fits, size_near}
use Rattle.level_split.proofs.placing.box_at.Goals as goal

pub rotated_place-corner-requires-clause-size : goal.rotated_place-corner-requires-clause-size
rotated_place-corner-requires-clause-size c = subst IsNearSize (sym c.outline_size.ensures) (size_near c.args.way c.args.outline c.requires.outline)

pub returns : goal.returns
returns c =
    let corner = c.rotated_place-corner.result in
    let near = c.rotated_place-corner.ensures.near in
    let a : FitsSigned w64 corner.x = place_fits corner.x near.x in
    let b : FitsSigned w64 corner.y = place_fits corner.y near.y in
    let x : FitsSigned w64 c.args.outline.x = near_fits c.args.outline.x c.requires.outline.across.low_end in
    let y : FitsSigned w64 c.args.outline.y = near_fits c.args.outline.y c.requires.outline.along.low_end in
    let left : FitsSigned w64 c.less.result = search rules in
    let top : FitsSigned w64 c.less-2.result = search rules in
    rw (to_z-of_z w64 c.less.result left, to_z-of_z w64 c.less-2.result top)
    (box_stands c.args.way c.args.extent c.args.place c.args.outline c.outline_size.result corner c.less.result c.less-2.result c.requires.outline c.outline_size.ensures c.rotated_place-corner.ensures.value near
    (rw (to_z-of_z w64 corner.x a, to_z-of_z w64 c.args.outline.x x) at c.less.ensures)
    (rw (to_z-of_z w64 corner.y b, to_z-of_z w64 c.args.outline.y y) at c.less-2.ensures))
