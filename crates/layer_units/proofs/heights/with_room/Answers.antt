use Rattle.std.proofs.Common.{refl}
use Rattle.layer_units.proofs.RoomLemmas.{height_sum, length_read, same_unit, small_read}
use Rattle.layer_units.proofs.heights.with_room.Goals as goal

pub returns : goal.returns
returns c =
    let top = c.room-body_top.ensures in
    let below = c.room-below.ensures in
    same_unit _ _ refl refl
    (height_sum c.room-body_top.result c.args.child.now.outline.height c.room-below.result _ _ top.value below.value top.small c.requires.height below.small)
    (small_read c.room-body_top.result _ top.value top.small) (length_read c.args.child.now.outline.height c.requires.height) refl refl
