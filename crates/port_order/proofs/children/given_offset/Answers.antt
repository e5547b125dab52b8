use Rattle.std.proofs.Common.{to_z-of_z, refl}
use Rattle.port_order.proofs.ChildLemmas.{along_within, half_small, sum_fits, small_fits, far_fits}
use Rattle.port_order.proofs.children.given_offset.Goals as goal

pub overflow_add-result : goal.overflow_add-result
overflow_add-result c =
    let port = c.requires.child.ports c.args.port c.requires.port in
    let place = along_within _ c.args.side _ port.place in
    let half = half_small c.args.child.now c.args.port port in
    rw (c.along.ensures, c.port_at-found.ensures, to_z-of_z (far_fits _ place), to_z-of_z (small_fits _ half)) (sum_fits _ _ place half)

pub returns : goal.returns
returns c =
    let port = c.requires.child.ports c.args.port c.requires.port in
    let place = along_within _ c.args.side _ port.place in
    let half = half_small c.args.child.now c.args.port port in
    rw (c.along.ensures, c.port_at-found.ensures, to_z-of_z (far_fits _ place), to_z-of_z (small_fits _ half), to_z-of_z (sum_fits _ _ place half)) refl
