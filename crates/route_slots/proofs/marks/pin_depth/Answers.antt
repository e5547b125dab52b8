use Rattle.std.proofs.Common.{◌≡◌, Some, arith, rules}
use Rattle.std.specs.Ordering.{int_cmp}
use Rattle.std.specs.BTreeMap.{get}
use Rattle.std.proofs.lemmas.List.{get_or_read}
use Rattle.route_slots.proofs.marks.pin_depth.Goals as goal

pub overflow_add-result : goal.overflow_add-result
overflow_add-result c =
    let found : get int_cmp c.args.depths.now.numbers c.args.pin.height ≡ Some c.in-Some.number.now = search rules in
    let inside = c.requires.inside c.args.pin.height c.in-Some.number.now found in
    let small = c.requires.small c.args.pin.height c.in-Some.number.now found in
    let is = get_or_read c.args.depths.now.depths.items c.in-Some.number.now c.index.result.now inside c.index.ensures 0 in
    omega arith
