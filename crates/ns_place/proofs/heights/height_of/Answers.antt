use Rattle.std.proofs.Common.{◌+ℤ◌, arith, w64, FitsSigned, to_z-of_z}
use Rattle.std.proofs.lemmas.Int.{ints}
use Rattle.elk_layers.specs.Lines.{top_of}
use Rattle.ns_place.proofs.heights.height_of.Goals as goal

pub returns : goal.returns
returns c =
    let a = c.requires.tail_top in
    let b = c.requires.head_top in
    let p = c.requires.tail_at in
    let q = c.requires.head_at in
    let tail_fits : FitsSigned w64 (top_of c.args.top.now c.args.link.tail) = omega (arith, ints, a.0, a.1) in
    let head_fits : FitsSigned w64 (top_of c.args.top.now c.args.link.head) = omega (arith, ints, b.0, b.1) in
    let tail_pin_fits : FitsSigned w64 c.args.link.tail_at = omega (arith, ints, p.0, p.1) in
    let head_pin_fits : FitsSigned w64 c.args.link.head_at = omega (arith, ints, q.0, q.1) in
    let tail_end_fits : FitsSigned w64 (top_of c.args.top.now c.args.link.tail +ℤ c.args.link.tail_at) = omega (arith, ints, a.0, a.1, p.0, p.1) in
    let head_end_fits : FitsSigned w64 (top_of c.args.top.now c.args.link.head +ℤ c.args.link.head_at) = omega (arith, ints, b.0, b.1, q.0, q.1) in
    rw (to_z-of_z head_fits, to_z-of_z head_pin_fits, to_z-of_z tail_fits, to_z-of_z tail_pin_fits, to_z-of_z head_end_fits, to_z-of_z tail_end_fits) at c.between.ensures
