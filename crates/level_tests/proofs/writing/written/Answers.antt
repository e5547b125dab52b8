use Rattle.std.proofs.Common.{◌≡◌, refl, arith, rules}
use Rattle.level_io.specs.Canvas.{drawing_of}
use Rattle.level_io.specs.Written.{rows_in}
use Rattle.level_tests.specs.Rotating.{port_rows}
use Rattle.level_tests.proofs.RotatingLemmas.{are_numbers, is_writable}
use Rattle.level_tests.proofs.writing.written.Goals as goal

pub write_level-requires-clause-numbers : goal.write_level-requires-clause-numbers
write_level-requires-clause-numbers c =
    let rows : rows_in c.as_slice.result.now ≡ port_rows = search rules in
    are_numbers c.args.way c.in_ok-doc.doc _ c.in_ok-doc.ensures refl refl rows

pub write_level-requires-clause-out : goal.write_level-requires-clause-out
write_level-requires-clause-out c =
    is_writable c.args.way c.in_ok-doc.doc (drawing_of c.in_ok-canvas.canvas) c.in_ok-figure.figure c.args.x c.args.y c.in_ok-doc.ensures c.in_ok-canvas.ensures.value c.in_ok-figure.ensures (omega (arith, c.ranges.x)) (omega (arith, c.ranges.y))
