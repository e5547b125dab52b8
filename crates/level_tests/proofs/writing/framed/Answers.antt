use Rattle.std.proofs.Common.{◌≡◌, refl, rules}
use Rattle.elk_doc.specs.declared.document.Direction.TheVariants.{Right}
use Rattle.level_io.specs.Written.{rows_in}
use Rattle.level_tests.specs.Rotating.{port_rows}
use Rattle.level_tests.proofs.RotatingLemmas.{are_numbers}
use Rattle.level_tests.proofs.writing.framed.Goals as goal

pub frame_node-requires-clause-numbers : goal.frame_node-requires-clause-numbers
frame_node-requires-clause-numbers c =
    let rows : rows_in c.as_slice.result.now ≡ port_rows = search rules in
    are_numbers Right c.in_ok-doc.doc _ c.in_ok-doc.ensures refl refl rows
