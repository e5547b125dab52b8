use Rattle.std.proofs.Common.{ℕ, Bool, List, [], length, sym, subst}
use Rattle.level_model.specs.Marks.{AreMarks}
use Rattle.elk_layers.specs.Layered.{plain, rows_of}
use Rattle.level_model.specs.Conditions.{plain_level}
use Rattle.dock_table.proofs.WestLemmas.{level_is, linked_is, rows_are, sound_is}
use Rattle.level_tests.proofs.ends.west_table.Goals as goal

pub table_of-requires-clause-level : goal.table_of-requires-clause-level
table_of-requires-clause-level c = level_is (plain_level c.in_ok-level.level) c.in_ok-level.ensures

pub table_of-requires-clause-sound : goal.table_of-requires-clause-sound
table_of-requires-clause-sound c = sound_is (plain c.in_ok-layered.layered) c.in_ok-layered.ensures

pub table_of-requires-clause-rows : goal.table_of-requires-clause-rows
table_of-requires-clause-rows c = rows_are (plain c.in_ok-layered.layered) (rows_of c.in_ok-order.order) c.in_ok-layered.ensures c.in_ok-order.ensures

pub table_of-requires-clause-is_reversed : goal.table_of-requires-clause-is_reversed
table_of-requires-clause-is_reversed c =
    let linked = linked_is (plain_level c.in_ok-level.level) (plain c.in_ok-layered.layered) (rows_of c.in_ok-order.order) c.in_ok-level.ensures c.in_ok-layered.ensures c.in_ok-order.ensures in
    let marks = subst (λ (ms : List Bool). AreMarks [] (length c.in_ok-level.level.edges) ms) (sym c.as_slice.ensures.value)
    (subst (λ (n : ℕ). AreMarks [] n c.in_ok-is_reversed.is_reversed.items) c.len.ensures c.in_ok-is_reversed.ensures) in
    ([], record { marks = marks; layers = linked.0; linked = linked.1 })
