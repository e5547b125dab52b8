use Rattle.std.proofs.Common.{◌≡◌, ◌≤◌, slice_index}
use Rattle.elk_doc.specs.Level.{is_child, place_of_child}
use Rattle.elk_doc.specs.Numbers.{count_below}
use Rattle.layout_check.specs.Shapes.{Lists}
use Rattle.layout_check.proofs.lists.by_child.Given as goal

abbrev pub invariant-loop-child : goal.invariant-loop-child
invariant-loop-child l = record { listed : Lists (λ child. slice_index l.values (place_of_child l.doc l.node child)) l.child l.numbers.items; counted : l.place ≡ count_below (is_child l.doc l.node) l.child; few : l.place ≤ l.child }
