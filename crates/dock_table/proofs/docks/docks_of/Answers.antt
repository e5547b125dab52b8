use Rattle.std.proofs.Common.{◌<◌, ◌+◌, List, [], ◌∷◌, length, map, ap, sym, subst, ◌∙◌}
use Rattle.std.proofs.lemmas.List.{map-append}
use Rattle.port_order.specs.declared.children.Child.{Child}
use Rattle.level_model.specs.Conditions.{plain_level}
use Rattle.level_model.specs.Level.{child_at}
use Rattle.dock_table.specs.Narrow.{IsNarrow}
use Rattle.dock_table.specs.Rows.{row_at, row_lists}
use Rattle.dock_table.specs.Sides.{AreDocks, AreFour, four_of}
use Rattle.dock_table.proofs.EdgeLemmas.{child_read}
use Rattle.dock_table.proofs.NarrowLemmas.{narrow}
use Rattle.dock_table.proofs.PartLemmas.{docks_pushed, four_taken}
use Rattle.dock_table.proofs.docks.docks_of.Goals as goal

pub docks_of_child-requires-clause-child : goal.docks_of_child-requires-clause-child
docks_of_child-requires-clause-child c =
    let l = plain_level c.args.level.now in
    let n = c.loop-c.c in
    let read = child_read l c.as_slice-child-items.result.now c.loop-c.c c.child-item.result c.as_slice-child-items.ensures.value c.child-item.is c.loop-c-test.true in
    let inside : c.loop-c.c < length l.children = subst (λ (xs : List Child). c.loop-c.c < length xs) c.as_slice-child-items.ensures.value c.loop-c-test.true in
    subst IsNarrow (sym read) (narrow l c.loop-c.c c.requires.level inside)

pub docks_of_child-requires-clause-orders : goal.docks_of_child-requires-clause-orders
docks_of_child-requires-clause-orders c =
    let l = plain_level c.args.level.now in
    let n = c.loop-c.c in
    let read = child_read l c.as_slice-child-items.result.now c.loop-c.c c.child-item.result c.as_slice-child-items.ensures.value c.child-item.is c.loop-c-test.true in
    let inside : c.loop-c.c < length l.children = subst (λ (xs : List Child). c.loop-c.c < length xs) c.as_slice-child-items.ensures.value c.loop-c-test.true in
    let four = four_taken c.args.orders.now c.loop-c.c (length l.children) c.index-orders-c.result c.index-orders-c.is c.requires.rows.order_count inside in
    subst (λ (x : Child). AreFour x c.at.result.now (four_of c.index-orders-c.result)) (sym read)
    (subst (λ xs. AreFour (child_at l c.loop-c.c) xs (four_of c.index-orders-c.result)) (sym c.at.ensures)
    (subst (AreFour (child_at l c.loop-c.c) (row_at (row_lists c.args.rows.now) c.loop-c.c)) (sym four) (c.requires.rows.orders c.loop-c.c inside)))

pub loop-c-preserved : goal.loop-c-preserved
loop-c-preserved c =
    let l = plain_level c.args.level.now in
    let n = c.loop-c.c in
    let read = child_read l c.as_slice-child-items.result.now c.loop-c.c c.child-item.result c.as_slice-child-items.ensures.value c.child-item.is c.loop-c-test.true in
    let inside : c.loop-c.c < length l.children = subst (λ (xs : List Child). c.loop-c.c < length xs) c.as_slice-child-items.ensures.value c.loop-c-test.true in
    let four = four_taken c.args.orders.now c.loop-c.c (length l.children) c.index-orders-c.result c.index-orders-c.is c.requires.rows.order_count inside in
    subst (AreDocks l (row_lists c.args.rows.now) (map four_of c.args.orders.now) (c.loop-c.c + 1))
    (sym (ap (map (λ ds. ds.items)) c.in_ok-push.ensures.items ∙ map-append (λ ds. ds.items) c.loop-c.lists.items (c.in_ok-docks.docks ∷ [])))
    (docks_pushed l (row_lists c.args.rows.now) (map four_of c.args.orders.now) c.loop-c.c (map (λ ds. ds.items) c.loop-c.lists.items) c.child-item.result c.at.result.now (four_of c.index-orders-c.result) c.in_ok-docks.docks.items
    read c.at.ensures four c.in_ok-docks.ensures.docks c.in_ok-docks.ensures.offsets c.loop-c.invariant)
