use Rattle.std.proofs.Common.{◌+◌, [], ◌∷◌, map, ap, sym, subst, ◌∙◌}
use Rattle.std.proofs.lemmas.List.{map-append}
use Rattle.level_model.specs.Conditions.{plain_level}
use Rattle.dock_table.specs.Rows.{row_lists}
use Rattle.dock_table.specs.Sides.{AreOrdersTo, four_of}
use Rattle.dock_table.proofs.EdgeLemmas.{child_read}
use Rattle.dock_table.proofs.PartLemmas.{orders_pushed}
use Rattle.dock_table.proofs.orders.orders_of.Goals as goal

pub loop-c-preserved : goal.loop-c-preserved
loop-c-preserved c =
    let l = plain_level c.args.level.now in
    let read = child_read l c.as_slice-child-items.result.now c.loop-c.c c.child-item.result c.as_slice-child-items.ensures.value c.child-item.is c.loop-c-test.true in
    subst (AreOrdersTo l (row_lists c.args.rows.now) (c.loop-c.c + 1))
    (sym (ap (map four_of) c.in_ok-push.ensures.items ∙ map-append four_of c.loop-c.all.items (c.in_ok-orders.orders ∷ [])))
    (orders_pushed l (row_lists c.args.rows.now) c.loop-c.c (map four_of c.loop-c.all.items) c.child-item.result c.at.result.now (four_of c.in_ok-orders.orders) read c.at.ensures c.in_ok-orders.ensures c.loop-c.invariant)
