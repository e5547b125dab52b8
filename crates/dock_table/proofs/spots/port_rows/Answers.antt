use Rattle.std.proofs.Common.{◌+◌, [], ◌∷◌, Some, length, map, ap, ◌∙◌, sym, subst, arith}
use Rattle.std.proofs.lemmas.List.{map-append}
use Rattle.level_model.specs.Conditions.{plain_level}
use Rattle.std.specs.List.{range_with_len}
use Rattle.port_order.specs.declared.children.Child.{Child}
use Rattle.dock_table.specs.Rows.{ArePortRows, bare}
use Rattle.dock_table.proofs.AddLemmas.{ports_few}
use Rattle.dock_table.proofs.EdgeLemmas.{child_read, port_rows_pushed}
use Rattle.dock_table.proofs.spots.port_rows.Goals as goal

pub port_row-requires : goal.port_row-requires
port_row-requires c =
    let l = plain_level c.args.level.now in
    let read = child_read l c.as_slice-children.result.now c.loop-child.child-index c.child-item.result c.as_slice-children.ensures.value c.child-item.is c.loop-child-test.true in
    let few = ports_few l c.loop-child.child-index c.requires in
    let same = c.len.ensures in
    let long = ap (λ (x : Child). length x.ports) read in
    omega (arith, few, same, long)

pub loop-child-preserved : goal.loop-child-preserved
loop-child-preserved c =
    let l = plain_level c.args.level.now in
    let read = child_read l c.as_slice-children.result.now c.loop-child.child-index c.child-item.result c.as_slice-children.ensures.value c.child-item.is c.loop-child-test.true in
    subst (ArePortRows l (c.loop-child.child-index + 1))
    (sym (ap (map (λ v. v.items)) c.in_ok-push.ensures.items ∙ map-append (λ v. v.items) c.loop-child.lists.items (c.in_ok-row.row ∷ [])))
    (port_rows_pushed l c.loop-child.child-index (map (λ v. v.items) c.loop-child.lists.items) c.in_ok-row.row.items (c.in_ok-row.ensures ∙ ap (λ n. map (λ k. bare (Some k) k) (range_with_len 0 n)) (c.len.ensures ∙ ap (λ (x : Child). length x.ports) read)) c.loop-child.invariant)
