use Rattle.std.proofs.Common.{◌<◌, ◌+◌, List, length, map, ap, sym, subst, arith, refl}
use Rattle.std.specs.List.{All}
use Rattle.drawing_types.specs.declared.shape.Dock.{Dock}
use Rattle.port_order.specs.declared.children.Child.{Child}
use Rattle.level_model.specs.Conditions.{plain_level}
use Rattle.dock_table.specs.Entries.{AreEntries}
use Rattle.dock_table.specs.Lanes.{plain_lanes}
use Rattle.dock_table.specs.Narrow.{IsNarrow, IsOffset}
use Rattle.dock_table.specs.Sides.{dock_lists}
use Rattle.dock_table.proofs.EdgeLemmas.{child_read}
use Rattle.dock_table.proofs.EntryLemmas.{entries_pushed, plain_read}
use Rattle.dock_table.proofs.NarrowLemmas.{narrow}
use Rattle.dock_table.proofs.tables.child_entries.Goals as goal

pub child_entry-requires-clause-child : goal.child_entry-requires-clause-child
child_entry-requires-clause-child c =
    let l = plain_level c.args.level.now in
    let read = child_read l c.as_slice-children.result.now c.loop-c.c c.index-children-c.result c.as_slice-children.ensures.value c.index-children-c.is c.loop-c-test.true in
    let inside : c.loop-c.c < length l.children = subst (λ (xs : List Child). c.loop-c.c < length xs) c.as_slice-children.ensures.value c.loop-c-test.true in
    subst IsNarrow (sym read) (narrow l c.loop-c.c c.requires.level inside)

pub child_entry-requires-clause-docks : goal.child_entry-requires-clause-docks
child_entry-requires-clause-docks c =
    let l = plain_level c.args.level.now in
    let read = child_read l c.as_slice-children.result.now c.loop-c.c c.index-children-c.result c.as_slice-children.ensures.value c.index-children-c.is c.loop-c-test.true in
    let inside : c.loop-c.c < length l.children = subst (λ (xs : List Child). c.loop-c.c < length xs) c.as_slice-children.ensures.value c.loop-c-test.true in
    let ports = c.requires.docks.ports c.loop-c.c inside in
    let same = ap (λ (x : Child). length x.ports) read in
    let long = ap length c.at-child_docks.ensures in
    omega (arith, ports, same, long)

pub child_entry-requires-clause-offsets : goal.child_entry-requires-clause-offsets
child_entry-requires-clause-offsets c =
    let l = plain_level c.args.level.now in
    let read = child_read l c.as_slice-children.result.now c.loop-c.c c.index-children-c.result c.as_slice-children.ensures.value c.index-children-c.is c.loop-c-test.true in
    let inside : c.loop-c.c < length l.children = subst (λ (xs : List Child). c.loop-c.c < length xs) c.as_slice-children.ensures.value c.loop-c-test.true in
    subst (All (λ (d : Dock). IsOffset d.offset)) (sym c.at-child_docks.ensures) (c.requires.docks.offsets c.loop-c.c inside)

pub loop-c-preserved : goal.loop-c-preserved
loop-c-preserved c =
    let l = plain_level c.args.level.now in
    let read = child_read l c.as_slice-children.result.now c.loop-c.c c.index-children-c.result c.as_slice-children.ensures.value c.index-children-c.is c.loop-c-test.true in
    let inside : c.loop-c.c < length l.children = subst (λ (xs : List Child). c.loop-c.c < length xs) c.as_slice-children.ensures.value c.loop-c-test.true in
    subst (AreEntries l c.args.units.now (dock_lists c.args.docks.now) (map plain_lanes c.args.lanes.now) (c.loop-c.c + 1)) (sym c.in_ok-push.ensures.items)
    (entries_pushed l c.args.units.now (dock_lists c.args.docks.now) (map plain_lanes c.args.lanes.now) c.loop-c.c c.loop-c.entries.items c.index-children-c.result _ c.at-child_docks.result.now (plain_lanes c.index-lanes-c.result) c.in_ok-entry.entry
    read refl c.at-child_docks.ensures (plain_read c.args.lanes.now c.loop-c.c (length l.children) c.index-lanes-c.result c.index-lanes-c.is c.requires.lanes inside) c.in_ok-entry.ensures c.loop-c.invariant)
