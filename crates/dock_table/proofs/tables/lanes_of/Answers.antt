use Rattle.std.proofs.Common.{◌<◌, ◌+◌, List, [], ◌∷◌, length, map, ap, sym, subst, arith, ◌∙◌}
use Rattle.std.proofs.lemmas.List.{map-append}
use Rattle.std.specs.List.{All}
use Rattle.drawing_types.specs.declared.shape.Dock.{Dock}
use Rattle.port_order.specs.declared.children.Child.{Child}
use Rattle.level_model.specs.Conditions.{plain_level}
use Rattle.dock_table.specs.Entries.{AreLanesOf}
use Rattle.dock_table.specs.Lanes.{plain_lanes}
use Rattle.dock_table.specs.Narrow.{IsOffset}
use Rattle.dock_table.specs.Rows.{row_lists}
use Rattle.dock_table.specs.Sides.{dock_lists}
use Rattle.dock_table.proofs.EdgeLemmas.{child_read}
use Rattle.dock_table.proofs.EntryLemmas.{lanes_pushed, number_read}
use Rattle.dock_table.proofs.tables.lanes_of.Goals as goal

pub lanes_of_child-requires-clause-few : goal.lanes_of_child-requires-clause-few
lanes_of_child-requires-clause-few c =
    let l = plain_level c.args.level.now in
    let read = child_read l c.as_slice-children.result.now c.loop-c.c c.index-children-c.result c.as_slice-children.ensures.value c.index-children-c.is c.loop-c-test.true in
    let inside : c.loop-c.c < length l.children = subst (λ (xs : List Child). c.loop-c.c < length xs) c.as_slice-children.ensures.value c.loop-c-test.true in
    let n = number_read c.args.north.now.counts.items c.loop-c.c (length l.children) c.index-north_loops.result.now c.index-north_loops.ensures c.requires.north.as_many inside in
    let s = number_read c.args.south.now.counts.items c.loop-c.c (length l.children) c.index-south_loops.result.now c.index-south_loops.ensures c.requires.south.as_many inside in
    let long = ap length c.at-child_docks.ensures in
    let few = c.requires.spots.few c.loop-c.c inside in
    omega (arith, long, few)

pub lanes_of_child-requires-clause-spots : goal.lanes_of_child-requires-clause-spots
lanes_of_child-requires-clause-spots c =
    let l = plain_level c.args.level.now in
    let read = child_read l c.as_slice-children.result.now c.loop-c.c c.index-children-c.result c.as_slice-children.ensures.value c.index-children-c.is c.loop-c-test.true in
    let inside : c.loop-c.c < length l.children = subst (λ (xs : List Child). c.loop-c.c < length xs) c.as_slice-children.ensures.value c.loop-c-test.true in
    let n = number_read c.args.north.now.counts.items c.loop-c.c (length l.children) c.index-north_loops.result.now c.index-north_loops.ensures c.requires.north.as_many inside in
    let s = number_read c.args.south.now.counts.items c.loop-c.c (length l.children) c.index-south_loops.result.now c.index-south_loops.ensures c.requires.south.as_many inside in
    ap length c.at-child_spots.ensures ∙ c.requires.spots.same c.loop-c.c inside ∙ sym (ap length c.at-child_docks.ensures)

pub lanes_of_child-requires-clause-offsets : goal.lanes_of_child-requires-clause-offsets
lanes_of_child-requires-clause-offsets c =
    let l = plain_level c.args.level.now in
    let read = child_read l c.as_slice-children.result.now c.loop-c.c c.index-children-c.result c.as_slice-children.ensures.value c.index-children-c.is c.loop-c-test.true in
    let inside : c.loop-c.c < length l.children = subst (λ (xs : List Child). c.loop-c.c < length xs) c.as_slice-children.ensures.value c.loop-c-test.true in
    let n = number_read c.args.north.now.counts.items c.loop-c.c (length l.children) c.index-north_loops.result.now c.index-north_loops.ensures c.requires.north.as_many inside in
    let s = number_read c.args.south.now.counts.items c.loop-c.c (length l.children) c.index-south_loops.result.now c.index-south_loops.ensures c.requires.south.as_many inside in
    subst (All (λ (d : Dock). IsOffset d.offset)) (sym c.at-child_docks.ensures) (c.requires.docks.offsets c.loop-c.c inside)

pub lanes_of_child-requires-clause-few_north : goal.lanes_of_child-requires-clause-few_north
lanes_of_child-requires-clause-few_north c =
    let l = plain_level c.args.level.now in
    let read = child_read l c.as_slice-children.result.now c.loop-c.c c.index-children-c.result c.as_slice-children.ensures.value c.index-children-c.is c.loop-c-test.true in
    let inside : c.loop-c.c < length l.children = subst (λ (xs : List Child). c.loop-c.c < length xs) c.as_slice-children.ensures.value c.loop-c-test.true in
    let n = number_read c.args.north.now.counts.items c.loop-c.c (length l.children) c.index-north_loops.result.now c.index-north_loops.ensures c.requires.north.as_many inside in
    let s = number_read c.args.south.now.counts.items c.loop-c.c (length l.children) c.index-south_loops.result.now c.index-south_loops.ensures c.requires.south.as_many inside in
    let few = c.requires.north.few c.loop-c.c inside in
    omega (arith, n, few)

pub lanes_of_child-requires-clause-few_south : goal.lanes_of_child-requires-clause-few_south
lanes_of_child-requires-clause-few_south c =
    let l = plain_level c.args.level.now in
    let read = child_read l c.as_slice-children.result.now c.loop-c.c c.index-children-c.result c.as_slice-children.ensures.value c.index-children-c.is c.loop-c-test.true in
    let inside : c.loop-c.c < length l.children = subst (λ (xs : List Child). c.loop-c.c < length xs) c.as_slice-children.ensures.value c.loop-c-test.true in
    let n = number_read c.args.north.now.counts.items c.loop-c.c (length l.children) c.index-north_loops.result.now c.index-north_loops.ensures c.requires.north.as_many inside in
    let s = number_read c.args.south.now.counts.items c.loop-c.c (length l.children) c.index-south_loops.result.now c.index-south_loops.ensures c.requires.south.as_many inside in
    let few = c.requires.south.few c.loop-c.c inside in
    omega (arith, s, few)

pub loop-c-preserved : goal.loop-c-preserved
loop-c-preserved c =
    let l = plain_level c.args.level.now in
    let read = child_read l c.as_slice-children.result.now c.loop-c.c c.index-children-c.result c.as_slice-children.ensures.value c.index-children-c.is c.loop-c-test.true in
    let inside : c.loop-c.c < length l.children = subst (λ (xs : List Child). c.loop-c.c < length xs) c.as_slice-children.ensures.value c.loop-c-test.true in
    let n = number_read c.args.north.now.counts.items c.loop-c.c (length l.children) c.index-north_loops.result.now c.index-north_loops.ensures c.requires.north.as_many inside in
    let s = number_read c.args.south.now.counts.items c.loop-c.c (length l.children) c.index-south_loops.result.now c.index-south_loops.ensures c.requires.south.as_many inside in
    subst (AreLanesOf l (row_lists c.args.spots.now.rows) (dock_lists c.args.docks.now) c.args.north.now.counts.items c.args.south.now.counts.items (c.loop-c.c + 1))
    (sym (ap (map plain_lanes) c.in_ok-push.ensures.items ∙ map-append plain_lanes c.loop-c.all.items (c.in_ok-lanes.lanes ∷ [])))
    (lanes_pushed l (row_lists c.args.spots.now.rows) (dock_lists c.args.docks.now) c.args.north.now.counts.items c.args.south.now.counts.items c.loop-c.c (map plain_lanes c.loop-c.all.items) c.index-children-c.result c.at-child_docks.result.now c.at-child_spots.result.now c.index-north_loops.result.now c.index-south_loops.result.now (plain_lanes c.in_ok-lanes.lanes)
    read c.at-child_docks.ensures c.at-child_spots.ensures n s c.in_ok-lanes.ensures c.loop-c.invariant)
