use Rattle.std.proofs.Common.{◌<◌, ◌∙◌, length, map, ap, sym, subst}
use Rattle.drawing_types.specs.declared.shape.Side.TheVariants.{North, South}
use Rattle.elk_layers.specs.Layered.{plain}
use Rattle.level_model.specs.Conditions.{plain_level}
use Rattle.dock_table.specs.Lanes.{plain_lanes}
use Rattle.dock_table.specs.Rows.{row_lists}
use Rattle.dock_table.specs.Sides.{dock_lists}
use Rattle.dock_table.proofs.MovedLemmas.{bodies_moved, ends_moved, entries_moved, loop_entries_moved, loops_moved, offsets_at, ready_moved, units_moved}
use Rattle.dock_table.proofs.ReadyLemmas.{have_bodies, have_docks, have_few, have_places, have_ready, have_spots, numbers_in}
use Rattle.dock_table.proofs.TableLemmas.{table_is}
use Rattle.dock_table.proofs.tables.table_from.Goals as goal

pub loop_lanes-requires-clause-ends : goal.loop_lanes-requires-clause-ends
loop_lanes-requires-clause-ends c =
    let l = plain_level c.args.level.now in
    let lists = dock_lists c.args.docks.now in
    let v = c.args.spots.now in
    let p = c.requires.spots.0 in
    let vs = c.requires.docks.0 in
    let spots = c.requires.spots.1 in
    let docks = c.requires.docks.1 in
    let long = (c.in_ok-ends.ensures.docks p vs spots docks).as_long in
    ap length c.as_slice.ensures.value ∙ long

pub loop_lanes-requires-2-clause-ends : goal.loop_lanes-requires-2-clause-ends
loop_lanes-requires-2-clause-ends c =
    let l = plain_level c.args.level.now in
    let lists = dock_lists c.args.docks.now in
    let v = c.args.spots.now in
    let p = c.requires.spots.0 in
    let vs = c.requires.docks.0 in
    let spots = c.requires.spots.1 in
    let docks = c.requires.docks.1 in
    let long = (c.in_ok-ends.ensures.docks p vs spots docks).as_long in
    ap length c.as_slice-2.ensures.value ∙ long

pub lanes_of-requires-clause-docks : goal.lanes_of-requires-clause-docks
lanes_of-requires-clause-docks c =
    let l = plain_level c.args.level.now in
    let lists = dock_lists c.args.docks.now in
    let v = c.args.spots.now in
    let p = c.requires.spots.0 in
    let vs = c.requires.docks.0 in
    let spots = c.requires.spots.1 in
    let docks = c.requires.docks.1 in
    let docks_have = have_docks l p v vs lists spots docks in
    let spots_have = have_spots l p v vs lists spots docks in
    docks_have

pub lanes_of-requires-clause-spots : goal.lanes_of-requires-clause-spots
lanes_of-requires-clause-spots c =
    let l = plain_level c.args.level.now in
    let lists = dock_lists c.args.docks.now in
    let v = c.args.spots.now in
    let p = c.requires.spots.0 in
    let vs = c.requires.docks.0 in
    let spots = c.requires.spots.1 in
    let docks = c.requires.docks.1 in
    let docks_have = have_docks l p v vs lists spots docks in
    let spots_have = have_spots l p v vs lists spots docks in
    spots_have

pub lanes_of-requires-clause-north : goal.lanes_of-requires-clause-north
lanes_of-requires-clause-north c =
    let l = plain_level c.args.level.now in
    let lists = dock_lists c.args.docks.now in
    let v = c.args.spots.now in
    let p = c.requires.spots.0 in
    let vs = c.requires.docks.0 in
    let spots = c.requires.spots.1 in
    let docks = c.requires.docks.1 in
    let north = loops_moved l c.as_slice.result.now c.in_ok-ends.ends.items North (length l.edges) c.in_ok-north.north c.as_slice.ensures.value c.in_ok-north.ensures in
    let south = loops_moved l c.as_slice-2.result.now c.in_ok-ends.ends.items South (length l.edges) c.in_ok-south.south c.as_slice-2.ensures.value c.in_ok-south.ensures in
    let north_few = have_few l c.in_ok-ends.ends.items North c.in_ok-north.north c.requires.level north in
    let south_few = have_few l c.in_ok-ends.ends.items South c.in_ok-south.south c.requires.level south in
    north_few

pub lanes_of-requires-clause-south : goal.lanes_of-requires-clause-south
lanes_of-requires-clause-south c =
    let l = plain_level c.args.level.now in
    let lists = dock_lists c.args.docks.now in
    let v = c.args.spots.now in
    let p = c.requires.spots.0 in
    let vs = c.requires.docks.0 in
    let spots = c.requires.spots.1 in
    let docks = c.requires.docks.1 in
    let north = loops_moved l c.as_slice.result.now c.in_ok-ends.ends.items North (length l.edges) c.in_ok-north.north c.as_slice.ensures.value c.in_ok-north.ensures in
    let south = loops_moved l c.as_slice-2.result.now c.in_ok-ends.ends.items South (length l.edges) c.in_ok-south.south c.as_slice-2.ensures.value c.in_ok-south.ensures in
    let north_few = have_few l c.in_ok-ends.ends.items North c.in_ok-north.north c.requires.level north in
    let south_few = have_few l c.in_ok-ends.ends.items South c.in_ok-south.south c.requires.level south in
    south_few

pub units_of-requires-clause-children : goal.units_of-requires-clause-children
units_of-requires-clause-children c =
    let same = c.len.ensures in
    λ u k h is. subst (λ n. k < n) (sym same) (c.requires.children u k h is)

pub child_entries-requires-clause-units : goal.child_entries-requires-clause-units
child_entries-requires-clause-units c =
    ap length c.as_slice-3.ensures.value ∙ c.in_ok-units.ensures.as_long ∙ c.len.ensures

pub child_entries-requires-clause-docks : goal.child_entries-requires-clause-docks
child_entries-requires-clause-docks c =
    let l = plain_level c.args.level.now in
    let lists = dock_lists c.args.docks.now in
    let v = c.args.spots.now in
    let p = c.requires.spots.0 in
    let vs = c.requires.docks.0 in
    let spots = c.requires.spots.1 in
    let docks = c.requires.docks.1 in
    let docks_have = have_docks l p v vs lists spots docks in
    let spots_have = have_spots l p v vs lists spots docks in
    docks_have

pub child_entries-requires-clause-lanes : goal.child_entries-requires-clause-lanes
child_entries-requires-clause-lanes c =
    ap (λ ls. length (map plain_lanes ls)) c.as_slice-4.ensures.value ∙ c.in_ok-lanes.ensures.as_many

pub end_entries-requires : goal.end_entries-requires
end_entries-requires c =
    let l = plain_level c.args.level.now in
    let lists = dock_lists c.args.docks.now in
    let v = c.args.spots.now in
    let p = c.requires.spots.0 in
    let vs = c.requires.docks.0 in
    let spots = c.requires.spots.1 in
    let docks = c.requires.docks.1 in
    let docks_have = have_docks l p v vs lists spots docks in
    let spots_have = have_spots l p v vs lists spots docks in
    let north = loops_moved l c.as_slice.result.now c.in_ok-ends.ends.items North (length l.edges) c.in_ok-north.north c.as_slice.ensures.value c.in_ok-north.ensures in
    let south = loops_moved l c.as_slice-2.result.now c.in_ok-ends.ends.items South (length l.edges) c.in_ok-south.south c.as_slice-2.ensures.value c.in_ok-south.ensures in
    let north_few = have_few l c.in_ok-ends.ends.items North c.in_ok-north.north c.requires.level north in
    let south_few = have_few l c.in_ok-ends.ends.items South c.in_ok-south.south c.requires.level south in
    let entries = entries_moved l c.as_slice-3.result.now c.in_ok-units.units.items lists c.as_slice-4.result.now c.in_ok-lanes.lanes.items (length l.children) c.in_ok-children.children.items c.as_slice-3.ensures.value c.as_slice-4.ensures.value c.in_ok-children.ensures in
    let bodies = have_bodies l (row_lists v.rows) lists c.in_ok-north.north.counts.items c.in_ok-south.south.counts.items (map plain_lanes c.in_ok-lanes.lanes.items) c.in_ok-units.units.items c.in_ok-children.children.items c.requires.level c.in_ok-lanes.ensures spots_have north_few entries in
    let long = (c.in_ok-ends.ensures.docks p vs spots docks).as_long in
    let ready = have_ready l p v vs (row_lists v.rows) lists c.in_ok-ends.ends.items c.in_ok-north.north.counts.items c.in_ok-south.south.counts.items (map plain_lanes c.in_ok-lanes.lanes.items) c.in_ok-units.units.items c.in_ok-children.children.items spots docks long (offsets_at c.in_ok-ends.ends.items c.in_ok-ends.ensures.offsets) c.in_ok-lanes.ensures bodies in
    (lists, ready_moved l c.as_slice-8.result.now v.numbers.items lists c.as_slice-7.result.now c.in_ok-ends.ends.items c.as_slice-6.result.now c.in_ok-lanes.lanes.items c.as_slice-5.result.now c.in_ok-children.children.items c.as_slice-8.ensures.value c.as_slice-7.ensures.value c.as_slice-6.ensures.value c.as_slice-5.ensures.value ready)

pub loop_entries-requires-clause-entries : goal.loop_entries-requires-clause-entries
loop_entries-requires-clause-entries c =
    let l = plain_level c.args.level.now in
    let lists = dock_lists c.args.docks.now in
    let v = c.args.spots.now in
    let p = c.requires.spots.0 in
    let vs = c.requires.docks.0 in
    let spots = c.requires.spots.1 in
    let docks = c.requires.docks.1 in
    let docks_have = have_docks l p v vs lists spots docks in
    let spots_have = have_spots l p v vs lists spots docks in
    let north = loops_moved l c.as_slice.result.now c.in_ok-ends.ends.items North (length l.edges) c.in_ok-north.north c.as_slice.ensures.value c.in_ok-north.ensures in
    let south = loops_moved l c.as_slice-2.result.now c.in_ok-ends.ends.items South (length l.edges) c.in_ok-south.south c.as_slice-2.ensures.value c.in_ok-south.ensures in
    let north_few = have_few l c.in_ok-ends.ends.items North c.in_ok-north.north c.requires.level north in
    let south_few = have_few l c.in_ok-ends.ends.items South c.in_ok-south.south c.requires.level south in
    let entries = entries_moved l c.as_slice-3.result.now c.in_ok-units.units.items lists c.as_slice-4.result.now c.in_ok-lanes.lanes.items (length l.children) c.in_ok-children.children.items c.as_slice-3.ensures.value c.as_slice-4.ensures.value c.in_ok-children.ensures in
    let bodies = have_bodies l (row_lists v.rows) lists c.in_ok-north.north.counts.items c.in_ok-south.south.counts.items (map plain_lanes c.in_ok-lanes.lanes.items) c.in_ok-units.units.items c.in_ok-children.children.items c.requires.level c.in_ok-lanes.ensures spots_have north_few entries in
    bodies_moved l c.as_slice-9.result.now c.in_ok-children.children.items c.as_slice-9.ensures.value bodies

pub loop_entries-requires-clause-north : goal.loop_entries-requires-clause-north
loop_entries-requires-clause-north c =
    let l = plain_level c.args.level.now in
    let lists = dock_lists c.args.docks.now in
    let v = c.args.spots.now in
    let p = c.requires.spots.0 in
    let vs = c.requires.docks.0 in
    let spots = c.requires.spots.1 in
    let docks = c.requires.docks.1 in
    let north = loops_moved l c.as_slice.result.now c.in_ok-ends.ends.items North (length l.edges) c.in_ok-north.north c.as_slice.ensures.value c.in_ok-north.ensures in
    let south = loops_moved l c.as_slice-2.result.now c.in_ok-ends.ends.items South (length l.edges) c.in_ok-south.south c.as_slice-2.ensures.value c.in_ok-south.ensures in
    let north_few = have_few l c.in_ok-ends.ends.items North c.in_ok-north.north c.requires.level north in
    let south_few = have_few l c.in_ok-ends.ends.items South c.in_ok-south.south c.requires.level south in
    have_places l c.in_ok-ends.ends.items North c.in_ok-north.north north

pub loop_entries-requires-clause-south : goal.loop_entries-requires-clause-south
loop_entries-requires-clause-south c =
    let l = plain_level c.args.level.now in
    let lists = dock_lists c.args.docks.now in
    let v = c.args.spots.now in
    let p = c.requires.spots.0 in
    let vs = c.requires.docks.0 in
    let spots = c.requires.spots.1 in
    let docks = c.requires.docks.1 in
    let north = loops_moved l c.as_slice.result.now c.in_ok-ends.ends.items North (length l.edges) c.in_ok-north.north c.as_slice.ensures.value c.in_ok-north.ensures in
    let south = loops_moved l c.as_slice-2.result.now c.in_ok-ends.ends.items South (length l.edges) c.in_ok-south.south c.as_slice-2.ensures.value c.in_ok-south.ensures in
    let north_few = have_few l c.in_ok-ends.ends.items North c.in_ok-north.north c.requires.level north in
    let south_few = have_few l c.in_ok-ends.ends.items South c.in_ok-south.south c.requires.level south in
    have_places l c.in_ok-ends.ends.items South c.in_ok-south.south south

pub returns-clause-table : goal.returns-clause-table
returns-clause-table c p vs plan =
    let l = plain_level c.args.level.now in
    let lists = dock_lists c.args.docks.now in
    let v = c.args.spots.now in
    let north = loops_moved l c.as_slice.result.now c.in_ok-ends.ends.items North (length l.edges) c.in_ok-north.north c.as_slice.ensures.value c.in_ok-north.ensures in
    let south = loops_moved l c.as_slice-2.result.now c.in_ok-ends.ends.items South (length l.edges) c.in_ok-south.south c.as_slice-2.ensures.value c.in_ok-south.ensures in
    let north_few = have_few l c.in_ok-ends.ends.items North c.in_ok-north.north c.requires.level north in
    let south_few = have_few l c.in_ok-ends.ends.items South c.in_ok-south.south c.requires.level south in
    let entries = entries_moved l c.as_slice-3.result.now c.in_ok-units.units.items lists c.as_slice-4.result.now c.in_ok-lanes.lanes.items (length l.children) c.in_ok-children.children.items c.as_slice-3.ensures.value c.as_slice-4.ensures.value c.in_ok-children.ensures in
    let end_entries = ends_moved l c.as_slice-8.result.now v.numbers.items c.as_slice-7.result.now c.in_ok-ends.ends.items c.as_slice-6.result.now c.in_ok-lanes.lanes.items c.as_slice-5.result.now c.in_ok-children.children.items (length l.edges) c.in_ok-end_table.end_table.items c.from_vec-2.result c.as_slice-8.ensures.value c.as_slice-7.ensures.value c.as_slice-6.ensures.value c.as_slice-5.ensures.value (sym c.from_vec-2.ensures) c.in_ok-end_table.ensures in
    let loop_entries = loop_entries_moved l c.as_slice-9.result.now c.in_ok-children.children.items c.in_ok-north.north.places.items c.in_ok-south.south.places.items (length l.edges) c.in_ok-loops.loops.items c.from_vec-3.result c.as_slice-9.ensures.value (sym c.from_vec-3.ensures) c.in_ok-loops.ensures in
    table_is l p vs v lists c.in_ok-ends.ends.items c.in_ok-north.north c.in_ok-south.south (map plain_lanes c.in_ok-lanes.lanes.items) c.in_ok-units.units.items c.in_ok-children.children.items
    (record {
      level = c.requires.level;
      spots_are = plan.spots_are;
      four = plan.orders_are;
      docks_are = plan.docks_are;
      ends_are = c.in_ok-ends.ensures.docks p vs plan.spots_are plan.docks_are;
      north = north;
      south = south;
      lanes_are = c.in_ok-lanes.ensures;
      units = units_moved p (plain c.args.layered.now) c.len.result (length l.children) c.in_ok-units.units.items plan.layered_is c.len.ensures c.in_ok-units.ensures;
      entries_are = entries;
    }) (record { children = c.from_vec.result; ends = c.from_vec-2.result; loops = c.from_vec-3.result }) c.from_vec.ensures end_entries loop_entries

pub returns-clause-numbers : goal.returns-clause-numbers
returns-clause-numbers c =
    let l = plain_level c.args.level.now in
    let lists = dock_lists c.args.docks.now in
    let v = c.args.spots.now in
    let entries = entries_moved l c.as_slice-3.result.now c.in_ok-units.units.items lists c.as_slice-4.result.now c.in_ok-lanes.lanes.items (length l.children) c.in_ok-children.children.items c.as_slice-3.ensures.value c.as_slice-4.ensures.value c.in_ok-children.ensures in
    let end_entries = ends_moved l c.as_slice-8.result.now v.numbers.items c.as_slice-7.result.now c.in_ok-ends.ends.items c.as_slice-6.result.now c.in_ok-lanes.lanes.items c.as_slice-5.result.now c.in_ok-children.children.items (length l.edges) c.in_ok-end_table.end_table.items c.from_vec-2.result c.as_slice-8.ensures.value c.as_slice-7.ensures.value c.as_slice-6.ensures.value c.as_slice-5.ensures.value (sym c.from_vec-2.ensures) c.in_ok-end_table.ensures in
    let loop_entries = loop_entries_moved l c.as_slice-9.result.now c.in_ok-children.children.items c.in_ok-north.north.places.items c.in_ok-south.south.places.items (length l.edges) c.in_ok-loops.loops.items c.from_vec-3.result c.as_slice-9.ensures.value (sym c.from_vec-3.ensures) c.in_ok-loops.ensures in
    numbers_in l v.numbers.items lists c.in_ok-ends.ends.items (map plain_lanes c.in_ok-lanes.lanes.items) c.in_ok-units.units.items c.in_ok-children.children.items c.in_ok-north.north.places.items c.in_ok-south.south.places.items (record { children = c.from_vec.result; ends = c.from_vec-2.result; loops = c.from_vec-3.result }) c.from_vec.ensures entries end_entries loop_entries
