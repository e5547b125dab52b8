use Rattle.std.proofs.Common.{◌≤◌, ◌+◌, ◌^◌, length, sym, subst, arith}
use Rattle.level_model.specs.declared.table.ChildAt.{ChildAt}
use Rattle.level_model.specs.Conditions.{plain_level}
use Rattle.level_model.specs.Level.{edge_at}
use Rattle.dock_table.specs.Entries.{AreLoopEntries}
use Rattle.dock_table.specs.Narrow.{IsNearRect}
use Rattle.dock_table.proofs.ChainLemmas.{edge_read}
use Rattle.dock_table.proofs.EntryLemmas.{body_read, loop_made, loops_pushed, no_edge, number_read}
use Rattle.dock_table.proofs.tables.loop_entries.Goals as goal

pub loop_entry-requires-clause-near : goal.loop_entry-requires-clause-near
loop_entry-requires-clause-near c =
    let l = plain_level c.args.level.now in
    let es = c.as_slice-edges.result.now in
    let body = body_read l c.args.entries.now es c.loop-e.e no_edge c.index-entries-child.result c.requires.entries c.as_slice-edges.ensures.value c.loop-e-test.true c.index-entries-child.is in
    let inside = (edge_read l es c.loop-e.e no_edge c.as_slice-edges.ensures.value c.loop-e-test.true).1 in
    let north = number_read c.args.north.now.places.items c.loop-e.e (length l.edges) c.index-north_place.result.now c.index-north_place.ensures c.requires.north.as_many inside in
    let south = number_read c.args.south.now.places.items c.loop-e.e (length l.edges) c.index-south_place.result.now c.index-south_place.ensures c.requires.south.as_many inside in
    subst (λ (x : ChildAt). IsNearRect x.outline) (sym body.0) (c.requires.entries.near (edge_at l c.loop-e.e).source.child body.1)

pub loop_entry-requires-clause-few : goal.loop_entry-requires-clause-few
loop_entry-requires-clause-few c =
    let l = plain_level c.args.level.now in
    let es = c.as_slice-edges.result.now in
    let body = body_read l c.args.entries.now es c.loop-e.e no_edge c.index-entries-child.result c.requires.entries c.as_slice-edges.ensures.value c.loop-e-test.true c.index-entries-child.is in
    let inside = (edge_read l es c.loop-e.e no_edge c.as_slice-edges.ensures.value c.loop-e-test.true).1 in
    let north = number_read c.args.north.now.places.items c.loop-e.e (length l.edges) c.index-north_place.result.now c.index-north_place.ensures c.requires.north.as_many inside in
    let south = number_read c.args.south.now.places.items c.loop-e.e (length l.edges) c.index-south_place.result.now c.index-south_place.ensures c.requires.south.as_many inside in
    subst (λ (x : ChildAt). x.north ≤ 2 ^ 17) (sym body.0) (c.requires.entries.few (edge_at l c.loop-e.e).source.child body.1)

pub loop_entry-requires-clause-north : goal.loop_entry-requires-clause-north
loop_entry-requires-clause-north c =
    let l = plain_level c.args.level.now in
    let es = c.as_slice-edges.result.now in
    let body = body_read l c.args.entries.now es c.loop-e.e no_edge c.index-entries-child.result c.requires.entries c.as_slice-edges.ensures.value c.loop-e-test.true c.index-entries-child.is in
    let inside = (edge_read l es c.loop-e.e no_edge c.as_slice-edges.ensures.value c.loop-e-test.true).1 in
    let north = number_read c.args.north.now.places.items c.loop-e.e (length l.edges) c.index-north_place.result.now c.index-north_place.ensures c.requires.north.as_many inside in
    let south = number_read c.args.south.now.places.items c.loop-e.e (length l.edges) c.index-south_place.result.now c.index-south_place.ensures c.requires.south.as_many inside in
    let few = c.requires.north.few c.loop-e.e in
    omega (arith, north, few)

pub loop_entry-requires-clause-south : goal.loop_entry-requires-clause-south
loop_entry-requires-clause-south c =
    let l = plain_level c.args.level.now in
    let es = c.as_slice-edges.result.now in
    let body = body_read l c.args.entries.now es c.loop-e.e no_edge c.index-entries-child.result c.requires.entries c.as_slice-edges.ensures.value c.loop-e-test.true c.index-entries-child.is in
    let inside = (edge_read l es c.loop-e.e no_edge c.as_slice-edges.ensures.value c.loop-e-test.true).1 in
    let north = number_read c.args.north.now.places.items c.loop-e.e (length l.edges) c.index-north_place.result.now c.index-north_place.ensures c.requires.north.as_many inside in
    let south = number_read c.args.south.now.places.items c.loop-e.e (length l.edges) c.index-south_place.result.now c.index-south_place.ensures c.requires.south.as_many inside in
    let few = c.requires.south.few c.loop-e.e in
    omega (arith, south, few)

pub loop-e-preserved : goal.loop-e-preserved
loop-e-preserved c =
    let l = plain_level c.args.level.now in
    let es = c.as_slice-edges.result.now in
    let body = body_read l c.args.entries.now es c.loop-e.e no_edge c.index-entries-child.result c.requires.entries c.as_slice-edges.ensures.value c.loop-e-test.true c.index-entries-child.is in
    let inside = (edge_read l es c.loop-e.e no_edge c.as_slice-edges.ensures.value c.loop-e-test.true).1 in
    let north = number_read c.args.north.now.places.items c.loop-e.e (length l.edges) c.index-north_place.result.now c.index-north_place.ensures c.requires.north.as_many inside in
    let south = number_read c.args.south.now.places.items c.loop-e.e (length l.edges) c.index-south_place.result.now c.index-south_place.ensures c.requires.south.as_many inside in
    subst (AreLoopEntries l c.args.entries.now c.args.north.now.places.items c.args.south.now.places.items (c.loop-e.e + 1)) (sym c.in_ok-push.ensures.items)
    (loops_pushed l c.args.entries.now c.args.north.now.places.items c.args.south.now.places.items c.loop-e.e c.loop-e.table.items c.loop_entry.result
    (loop_made l c.args.entries.now c.loop-e.e _ _ c.index-north_place.result.now c.index-south_place.result.now c.index-entries-child.result c.loop_entry.result body.0 north south c.loop_entry.ensures.north c.loop_entry.ensures.south c.loop_entry.ensures.near) c.loop-e.invariant)
