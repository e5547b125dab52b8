use Rattle.std.proofs.Common.{◌+◌, ◌*◌, ◌++◌, ◌∷◌, [], List, map, ap, refl, ◌∙◌}
use Rattle.level_model.specs.declared.level.LevelEdge.{LevelEdge}
use Rattle.level_model.specs.declared.table.EndAt.{EndAt}
use Rattle.level_model.specs.Conditions.{plain_level}
use Rattle.level_model.specs.Level.{edge_at}
use Rattle.dock_table.specs.Lanes.{plain_lanes}
use Rattle.dock_table.specs.Outlines.{dock_in}
use Rattle.dock_table.proofs.ChainLemmas.{edge_read}
use Rattle.dock_table.proofs.EntryLemmas.{end_moved, no_edge, ready_dock, ready_source, ready_target, twice_within, two_ends_pushed}
use Rattle.dock_table.proofs.tables.end_entries.Goals as goal

pub end_entry-source-requires-clause-level : goal.end_entry-source-requires-clause-level
end_entry-source-requires-clause-level c =
    c.requires.1.level

pub end_entry-source-requires-clause-spoke : goal.end_entry-source-requires-clause-spoke
end_entry-source-requires-clause-spoke c =
    let l = plain_level c.args.level.now in
    let ws = map plain_lanes c.args.lanes.now in
    let ready = c.requires.1 in
    let es = c.as_slice-edges.result.now in
    let q = c.as_slice-edges.ensures.value in
    let less = c.loop-e-test.true in
    let twice = twice_within l es c.loop-e.e q less in
    let a = ready_source l c.args.numbers.now c.requires.0 c.args.ends.now ws c.args.entries.now es c.loop-e.e no_edge ready q less in
    a.spoke

pub end_entry-source-requires-clause-entries : goal.end_entry-source-requires-clause-entries
end_entry-source-requires-clause-entries c =
    c.requires.1.entry_count

pub end_entry-source-requires-clause-lanes : goal.end_entry-source-requires-clause-lanes
end_entry-source-requires-clause-lanes c =
    c.requires.1.lane_count

pub end_entry-source-requires-clause-near : goal.end_entry-source-requires-clause-near
end_entry-source-requires-clause-near c =
    let l = plain_level c.args.level.now in
    let ws = map plain_lanes c.args.lanes.now in
    let ready = c.requires.1 in
    let es = c.as_slice-edges.result.now in
    let q = c.as_slice-edges.ensures.value in
    let less = c.loop-e-test.true in
    let twice = twice_within l es c.loop-e.e q less in
    let a = ready_source l c.args.numbers.now c.requires.0 c.args.ends.now ws c.args.entries.now es c.loop-e.e no_edge ready q less in
    a.near

pub end_entry-source-requires-clause-few : goal.end_entry-source-requires-clause-few
end_entry-source-requires-clause-few c =
    let l = plain_level c.args.level.now in
    let ws = map plain_lanes c.args.lanes.now in
    let ready = c.requires.1 in
    let es = c.as_slice-edges.result.now in
    let q = c.as_slice-edges.ensures.value in
    let less = c.loop-e-test.true in
    let twice = twice_within l es c.loop-e.e q less in
    let a = ready_source l c.args.numbers.now c.requires.0 c.args.ends.now ws c.args.entries.now es c.loop-e.e no_edge ready q less in
    a.few

pub end_entry-source-requires-clause-number : goal.end_entry-source-requires-clause-number
end_entry-source-requires-clause-number c =
    let l = plain_level c.args.level.now in
    let ws = map plain_lanes c.args.lanes.now in
    let ready = c.requires.1 in
    let es = c.as_slice-edges.result.now in
    let q = c.as_slice-edges.ensures.value in
    let less = c.loop-e-test.true in
    let twice = twice_within l es c.loop-e.e q less in
    let a = ready_source l c.args.numbers.now c.requires.0 c.args.ends.now ws c.args.entries.now es c.loop-e.e no_edge ready q less in
    (a.count, a.readable, a.inside)

pub end_entry-source-requires-clause-offset : goal.end_entry-source-requires-clause-offset
end_entry-source-requires-clause-offset c =
    let l = plain_level c.args.level.now in
    let ws = map plain_lanes c.args.lanes.now in
    let ready = c.requires.1 in
    let es = c.as_slice-edges.result.now in
    let q = c.as_slice-edges.ensures.value in
    let less = c.loop-e-test.true in
    let twice = twice_within l es c.loop-e.e q less in
    (ready_dock l c.args.numbers.now c.requires.0 c.args.ends.now ws c.args.entries.now (2 * c.loop-e.e) _ ready twice.0).1

pub end_entry-target-requires-clause-level : goal.end_entry-target-requires-clause-level
end_entry-target-requires-clause-level c =
    c.requires.1.level

pub end_entry-target-requires-clause-spoke : goal.end_entry-target-requires-clause-spoke
end_entry-target-requires-clause-spoke c =
    let l = plain_level c.args.level.now in
    let ws = map plain_lanes c.args.lanes.now in
    let ready = c.requires.1 in
    let es = c.as_slice-edges.result.now in
    let q = c.as_slice-edges.ensures.value in
    let less = c.loop-e-test.true in
    let twice = twice_within l es c.loop-e.e q less in
    let b = ready_target l c.args.numbers.now c.requires.0 c.args.ends.now ws c.args.entries.now es c.loop-e.e no_edge ready q less in
    b.spoke

pub end_entry-target-requires-clause-entries : goal.end_entry-target-requires-clause-entries
end_entry-target-requires-clause-entries c =
    c.requires.1.entry_count

pub end_entry-target-requires-clause-lanes : goal.end_entry-target-requires-clause-lanes
end_entry-target-requires-clause-lanes c =
    c.requires.1.lane_count

pub end_entry-target-requires-clause-near : goal.end_entry-target-requires-clause-near
end_entry-target-requires-clause-near c =
    let l = plain_level c.args.level.now in
    let ws = map plain_lanes c.args.lanes.now in
    let ready = c.requires.1 in
    let es = c.as_slice-edges.result.now in
    let q = c.as_slice-edges.ensures.value in
    let less = c.loop-e-test.true in
    let twice = twice_within l es c.loop-e.e q less in
    let b = ready_target l c.args.numbers.now c.requires.0 c.args.ends.now ws c.args.entries.now es c.loop-e.e no_edge ready q less in
    b.near

pub end_entry-target-requires-clause-few : goal.end_entry-target-requires-clause-few
end_entry-target-requires-clause-few c =
    let l = plain_level c.args.level.now in
    let ws = map plain_lanes c.args.lanes.now in
    let ready = c.requires.1 in
    let es = c.as_slice-edges.result.now in
    let q = c.as_slice-edges.ensures.value in
    let less = c.loop-e-test.true in
    let twice = twice_within l es c.loop-e.e q less in
    let b = ready_target l c.args.numbers.now c.requires.0 c.args.ends.now ws c.args.entries.now es c.loop-e.e no_edge ready q less in
    b.few

pub end_entry-target-requires-clause-number : goal.end_entry-target-requires-clause-number
end_entry-target-requires-clause-number c =
    let l = plain_level c.args.level.now in
    let ws = map plain_lanes c.args.lanes.now in
    let ready = c.requires.1 in
    let es = c.as_slice-edges.result.now in
    let q = c.as_slice-edges.ensures.value in
    let less = c.loop-e-test.true in
    let twice = twice_within l es c.loop-e.e q less in
    let b = ready_target l c.args.numbers.now c.requires.0 c.args.ends.now ws c.args.entries.now es c.loop-e.e no_edge ready q less in
    (b.count, b.readable, b.inside)

pub end_entry-target-requires-clause-offset : goal.end_entry-target-requires-clause-offset
end_entry-target-requires-clause-offset c =
    let l = plain_level c.args.level.now in
    let ws = map plain_lanes c.args.lanes.now in
    let ready = c.requires.1 in
    let es = c.as_slice-edges.result.now in
    let q = c.as_slice-edges.ensures.value in
    let less = c.loop-e-test.true in
    let twice = twice_within l es c.loop-e.e q less in
    (ready_dock l c.args.numbers.now c.requires.0 c.args.ends.now ws c.args.entries.now (2 * c.loop-e.e + 1) _ ready twice.1).1

pub loop-e-preserved : goal.loop-e-preserved
loop-e-preserved c =
    let l = plain_level c.args.level.now in
    let ws = map plain_lanes c.args.lanes.now in
    let ready = c.requires.1 in
    let es = c.as_slice-edges.result.now in
    let q = c.as_slice-edges.ensures.value in
    let less = c.loop-e-test.true in
    let twice = twice_within l es c.loop-e.e q less in
    let at = edge_read l es c.loop-e.e no_edge q less in
    let d1 = ready_dock l c.args.numbers.now c.requires.0 c.args.ends.now ws c.args.entries.now (2 * c.loop-e.e) _ ready twice.0 in
    let d2 = ready_dock l c.args.numbers.now c.requires.0 c.args.ends.now ws c.args.entries.now (2 * c.loop-e.e + 1) _ ready twice.1 in
    two_ends_pushed l c.args.numbers.now c.args.ends.now ws c.args.entries.now c.loop-e.e c.end_entry-source.result c.end_entry-target.result c.loop-e.table.items c.push-in-loop-e.new.self.items
    (end_moved l ws c.args.entries.now _ (edge_at l c.loop-e.e).source _ (dock_in c.args.ends.now (2 * c.loop-e.e)) _ _ c.end_entry-source.result (ap (λ (x : LevelEdge). x.source) at.0) d1.0 refl c.end_entry-source.ensures)
    (end_moved l ws c.args.entries.now _ (edge_at l c.loop-e.e).target _ (dock_in c.args.ends.now (2 * c.loop-e.e + 1)) _ _ c.end_entry-target.result (ap (λ (x : LevelEdge). x.target) at.0) d2.0 refl c.end_entry-target.ensures)
    (c.in_ok-push-2.ensures.items ∙ ap (λ (xs : List EndAt). xs ++ c.end_entry-target.result ∷ []) c.in_ok-push.ensures.items) c.loop-e.invariant
