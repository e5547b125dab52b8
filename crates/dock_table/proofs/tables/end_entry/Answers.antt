use Rattle.std.proofs.Common.{[], length, map, sym, subst}
use Rattle.std.proofs.lemmas.List.{get_or_read}
use Rattle.level_model.specs.declared.table.ChildAt.{ChildAt}
use Rattle.level_model.specs.Conditions.{plain_level}
use Rattle.level_model.specs.Level.{child_at}
use Rattle.dock_table.specs.Lanes.{AreReadable, PlainLanes, plain_lanes}
use Rattle.dock_table.specs.Narrow.{IsNarrow, IsNearRect}
use Rattle.dock_table.proofs.EntryLemmas.{end_made, entry_read, plain_read}
use Rattle.dock_table.proofs.NarrowLemmas.{narrow}
use Rattle.dock_table.proofs.tables.end_entry.Goals as goal

pub anchor_at-anchor-requires-clause-child : goal.anchor_at-anchor-requires-clause-child
anchor_at-anchor-requires-clause-child c =
    let l = plain_level c.args.level.now in
    let child = get_or_read l.children c.args.spoke.child c.at.result.now c.requires.spoke.child c.at.ensures (child_at (record { children = []; edges = []; spacing = l.spacing; choices = l.choices }) 0) in
    subst IsNarrow (sym child) (narrow l c.args.spoke.child c.requires.level c.requires.spoke.child)

pub end_lane-lane-requires-clause-near : goal.end_lane-lane-requires-clause-near
end_lane-lane-requires-clause-near c =
    subst (λ (x : ChildAt). IsNearRect x.outline) (sym (entry_read c.args.entries.now c.args.spoke.child (length c.args.level.now.children) c.index-entries-c.result c.index-entries-c.is c.requires.entries c.requires.spoke.child)) c.requires.near

pub end_lane-lane-requires-clause-lanes : goal.end_lane-lane-requires-clause-lanes
end_lane-lane-requires-clause-lanes c =
    let lanes = plain_read c.args.lanes.now c.args.spoke.child (length c.args.level.now.children) c.index-lanes-c.result c.index-lanes-c.is c.requires.lanes c.requires.spoke.child in
    (c.requires.number.0, subst (λ (w : PlainLanes). AreReadable w c.requires.number.0) (sym lanes) c.requires.number.1, c.requires.number.2)

pub returns : goal.returns
returns c =
    let l = plain_level c.args.level.now in
    let child = get_or_read l.children c.args.spoke.child c.at.result.now c.requires.spoke.child c.at.ensures (child_at (record { children = []; edges = []; spacing = l.spacing; choices = l.choices }) 0) in
    end_made l (map plain_lanes c.args.lanes.now) c.args.entries.now c.args.spoke c.args.dock c.args.number c.at.result.now c.index-entries-c.result (plain_lanes c.index-lanes-c.result) c.anchor_at-anchor.result c.end_lane-lane.result
    child
    (entry_read c.args.entries.now c.args.spoke.child (length c.args.level.now.children) c.index-entries-c.result c.index-entries-c.is c.requires.entries c.requires.spoke.child)
    (plain_read c.args.lanes.now c.args.spoke.child (length c.args.level.now.children) c.index-lanes-c.result c.index-lanes-c.is c.requires.lanes c.requires.spoke.child)
    c.requires.offset c.anchor_at-anchor.ensures.value c.anchor_at-anchor.ensures.near c.end_lane-lane.ensures.value c.end_lane-lane.ensures.near
