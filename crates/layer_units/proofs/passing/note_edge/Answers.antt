use Rattle.std.proofs.Common.{◌∙◌, refl, sym}
use Rattle.level_model.specs.Conditions.{plain_level}
use Rattle.layer_units.specs.Reading.{mark_at}
use Rattle.layer_units.specs.Passing.{spot_lists}
use Rattle.layer_units.proofs.SeenLemmas.{edge_noted, edge_read, loop_noted, source_there, target_there}
use Rattle.layer_units.proofs.passing.note_edge.Goals as goal

pub note_end-requires-clause-child : goal.note_end-requires-clause-child
note_end-requires-clause-child c =
    let l = plain_level c.args.level.now in
    let is = edge_read l c.args.edge c.at-found.result.now c.requires.level c.requires.edge c.at-found.ensures in
    (source_there l c.args.marks.now c.args.edge c.at-found.result.now (spot_lists c.args.spots.now) is c.requires.so_far).0

pub note_end-requires-clause-port : goal.note_end-requires-clause-port
note_end-requires-clause-port c =
    let l = plain_level c.args.level.now in
    let is = edge_read l c.args.edge c.at-found.result.now c.requires.level c.requires.edge c.at-found.ensures in
    (source_there l c.args.marks.now c.args.edge c.at-found.result.now (spot_lists c.args.spots.now) is c.requires.so_far).1

pub note_end-requires-2-clause-child : goal.note_end-requires-2-clause-child
note_end-requires-2-clause-child c =
    let l = plain_level c.args.level.now in
    let is = edge_read l c.args.edge c.at-found.result.now c.requires.level c.requires.edge c.at-found.ensures in
    (target_there l c.args.marks.now c.args.edge c.at-found.result.now (spot_lists c.args.spots.now) is c.requires.so_far (mark_at c.args.marks.now c.args.edge) (spot_lists c.note_end.new.spots) c.note_end.ensures).0

pub note_end-requires-2-clause-port : goal.note_end-requires-2-clause-port
note_end-requires-2-clause-port c =
    let l = plain_level c.args.level.now in
    let is = edge_read l c.args.edge c.at-found.result.now c.requires.level c.requires.edge c.at-found.ensures in
    (target_there l c.args.marks.now c.args.edge c.at-found.result.now (spot_lists c.args.spots.now) is c.requires.so_far (mark_at c.args.marks.now c.args.edge) (spot_lists c.note_end.new.spots) c.note_end.ensures).1

pub returns-then-looped : goal.returns-then-looped
returns-then-looped c =
    let l = plain_level c.args.level.now in
    let is = edge_read l c.args.edge c.at-found.result.now c.requires.level c.requires.edge c.at-found.ensures in
    loop_noted l c.args.marks.now c.args.edge c.at-found.result.now (spot_lists c.args.spots.now) is (sym c.is_loop-looped.ensures ∙ c.if-looped.true) c.requires.so_far

pub returns : goal.returns
returns c =
    let l = plain_level c.args.level.now in
    let is = edge_read l c.args.edge c.at-found.result.now c.requires.level c.requires.edge c.at-found.ensures in
    edge_noted l c.args.marks.now c.args.edge c.at-found.result.now (spot_lists c.args.spots.now) is c.requires.so_far (mark_at c.args.marks.now c.args.edge) (spot_lists c.note_end.new.spots) c.note_end.ensures
    (spot_lists c.note_end-2.new.spots) refl (sym c.is_loop-looped.ensures ∙ c.if-looped.false) c.note_end-2.ensures
