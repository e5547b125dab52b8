use Rattle.std.proofs.Common.{◌∷◌, ◌++◌, [], List, ℕ, true, false, ap, ◌∙◌}
use Rattle.level_model.specs.Conditions.{plain_level}
use Rattle.dock_table.specs.Courses.{course_at}
use Rattle.dock_table.specs.Rows.{row_lists}
use Rattle.dock_table.proofs.EdgeLemmas.{added, edge_added, rows_told, source_place, target_place, told_read}
use Rattle.dock_table.proofs.spots.add_edge.Goals as goal

pub add_end-requires-clause-child : goal.add_end-requires-clause-child
add_end-requires-clause-child c =
    let l = plain_level c.args.level.now in
    let fs = c.args.courses.now in
    let is = added l fs c.args.edge c.at-found.result.now c.requires.level c.requires.courses c.requires.edge c.at-found.ensures in
    (source_place l fs c.args.edge c.at-found.result.now (course_at fs c.args.edge) c.args.spots.now is c.requires.so_far).0

pub add_end-requires-clause-place : goal.add_end-requires-clause-place
add_end-requires-clause-place c =
    let l = plain_level c.args.level.now in
    let fs = c.args.courses.now in
    let is = added l fs c.args.edge c.at-found.result.now c.requires.level c.requires.courses c.requires.edge c.at-found.ensures in
    (source_place l fs c.args.edge c.at-found.result.now (course_at fs c.args.edge) c.args.spots.now is c.requires.so_far).1

pub add_end-requires-2-clause-child : goal.add_end-requires-2-clause-child
add_end-requires-2-clause-child c =
    let l = plain_level c.args.level.now in
    let fs = c.args.courses.now in
    let is = added l fs c.args.edge c.at-found.result.now c.requires.level c.requires.courses c.requires.edge c.at-found.ensures in
    let told = told_read l fs c.args.edge c.at-found.result.now _ true c.told_by.result is c.told_by.ensures in
    let mid = rows_told (row_lists c.args.spots.now.rows) (row_lists c.add_end.new.rows) c.at-found.result.now.source c.told_by.result _ told c.in_ok-source.ensures.rows in
    (target_place l fs c.args.edge c.at-found.result.now (course_at fs c.args.edge) c.args.spots.now (row_lists c.add_end.new.rows) is c.requires.so_far mid).0

pub add_end-requires-2-clause-place : goal.add_end-requires-2-clause-place
add_end-requires-2-clause-place c =
    let l = plain_level c.args.level.now in
    let fs = c.args.courses.now in
    let is = added l fs c.args.edge c.at-found.result.now c.requires.level c.requires.courses c.requires.edge c.at-found.ensures in
    let told = told_read l fs c.args.edge c.at-found.result.now _ true c.told_by.result is c.told_by.ensures in
    let mid = rows_told (row_lists c.args.spots.now.rows) (row_lists c.add_end.new.rows) c.at-found.result.now.source c.told_by.result _ told c.in_ok-source.ensures.rows in
    (target_place l fs c.args.edge c.at-found.result.now (course_at fs c.args.edge) c.args.spots.now (row_lists c.add_end.new.rows) is c.requires.so_far mid).1

pub returns : goal.returns
returns c =
    let l = plain_level c.args.level.now in
    let fs = c.args.courses.now in
    let is = added l fs c.args.edge c.at-found.result.now c.requires.level c.requires.courses c.requires.edge c.at-found.ensures in
    let told = told_read l fs c.args.edge c.at-found.result.now _ true c.told_by.result is c.told_by.ensures in
    let mid = rows_told (row_lists c.args.spots.now.rows) (row_lists c.add_end.new.rows) c.at-found.result.now.source c.told_by.result _ told c.in_ok-source.ensures.rows in
    let told_2 = told_read l fs c.args.edge c.at-found.result.now _ false c.told_by-2.result is c.told_by-2.ensures in
    let last = rows_told (row_lists c.add_end.new.rows) (row_lists c.add_end-2.new.rows) c.at-found.result.now.target c.told_by-2.result _ told_2 c.in_ok-target.ensures.rows in
    edge_added l fs c.args.edge c.at-found.result.now (course_at fs c.args.edge) c.args.spots.now (record { rows = c.add_end-2.new.rows; numbers = c.push-2.new.self }) (row_lists c.add_end.new.rows) c.in_ok-source.source c.in_ok-target.target
    is c.requires.so_far mid last c.in_ok-source.ensures.number c.in_ok-target.ensures.number
    (c.in_ok-push-2.ensures.items ∙ ap (λ (xs : List ℕ). xs ++ c.in_ok-target.target ∷ []) c.in_ok-push.ensures.items)
