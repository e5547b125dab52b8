use Rattle.std.proofs.Common.{◌<◌, length, arith}
use Rattle.std.proofs.lemmas.List.{length-map}
use Rattle.std.proofs.lemmas.Result.{on_ok_weaker}
use Rattle.level_io.specs.Grouping.{rows_in}
use Rattle.level_io.proofs.GroupLemmas.{group_few, grouped_more, grouped_same}
use Rattle.level_io.proofs.grouping.add.Goals as goal

pub add_to-requires-clause-few : goal.add_to-requires-clause-few
add_to-requires-clause-few c =
    let many = length-map c.args.rows.now (λ row. row.items) in
    let there = c.requires.there c.in-Some.group c.in-Some.is in
    let short = group_few c.args.keys.now c.args.number c.in-Some.group (rows_in c.args.rows.now) (omega (arith, many, there)) c.requires.grouped in
    let few = c.requires.few in
    omega (arith, short, few)

pub returns-in-Some-clause-grouped : goal.returns-in-Some-clause-grouped
returns-in-Some-clause-grouped c =
    let many = length-map c.args.rows.now (λ row. row.items) in
    let there = c.requires.there c.in-Some.group c.in-Some.is in
    let inside : c.in-Some.group < length (rows_in c.args.rows.now) = omega (arith, many, there) in
    on_ok_weaker c.add_to.result (λ rows. grouped_more c.args.keys.now c.args.number c.in-Some.group (rows_in c.args.rows.now) (rows_in c.add_to.new.rows) c.in-Some.is inside rows c.requires.grouped) c.add_to.ensures.rows

pub returns-in-None-clause-grouped : goal.returns-in-None-clause-grouped
returns-in-None-clause-grouped c = grouped_same c.args.keys.now c.args.number (rows_in c.args.rows.now) c.in-None.is c.requires.grouped
