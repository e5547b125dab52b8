use Rattle.std.proofs.Common.{ap, arith, get_or, length}
use Rattle.level_parts.proofs.GroupLemmas.{row_read, row_written}
use Rattle.level_parts.proofs.grouping.add.Goals as goal

pub returns-clause-place : goal.returns-clause-place
returns-clause-place c =
    let row = get_or c.args.rows.now c.args.key c.index-rows-key.result in
    let many = c.len-place.ensures in
    let long = row.ok.0 in
    let read = ap length (row_read c.args.rows.now c.args.key c.index-rows-key.result c.requires.there) in
    omega (arith, many, long, read)

pub returns-clause-rows : goal.returns-clause-rows
returns-clause-rows c = row_written c.args.rows.now c.args.key c.args.number _ c.push.new.self c.requires.there c.in_ok-push.ensures.items
