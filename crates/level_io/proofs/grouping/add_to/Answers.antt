use Rattle.level_io.proofs.GroupLemmas.{row_written}
use Rattle.level_io.proofs.grouping.add_to.Goals as goal

pub returns-clause-rows : goal.returns-clause-rows
returns-clause-rows c =
    row_written c.args.rows.now c.args.group c.args.number c.index-rows-group-2.result c.push.new.self c.requires.there c.in_ok-push.ensures.items
