use Rattle.elk_layers.specs.Layered.{plain, rows_of}
use Rattle.bk_place.proofs.HeightLemmas.{first_of_all}
use Rattle.bk_place.proofs.placing.place_lowest.Goals as goal

pub returns-clause-first : goal.returns-clause-first
returns-clause-first c =
    first_of_all (plain c.args.layered.now) (rows_of c.args.order.now) c.lower-lowest.result.lines.top.items c.lower-lowest.result.height
    (c.lower-lowest.ensures (plain c.args.layered.now) (rows_of c.args.order.now) 0 2 4 c.in_ok-left.ensures c.in_ok-right.ensures)

pub returns-clause-within : goal.returns-clause-within
returns-clause-within c =
    (c.lower-lowest.ensures (plain c.args.layered.now) (rows_of c.args.order.now) 0 2 4 c.in_ok-left.ensures c.in_ok-right.ensures).within
