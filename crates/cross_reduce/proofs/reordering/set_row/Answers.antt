use Rattle.std.proofs.lemmas.List.{map-set}
use Rattle.cross_reduce.proofs.reordering.set_row.Goals as goal

pub returns : goal.returns
returns c = map-set (λ v. v.items) c.args.order.now.rows.items c.args.r c.args.row
