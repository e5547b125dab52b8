use Rattle.std.proofs.Common.{rules}
use Rattle.elk_write.specs.Reading.{point_in}
use Rattle.elk_write.proofs.reading.points_in.Goals as goal

pub returns : goal.returns
returns c = c.read_each.ensures point_in (λ v r h. search rules)
