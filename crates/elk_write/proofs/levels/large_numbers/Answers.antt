use Rattle.std.proofs.Common.{rules}
use Rattle.elk_write.specs.Reading.{large_in}
use Rattle.elk_write.proofs.levels.large_numbers.Goals as goal

pub returns : goal.returns
returns c = c.read_each.ensures large_in (λ v r h. search rules)
