use Rattle.std.proofs.Common.{rules}
use Rattle.elk_write.specs.Reading.{small_in}
use Rattle.elk_write.proofs.levels.small_numbers.Goals as goal

pub returns : goal.returns
returns c = c.read_each.ensures small_in (λ v r h. search rules)
