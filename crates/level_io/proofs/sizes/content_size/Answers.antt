use Rattle.std.proofs.Common.{subst, sym}
use Rattle.level_io.specs.Ranges.{IsLongSize}
use Rattle.level_io.proofs.SizeLemmas.{rotated_long}
use Rattle.level_io.proofs.sizes.content_size.Goals as goal

pub returns-clause-long : goal.returns-clause-long
returns-clause-long c = subst IsLongSize (sym c.rotated_size.ensures) (rotated_long c.args.way c.args.extent c.requires)
