use Rattle.std.proofs.Common.{sym, subst, ◌^◌, pos}
use Rattle.drawing_types.specs.Ranges.{IsWithin}
use Rattle.dock_table.proofs.TimesLemmas.{times_computed, times_within}
use Rattle.dock_table.proofs.lanes.times.Goals as goal

pub overflow_mul-result : goal.overflow_mul-result
overflow_mul-result c = (times_computed c.args.count c.args.distance c.requires.few c.requires.distance).0

pub returns-clause-value : goal.returns-clause-value
returns-clause-value c = (times_computed c.args.count c.args.distance c.requires.few c.requires.distance).1

pub returns-clause-small : goal.returns-clause-small
returns-clause-small c =
    subst (IsWithin (pos 0) (pos (2 ^ 38))) (sym (times_computed c.args.count c.args.distance c.requires.few c.requires.distance).1) (times_within c.args.count c.args.distance c.requires.few c.requires.distance)
