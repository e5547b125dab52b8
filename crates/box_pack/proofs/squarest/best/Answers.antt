use Rattle.std.proofs.Common.{rules, w64, FitsSigned}
use Rattle.std.proofs.lemmas.Int.{to_z-of_z}
use Rattle.box_pack.specs.Packed.{AreRows}
use Rattle.box_pack.specs.Walk.{IsLeastLimit}
use Rattle.box_pack.proofs.Filling.{each_size}
use Rattle.box_pack.proofs.Limiting.{AreBoxes, least_long}
use Rattle.box_pack.proofs.squarest.best.Goals as goal

pub returns : goal.returns
returns c =
    let sizes = c.args.sizes.now in
    let gap = c.args.gap in
    let limit = c.least_limit-limit.result in
    let rows = c.in_ok-rows.rows in
    let fits : FitsSigned w64 limit = search rules in
    let boxes : AreBoxes sizes gap = record { count = c.requires.count; each = each_size sizes c.requires.sizes; gap_low = c.requires.gap.0; gap_high = c.requires.gap.1 } in
    let is : AreRows sizes gap limit rows = simp (to_z-of_z w64 gap c.ranges.gap, to_z-of_z w64 limit fits) at c.in_ok-rows.ensures in
    let least : IsLeastLimit sizes gap limit = simp (to_z-of_z w64 gap c.ranges.gap) at c.least_limit-limit.ensures in
    rw (to_z-of_z w64 limit fits) (record { rows = is; long = least_long sizes gap limit rows boxes least is })

pub least_limit-limit-requires-clause-sizes : goal.least_limit-limit-requires-clause-sizes
least_limit-limit-requires-clause-sizes c = each_size c.args.sizes.now c.requires.sizes
