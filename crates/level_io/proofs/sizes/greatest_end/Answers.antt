use Rattle.std.proofs.Common.{FitsSigned, refl, rules, w64}
use Rattle.std.proofs.lemmas.Int.{to_z-of_z}
use Rattle.level_io.specs.Changed.{number_at}
use Rattle.level_io.specs.Sizes.{end_of}
use Rattle.level_io.proofs.SizeLemmas.{no_end, one_more_end}
use Rattle.level_io.proofs.sizes.greatest_end.Goals as goal

pub loop-i-init : goal.loop-i-init
loop-i-init c = rw (to_z-of_z w64 c.args.base c.ranges.base) (no_end c.args.doc.now c.args.across c.args.base c.args.ports.now)

pub loop-i-preserved : goal.loop-i-preserved
loop-i-preserved c =
    let d = c.args.doc.now in
    let fits : FitsSigned w64 c.raised-greatest.result = search rules in
    rw (to_z-of_z w64 c.raised-greatest.result fits, c.raised-greatest.ensures, c.end_of.ensures)
    (one_more_end d c.args.across _ c.args.ports.now c.loop-i.i _ (end_of d c.args.across (number_at c.args.ports.now c.loop-i.i)) c.loop-i.invariant refl)
