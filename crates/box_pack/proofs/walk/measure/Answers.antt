use Rattle.std.proofs.Common.{refl, arith, w64, FitsSigned, rules}
use Rattle.std.proofs.lemmas.Int.{to_z-of_z}
use Rattle.box_pack.specs.Boxes.{size_at}
use Rattle.box_pack.specs.Walk.{before, greatest_of, next_to}
use Rattle.box_pack.proofs.Filling.{at_near, row_near, step_before, step_width, step_next}
use Rattle.box_pack.proofs.walk.measure.Goals as goal

pub loop-size-init : goal.loop-size-init
unfolding before greatest_of next_to
loop-size-init c = record { at = c.top-cursor.ensures; extent = refl; next = refl }

pub row_for-row-requires-clause-near : goal.row_for-row-requires-clause-near
row_for-row-requires-clause-near c =
    at_near c.args.sizes.now c.args.page.now c.loop-size.size-index c.loop-size.cursor c.requires.page c.requires.sizes (omega arith) c.requires.count c.loop-size.invariant.at

pub grown-requires-clause-near : goal.grown-requires-clause-near
grown-requires-clause-near c =
    row_near c.args.page.now c.loop-size.cursor c.row_for-row.result (size_at c.args.sizes.now c.loop-size.size-index) c.requires.page
    (at_near c.args.sizes.now c.args.page.now c.loop-size.size-index c.loop-size.cursor c.requires.page c.requires.sizes (omega arith) c.requires.count c.loop-size.invariant.at) c.row_for-row.ensures

pub sooner-requires-clause-near : goal.sooner-requires-clause-near
sooner-requires-clause-near c =
    at_near c.args.sizes.now c.args.page.now c.loop-size.size-index c.loop-size.cursor c.requires.page c.requires.sizes (omega arith) c.requires.count c.loop-size.invariant.at

pub sooner-requires-clause-size : goal.sooner-requires-clause-size
sooner-requires-clause-size c = c.requires.sizes c.loop-size.size-index (omega arith)

pub behind-cursor-requires-clause-near : goal.behind-cursor-requires-clause-near
behind-cursor-requires-clause-near c =
    row_near c.args.page.now c.loop-size.cursor c.row_for-row.result (size_at c.args.sizes.now c.loop-size.size-index) c.requires.page
    (at_near c.args.sizes.now c.args.page.now c.loop-size.size-index c.loop-size.cursor c.requires.page c.requires.sizes (omega arith) c.requires.count c.loop-size.invariant.at) c.row_for-row.ensures

pub loop-size-preserved : goal.loop-size-preserved
loop-size-preserved c =
    let fits : FitsSigned w64 c.sooner.result = search rules in
    record {
      at = step_before c.args.sizes.now c.args.page.now c.loop-size.size-index c.loop-size.cursor c.row_for-row.result c.behind-cursor.result (size_at c.args.sizes.now c.loop-size.size-index) c.loop-size.invariant.at refl c.row_for-row.ensures c.behind-cursor.ensures;
      extent = step_width c.args.sizes.now c.args.page.now c.loop-size.size-index c.loop-size.cursor c.row_for-row.result (size_at c.args.sizes.now c.loop-size.size-index) c.loop-size.measured.extent c.grown.result c.loop-size.invariant.at refl c.row_for-row.ensures c.loop-size.invariant.extent c.grown.ensures;
      next = rw (to_z-of_z w64 c.sooner.result fits) (step_next c.args.sizes.now c.args.page.now c.loop-size.size-index c.loop-size.cursor (size_at c.args.sizes.now c.loop-size.size-index) c.loop-size.measured.next c.sooner.result c.loop-size.invariant.at refl c.loop-size.invariant.next c.sooner.ensures);
    }
