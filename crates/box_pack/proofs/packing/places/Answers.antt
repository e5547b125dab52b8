use Rattle.std.proofs.Common.{◌≡◌, ◌+◌, refl, arith, rules, ◌++◌, [], ◌∷◌}
use Rattle.box_pack.specs.Boxes.{size_at}
use Rattle.box_pack.specs.Walk.{before}
use Rattle.box_pack.proofs.Filling.{at_near, row_near, step_before, push_spot}
use Rattle.box_pack.proofs.packing.places.Goals as goal

pub loop-size-init : goal.loop-size-init
unfolding before
loop-size-init c = record { at = c.top-cursor.ensures; count = search rules; spots = λ i h. absurd (omega arith) }

pub row_for-row-requires-clause-near : goal.row_for-row-requires-clause-near
row_for-row-requires-clause-near c =
    at_near c.args.sizes.now c.args.page.now c.loop-size.size-index c.loop-size.cursor c.requires.page c.requires.sizes (omega arith) c.requires.count c.loop-size.invariant.at

pub behind-cursor-requires-clause-near : goal.behind-cursor-requires-clause-near
behind-cursor-requires-clause-near c =
    row_near c.args.page.now c.loop-size.cursor c.row_for-row.result (size_at c.args.sizes.now c.loop-size.size-index) c.requires.page
    (at_near c.args.sizes.now c.args.page.now c.loop-size.size-index c.loop-size.cursor c.requires.page c.requires.sizes (omega arith) c.requires.count c.loop-size.invariant.at) c.row_for-row.ensures

pub loop-size-preserved : goal.loop-size-preserved
loop-size-preserved c =
    let items : c.push.new.self.items ≡ c.loop-size.at.items ++ (record { x = c.row_for-row.result.x; y = c.row_for-row.result.y }) ∷ [] = search rules in
    record {
      at = step_before c.args.sizes.now c.args.page.now c.loop-size.size-index c.loop-size.cursor c.row_for-row.result c.behind-cursor.result (size_at c.args.sizes.now c.loop-size.size-index) c.loop-size.invariant.at refl c.row_for-row.ensures c.behind-cursor.ensures;
      count = search rules;
      spots = push_spot c.args.sizes.now c.args.page.now c.loop-size.size-index c.loop-size.at.items c.push.new.self.items c.loop-size.cursor c.row_for-row.result c.loop-size.invariant.at c.row_for-row.ensures c.loop-size.invariant.count items c.loop-size.invariant.spots;
    }
