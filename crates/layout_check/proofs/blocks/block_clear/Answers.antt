use Rattle.layout_check.proofs.EndLaws.{clear_if_off}
use Rattle.layout_check.proofs.blocks.block_clear.Goals as goal

pub returns-then-are_off : goal.returns-then-are_off
returns-then-are_off c =
    λ _ a above below. clear_if_off c.args.scene.now.doc.now c.args.scene.now.placed.now c.args.node c.args.edge a c.args.bounds c.requires.own c.requires.bounds (c.are_off.ensures c.if-are_off.true a above below)
