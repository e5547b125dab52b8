use Rattle.unit_blocks.proofs.BlockLemmas.{block_order_is}
use Rattle.unit_blocks.proofs.laws.blocks_have_order.Goals as goal

pub returns : goal.returns
returns c = λ l rows chosen names sound are straight named. block_order_is l rows chosen names sound are straight named
