use Rattle.std.proofs.lemmas.Result.{IfOk-weaker}
use Rattle.elk_layers.specs.Layered.{plain, rows_of}
use Rattle.unit_blocks.specs.Blocks.{block_order}
use Rattle.unit_blocks.proofs.RowLemmas.{holds_order}
use Rattle.unit_blocks.proofs.order.woven_order.Goals as goal

pub listed-requires-clause-holds : goal.listed-requires-clause-holds
listed-requires-clause-holds c = (
  block_order (plain c.args.layered.now) (rows_of c.args.order.now) c.args.names.now,
  holds_order _ _ _ _ _ _ c.requires.can c.requires.end c.weave_rows.ensures.chain,
)

pub returns : goal.returns
returns c =
    IfOk-weaker c.listed.result _ _
    (λ v all. all (block_order (plain c.args.layered.now) (rows_of c.args.order.now) c.args.names.now) (holds_order _ _ _ _ _ _ c.requires.can c.requires.end c.weave_rows.ensures.chain))
    c.listed.ensures
