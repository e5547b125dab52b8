use Rattle.elk_layers.specs.Layered.{plain, rows_of}
use Rattle.level_layout.proofs.FreeLemmas.{free_order}
use Rattle.level_layout.proofs.phases.order_without_keys.Goals as goal

pub returns-clause-held : goal.returns-clause-held
returns-clause-held c =
    free_order (plain c.args.layered.now) c.args.keys.now (rows_of c.args.start.now) (rows_of c.in_ok-order.order) c.requires.free c.in_ok-order.ensures.reduced
