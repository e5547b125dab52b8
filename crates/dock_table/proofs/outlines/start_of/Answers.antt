use Rattle.std.proofs.Common.{ap}
use Rattle.std.proofs.lemmas.List.{get_or_read}
use Rattle.port_order.specs.declared.children.ChildPort.{ChildPort}
use Rattle.port_order.specs.Child.{no_port, port_at}
use Rattle.port_order.proofs.ChildLemmas.{half_small}
use Rattle.dock_table.proofs.PartLemmas.{start_computed}
use Rattle.dock_table.proofs.outlines.start_of.Goals as goal

pub overflow_sub-result : goal.overflow_sub-result
overflow_sub-result c =
    let found = get_or_read c.args.child.now.ports c.args.port c.at-found.result.now c.requires.port c.at-found.ensures no_port in
    (start_computed c.args.offset c.at-found.result.now.half (port_at c.args.child.now c.args.port).half (ap (λ (q : ChildPort). q.half) found) c.requires.offset (half_small c.args.child.now c.args.port (c.requires.child.child.ports c.args.port c.requires.port))).0

pub returns : goal.returns
returns c =
    let found = get_or_read c.args.child.now.ports c.args.port c.at-found.result.now c.requires.port c.at-found.ensures no_port in
    (start_computed c.args.offset c.at-found.result.now.half (port_at c.args.child.now c.args.port).half (ap (λ (q : ChildPort). q.half) found) c.requires.offset (half_small c.args.child.now c.args.port (c.requires.child.child.ports c.args.port c.requires.port))).1
