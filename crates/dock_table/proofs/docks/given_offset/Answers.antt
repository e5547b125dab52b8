use Rattle.std.proofs.Common.{◌≡◌, ◌^◌, ap, sym, subst, ◌∙◌}
use Rattle.std.proofs.lemmas.List.{get_or_read}
use Rattle.elk_doc.specs.Sound.{along}
use Rattle.port_order.specs.declared.children.ChildPort.{ChildPort}
use Rattle.port_order.specs.Child.{no_port, port_at}
use Rattle.port_order.proofs.ChildLemmas.{along_within, half_small}
use Rattle.dock_table.specs.Narrow.{IsOffset}
use Rattle.dock_table.proofs.NarrowLemmas.{given_near}
use Rattle.dock_table.proofs.PartLemmas.{given_sum}
use Rattle.dock_table.proofs.docks.given_offset.Goals as goal

pub overflow_add-result : goal.overflow_add-result
overflow_add-result c =
    let ports = c.args.child.now.ports in
    let is = c.requires.child.child.ports c.args.port c.requires.port in
    let found : c.at-found.result.now ≡ port_at c.args.child.now c.args.port = get_or_read c.args.child.now.ports c.args.port c.at-found.result.now c.requires.port c.at-found.ensures no_port in
    let half : c.at-found.result.now.half ≡ (port_at c.args.child.now c.args.port).half = ap (λ (q : ChildPort). q.half) found in
    let place : c.along.result ≡ along c.args.side (port_at c.args.child.now c.args.port).place = c.along.ensures ∙ ap (λ (q : ChildPort). along c.args.side q.place) found in
    let near = given_near c.args.child.now c.args.side c.args.port c.requires.child c.requires.port c.requires.pinned c.requires.side in
    let sum = given_sum c.along.result c.at-found.result.now.half (along c.args.side (port_at c.args.child.now c.args.port).place) (port_at c.args.child.now c.args.port).half place half (along_within (2 ^ 54) c.args.side (port_at c.args.child.now c.args.port).place is.place) (half_small c.args.child.now c.args.port is) in
    sum.0

pub returns-clause-value : goal.returns-clause-value
returns-clause-value c =
    let ports = c.args.child.now.ports in
    let is = c.requires.child.child.ports c.args.port c.requires.port in
    let found : c.at-found.result.now ≡ port_at c.args.child.now c.args.port = get_or_read c.args.child.now.ports c.args.port c.at-found.result.now c.requires.port c.at-found.ensures no_port in
    let half : c.at-found.result.now.half ≡ (port_at c.args.child.now c.args.port).half = ap (λ (q : ChildPort). q.half) found in
    let place : c.along.result ≡ along c.args.side (port_at c.args.child.now c.args.port).place = c.along.ensures ∙ ap (λ (q : ChildPort). along c.args.side q.place) found in
    let near = given_near c.args.child.now c.args.side c.args.port c.requires.child c.requires.port c.requires.pinned c.requires.side in
    let sum = given_sum c.along.result c.at-found.result.now.half (along c.args.side (port_at c.args.child.now c.args.port).place) (port_at c.args.child.now c.args.port).half place half (along_within (2 ^ 54) c.args.side (port_at c.args.child.now c.args.port).place is.place) (half_small c.args.child.now c.args.port is) in
    sum.1

pub returns-clause-offset : goal.returns-clause-offset
returns-clause-offset c =
    let ports = c.args.child.now.ports in
    let is = c.requires.child.child.ports c.args.port c.requires.port in
    let found : c.at-found.result.now ≡ port_at c.args.child.now c.args.port = get_or_read c.args.child.now.ports c.args.port c.at-found.result.now c.requires.port c.at-found.ensures no_port in
    let half : c.at-found.result.now.half ≡ (port_at c.args.child.now c.args.port).half = ap (λ (q : ChildPort). q.half) found in
    let place : c.along.result ≡ along c.args.side (port_at c.args.child.now c.args.port).place = c.along.ensures ∙ ap (λ (q : ChildPort). along c.args.side q.place) found in
    let near = given_near c.args.child.now c.args.side c.args.port c.requires.child c.requires.port c.requires.pinned c.requires.side in
    let sum = given_sum c.along.result c.at-found.result.now.half (along c.args.side (port_at c.args.child.now c.args.port).place) (port_at c.args.child.now c.args.port).half place half (along_within (2 ^ 54) c.args.side (port_at c.args.child.now c.args.port).place is.place) (half_small c.args.child.now c.args.port is) in
    subst IsOffset (sym sum.1) near
