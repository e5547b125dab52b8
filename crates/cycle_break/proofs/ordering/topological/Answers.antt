use Rattle.std.proofs.Common.{◌≡◌, true, false, sym, ◌∙◌}
use Rattle.cycle_break.specs.Ways.{node_keys}
use Rattle.cycle_break.proofs.Sorting.{cycle_left, order_found, ordered_has_none}
use Rattle.cycle_break.proofs.ordering.topological.Goals as goal

pub returns-then-has_edges-clause-answer : goal.returns-then-has_edges-clause-answer
returns-then-has_edges-clause-answer c =
    let e = (c.has_edges.ensures).0 c.if-has_edges.true in
    cycle_left c.args.arena.now c.order_of.new.work (node_keys c.in_ok-order.order.items) e.0 c.incidence.ensures c.in_ok-order.ensures e.1

pub returns-clause-answer : goal.returns-clause-answer
returns-clause-answer c =
    order_found c.args.arena.now c.order_of.new.work (node_keys c.in_ok-order.order.items) c.incidence.ensures c.in_ok-order.ensures
    (λ e h. let bad : true ≡ false = sym ((c.has_edges.ensures).1 (e, h)) ∙ c.if-has_edges.false in absurd cc)

pub returns-clause-acyclic : goal.returns-clause-acyclic
returns-clause-acyclic c =
    ordered_has_none c.args.arena.now (node_keys c.in_ok-order.order.items)
    (order_found c.args.arena.now c.order_of.new.work (node_keys c.in_ok-order.order.items) c.incidence.ensures c.in_ok-order.ensures
    (λ e h. let bad : true ≡ false = sym ((c.has_edges.ensures).1 (e, h)) ∙ c.if-has_edges.false in absurd cc))
