use Rattle.std.proofs.Common.{rules, ◌≡◌, ◌≤◌, ◌-◌, ℕ, List, [], ◌∷◌, ◌++◌, arith, length, sym, ap, ◌∙◌, subst}
use Rattle.std.proofs.lemmas.List.{length-map, length-append}
use Rattle.graph_arena.specs.declared.keys.NodeKey.{NodeKey}
use Rattle.cycle_break.specs.Ways.{node_keys}
use Rattle.cycle_break.specs.Search.{Sorted}
use Rattle.cycle_break.proofs.Keys.{node_push}
use Rattle.cycle_break.proofs.Sorting.{taken_next, next_is_node}
use Rattle.cycle_break.proofs.ordering.order_of.Goals as goal
use Rattle.cycle_break.proofs.ordering.order_of.Goals.{In_ok-take_out}

pub nodes-init : goal.nodes-init
nodes-init c =
    subst (λ (l : List ℕ). Sorted c.args.arena.now c.args.work.now l l (node_keys c.in_ok-ready.ready.items)) (sym (ap node_keys c.new-order.ensures.items))
    (c.in_ok-ready.ensures c.args.work.now c.requires)

pub take_out-requires : goal.take_out-requires
take_out-requires c =
    next_is_node c.args.arena.now c.nodes.work (node_keys c.nodes.order.items) (node_keys c.nodes.ready.items) (node_keys c.pop.new.self.items) c.in-Some.node.at c.nodes.invariant
    (ap node_keys c.in-Some.ensures.items ∙ node_push c.pop.new.self.items c.in-Some.node)

taken : (c : In_ok-take_out) → Sorted c.args.arena.now c.take_out.new.work (node_keys c.push.new.self.items) (node_keys c.push.new.self.items) (node_keys c.take_out.new.ready.items) × (length (node_keys c.push.new.self.items) ≤ length c.args.arena.now.nodes)
taken c =
    taken_next c.args.arena.now c.nodes.work c.take_out.new.work (node_keys c.nodes.order.items) (node_keys c.push.new.self.items) (node_keys c.nodes.ready.items) (node_keys c.pop.new.self.items) (node_keys c.take_out.new.ready.items) c.in-Some.node.at c.nodes.invariant
    (ap node_keys c.in-Some.ensures.items ∙ node_push c.pop.new.self.items c.in-Some.node)
    (ap node_keys c.in_ok-push.ensures.items ∙ node_push c.nodes.order.items c.in-Some.node)
    c.in_ok-take_out.ensures.sorted

pub nodes-smaller : goal.nodes-smaller
nodes-smaller c =
    let t = (taken c).1 in
    let m = length-map c.push.new.self.items (λ (z : NodeKey). z.at) in
    let p : length c.push.new.self.items ≡ length (c.nodes.order.items ++ c.in-Some.node ∷ []) = ap length c.in_ok-push.ensures.items in
    let q = length-append c.nodes.order.items (c.in-Some.node ∷ []) in
    omega (arith, t, m, p, q)

pub nodes-preserved : goal.nodes-preserved
nodes-preserved c = (taken c).0

pub returns : goal.returns
returns c =
    let e = c.in_default.ensures in
    let none : c.nodes.ready.items ≡ [] = search rules in
    subst (λ (l : List ℕ). Sorted c.args.arena.now c.nodes.work (node_keys c.nodes.order.items) (node_keys c.nodes.order.items) l) (ap node_keys none) c.nodes.invariant
