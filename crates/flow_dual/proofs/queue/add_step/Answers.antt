use Rattle.std.proofs.Common.{◌≤◌, ◌∷◌, rules}
use Rattle.std.specs.BinaryHeap.{IsHeap, heap_items}
use Rattle.std.proofs.lemmas.List.Elements.{All-cons}
use Rattle.std.proofs.lemmas.List.Sorted.{All-permutation}
use Rattle.flow_dual.specs.declared.queue.Step.{Step}
use Rattle.flow_dual.specs.Queue.{nearness, step_order}
use Rattle.flow_dual.proofs.Offering.{adds_at_once, adds_further}
use Rattle.flow_dual.proofs.queue.add_step.Goals as goal

pub returns-in_ok-push_back-clause-adds : goal.returns-in_ok-push_back-clause-adds
returns-in_ok-push_back-clause-adds c = adds_at_once c.args.steps.now.at_once.items c.push_back.new.self.items (heap_items c.args.steps.now.further) (record { near = record { 0 = c.args.near }; edge = c.args.edge }) c.in_ok-push_back.ensures.items

pub returns-in_ok-push-clause-order : goal.returns-in_ok-push-clause-order
returns-in_ok-push-clause-order c =
    let step : Step = record { near = record { 0 = c.args.near }; edge = c.args.edge } in
    let old = heap_items c.args.steps.now.further in
    let new = heap_items c.push.new.self in
    let was : IsHeap step_order old = c.requires.order.heap in
    let still : IsHeap step_order new = search rules in
    record {
      at_once = c.requires.order.at_once;
      further = All-permutation (λ (t : Step). c.args.steps.now.now ≤ nearness t) (step ∷ old) new c.in_ok-push.ensures.permutation (All-cons (λ (t : Step). c.args.steps.now.now ≤ nearness t) step old c.requires.later c.requires.order.further);
      heap = still;
    }

pub returns-in_ok-push-clause-adds : goal.returns-in_ok-push-clause-adds
returns-in_ok-push-clause-adds c = adds_further c.args.steps.now.at_once.items (heap_items c.args.steps.now.further) (heap_items c.push.new.self) (record { near = record { 0 = c.args.near }; edge = c.args.edge }) c.in_ok-push.ensures.permutation
