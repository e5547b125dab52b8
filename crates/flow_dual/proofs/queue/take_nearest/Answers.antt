use Rattle.std.proofs.Common.{◌≡◌, subst}
use Rattle.std.specs.BinaryHeap.{heap_items}
use Rattle.std.specs.List.{All}
use Rattle.std.proofs.lemmas.List.Elements.{All-tail}
use Rattle.flow_dual.specs.declared.queue.Step.{Step}
use Rattle.flow_dual.specs.Queue.{nearness}
use Rattle.flow_dual.proofs.Offering.{takes_first}
use Rattle.flow_dual.proofs.queue.take_nearest.Goals as goal

pub returns-in-Some-clause-order : goal.returns-in-Some-clause-order
returns-in-Some-clause-order c = record {
  at_once = All-tail (λ (t : Step). nearness t ≡ c.args.steps.now.now) c.in-Some.step c.pop_front.new.self.items (subst (λ xs. All (λ (t : Step). nearness t ≡ c.args.steps.now.now) xs) c.in-Some.ensures.items c.requires.at_once);
  further = c.requires.further;
  heap = c.requires.heap;
}

pub returns-in-Some-clause-some : goal.returns-in-Some-clause-some
returns-in-Some-clause-some c = takes_first c.args.steps.now.now c.args.steps.now.at_once.items c.pop_front.new.self.items (heap_items c.args.steps.now.further) c.in-Some.step c.in-Some.ensures.items c.requires.at_once c.requires.further
