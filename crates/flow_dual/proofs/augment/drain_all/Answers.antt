use Rattle.std.proofs.Common.{length, sym, subst, arith}
use Rattle.std.specs.List.{Contains}
use Rattle.std.proofs.lemmas.List.Elements.{Contains-push}
use Rattle.flow_dual.specs.Augmented.{IsDrained}
use Rattle.flow_dual.proofs.Waiting.{all_more}
use Rattle.flow_dual.proofs.augment.drain_all.Goals as goal

pub drain-requires-clause-source : goal.drain-requires-clause-source
drain-requires-clause-source c =
    let there = subst (λ xs. Contains xs c.in-Some.source) (sym c.in-Some.ensures.items) (Contains-push c.pop.new.self.items c.in-Some.source) in
    let long = c.sources.auto.layer in
    let low = c.sources.invariant.waiting.in_range c.in-Some.source there in
    omega (arith, low, long)

pub sources-preserved : goal.sources-preserved
sources-preserved c =
    all_more (length c.args.layer.now) c.args.net.now.edges.now c.sources.sources.items c.pop.new.self.items c.in-Some.source c.sources.excess c.drain.new.excess c.drain.new.layer c.drain.new.flow c.drain.new.marks.reached.items c.drain.new.marks.labels.items c.drain.new.marks.dist.items
    c.in-Some.ensures.items c.sources.invariant.waiting
    (subst (λ n. IsDrained n c.args.net.now.edges.now c.in-Some.source.node c.sources.excess c.drain.new.layer c.drain.new.flow c.drain.new.excess c.drain.new.marks.reached.items c.drain.new.marks.labels.items c.drain.new.marks.dist.items) c.sources.auto.layer c.in_ok-drain.ensures)
