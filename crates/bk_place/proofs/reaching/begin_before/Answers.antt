use Rattle.std.proofs.Common.{nat_lt, rules, arith, ltb-true, ltb-false}
use Rattle.std.proofs.lemmas.List.Sorted.{IsPartitionPoint-from_clause, IsPartitionedBy-ltb}
use Rattle.bk_place.specs.declared.reaching.LinkEnd.{LinkEnd}
use Rattle.bk_place.specs.Marks.{pin_at}
use Rattle.bk_place.proofs.reaching.begin_before.Goals as goal

pub returns-clause-before : goal.returns-clause-before
returns-clause-before c =
    let point = IsPartitionPoint-from_clause (λ (p : LinkEnd). nat_lt p.start c.args.place) _ _ c.partition_point.ensures.partitioned (IsPartitionedBy-ltb (λ (p : LinkEnd). p.start) c.args.pins.now c.args.place c.requires) (λ a r q k. search rules) in
    λ j h. ltb-true (pin_at c.args.pins.now j).start c.args.place (point.0 j _ (omega arith) h)

pub returns-clause-behind : goal.returns-clause-behind
returns-clause-behind c =
    let point = IsPartitionPoint-from_clause (λ (p : LinkEnd). nat_lt p.start c.args.place) _ _ c.partition_point.ensures.partitioned (IsPartitionedBy-ltb (λ (p : LinkEnd). p.start) c.args.pins.now c.args.place c.requires) (λ a r q k. search rules) in
    λ j h l. ltb-false (pin_at c.args.pins.now j).start c.args.place (point.1 j _ h l)
