use Rattle.std.proofs.Common.{ltb, rules, arith}
use Rattle.std.proofs.lemmas.List.Sorted.{IsPartitionPoint-from_clause, IsPartitionedBy-ltb}
use Rattle.cross_reduce.specs.Pins.{start_of, pin_at}
use Rattle.std.proofs.lemmas.Bool.{ltb-false, ltb-true}
use Rattle.cross_reduce.proofs.counting.begin_before.Goals as goal

pub returns-clause-before : goal.returns-clause-before
returns-clause-before c =
    let point = IsPartitionPoint-from_clause (λ p. ltb (start_of p) c.args.place) _ _ c.partition_point.ensures.partitioned (IsPartitionedBy-ltb start_of c.args.pins.now c.args.place c.requires) (λ a r q k. search rules) in
    λ j h. ltb-true (start_of (pin_at c.args.pins.now j)) c.args.place (point.0 j _ (omega arith) h)

pub returns-clause-behind : goal.returns-clause-behind
returns-clause-behind c =
    let point = IsPartitionPoint-from_clause (λ p. ltb (start_of p) c.args.place) _ _ c.partition_point.ensures.partitioned (IsPartitionedBy-ltb start_of c.args.pins.now c.args.place c.requires) (λ a r q k. search rules) in
    λ j h l. ltb-false (start_of (pin_at c.args.pins.now j)) c.args.place (point.1 j _ h l)
