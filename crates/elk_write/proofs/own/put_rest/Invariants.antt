use Rattle.std.proofs.Common.{drop}
use Rattle.elk_write.specs.Tokens.{tokens_of_members, Leaves}
use Rattle.elk_write.specs.Merged.{own_members}
use Rattle.elk_write.proofs.own.put_rest.Given as goal

abbrev pub invariant-loop-number : goal.invariant-loop-number
invariant-loop-number l =
    Leaves l.initial.out (tokens_of_members (own_members (drop l.next l.own))) l.out (tokens_of_members (own_members (drop l.number l.own)))
