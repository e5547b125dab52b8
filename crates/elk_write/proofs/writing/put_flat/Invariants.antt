use Rattle.serde_json.specs.View.{members_view}
use Rattle.std.proofs.Common.{drop}
use Rattle.elk_write.specs.Keys.{is_flat_key}
use Rattle.elk_write.specs.Strip.{members_but}
use Rattle.elk_write.specs.Tokens.{tokens_of_members, Leaves}
use Rattle.elk_write.specs.Merged.{own_members, puts, IsSorted}
use Rattle.elk_write.proofs.writing.put_flat.Given as goal

abbrev pub invariant-loop-key : goal.invariant-loop-key
invariant-loop-key l =
    IsSorted (members_view l.key-iterator)
    × Leaves l.initial.out (tokens_of_members (puts (own_members l.own) (members_but (is_flat_key l.edge) (members_view l.members.entries)))) l.out
    (tokens_of_members (puts (own_members (drop l.next l.own)) (members_but (is_flat_key l.edge) (members_view l.key-iterator))))
