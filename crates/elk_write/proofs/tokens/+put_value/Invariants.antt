use Rattle.std.proofs.Common.{drop}
use Rattle.serde_json.specs.View.{items_view, members_view}
use Rattle.elk_write.specs.Tokens.{tokens_of_items, tokens_of_members, Leaves}
use Rattle.elk_write.proofs.tokens.+put_value.Given as goal

abbrev pub invariant-put_array-loop-item : goal.invariant-put_array-loop-item
invariant-put_array-loop-item l =
    Leaves l.initial.out (tokens_of_items (items_view l.item-items)) l.out (tokens_of_items (items_view (drop l.item-index l.item-items)))

abbrev pub invariant-put_object-loop-key : goal.invariant-put_object-loop-key
invariant-put_object-loop-key l =
    Leaves l.initial.out (tokens_of_members (members_view l.members.entries)) l.out (tokens_of_members (members_view l.key-iterator))
