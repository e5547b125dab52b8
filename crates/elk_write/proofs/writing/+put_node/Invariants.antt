use Rattle.std.proofs.Common.{◌≡◌, drop}
use Rattle.serde_json.specs.View.{items_view, members_view}
use Rattle.elk_write.specs.Numbers.{past_children, past_members}
use Rattle.elk_write.specs.Answered.{answer_children}
use Rattle.elk_write.specs.Tokens.{tokens_of_items, tokens_of_members, Leaves}
use Rattle.elk_write.specs.Merged.{own_members, puts, answered, IsSorted}
use Rattle.elk_write.proofs.writing.+put_node.Given as goal

abbrev pub invariant-put_children-loop-item : goal.invariant-put_children-loop-item
invariant-put_children-loop-item l =
    Leaves l.initial.out (tokens_of_items (answer_children l.scene.doc.now l.scene.placed.now l.initial.at (items_view l.item-items))) l.out
    (tokens_of_items (answer_children l.scene.doc.now l.scene.placed.now l.at (items_view (drop l.item-index l.item-items))))
    × (past_children l.at (items_view (drop l.item-index l.item-items)) ≡ past_children l.initial.at (items_view l.item-items))

abbrev pub invariant-put_members-loop-key : goal.invariant-put_members-loop-key
invariant-put_members-loop-key l =
    let kept = answered l.scene.doc.now l.scene.placed.now l.head.first l.head.compound in
    IsSorted (members_view l.key-iterator)
    × Leaves l.initial.out (tokens_of_members (puts (own_members l.own) (kept l.initial.below (members_view l.members.entries)))) l.out
    (tokens_of_members (puts (own_members (drop l.next l.own)) (kept l.below (members_view l.key-iterator))))
    × (past_members l.below (members_view l.key-iterator) ≡ past_members l.initial.below (members_view l.members.entries))
