use Rattle.std.proofs.Common.{◌≡◌, drop}
use Rattle.serde_json.specs.Data.{no_members}
use Rattle.serde_json.specs.View.{items_view, members_view}
use Rattle.elk_write.specs.Numbers.{past_members, past_children}
use Rattle.elk_write.specs.Answered.{answer_into, answer_children}
use Rattle.elk_write.proofs.Lists.{before}
use Rattle.elk_write.proofs.answer.+answer.Given as goal

abbrev pub invariant-answer_members-loop-key : goal.invariant-answer_members-loop-key
invariant-answer_members-loop-key l =
    (answer_into l.doc l.placed l.first l.compound l.below (members_view l.copies.entries) (members_view l.key-iterator)
    ≡ answer_into l.doc l.placed l.first l.compound l.initial.below no_members (members_view l.members.entries))
    × (past_members l.below (members_view l.key-iterator) ≡ past_members l.initial.below (members_view l.members.entries))

abbrev pub invariant-answer_children-loop-item : goal.invariant-answer_children-loop-item
invariant-answer_children-loop-item l =
    (before (items_view l.copies.items) (answer_children l.doc l.placed l.at (items_view (drop l.item-index l.item-items)))
    ≡ answer_children l.doc l.placed l.initial.at (items_view l.item-items))
    × (past_children l.at (items_view (drop l.item-index l.item-items)) ≡ past_children l.initial.at (items_view l.item-items))
