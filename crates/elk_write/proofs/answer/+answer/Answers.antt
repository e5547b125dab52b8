use Rattle.std.proofs.Common.{◌≡◌, ◌+◌, ◌∷◌, drop, sym, ap, ◌∙◌, arith, false}
use Rattle.std.proofs.lemmas.List.{drop_more, drop_all}
use Rattle.serde_json.specs.Data.{item}
use Rattle.serde_json.specs.View.{view, items_view}
use Rattle.elk_write.specs.Numbers.{past_children}
use Rattle.elk_write.specs.Answered.{answer_node, answer_children}
use Rattle.elk_write.proofs.Lists.{before, before_push, before_none}
use Rattle.elk_write.proofs.answer.+answer.Goals as goal

pub answer_children-loop-item-preserved : goal.answer_children-loop-item-preserved
answer_children-loop-item-preserved t c =
    let l = c.loop-item in
    let doc = c.args.doc.now in
    let p = c.args.placed.now in
    let xs = c.deref-item-items.result.now in
    let x = c.item-item.result in
    let v = c.in_ok-answer_node.field-0 in
    let next = c.answer_node.new.at in
    let left = items_view (drop (l.item-index + 1) xs) in
    let here : drop l.item-index xs ≡ x ∷ drop (l.item-index + 1) xs = drop_more xs l.item-index x (omega arith) ∙ ap (λ y. y ∷ drop (l.item-index + 1) xs) (sym c.item-item.is) in (
      ap (λ es. before (items_view es) (answer_children doc p next left)) c.in_ok-push.ensures.items
          ∙ before_push l.copies.items v (answer_children doc p next left)
          ∙ ap (λ d. before (items_view l.copies.items) (item d (answer_children doc p next left))) c.in_ok-answer_node.ensures.written
          ∙ ap (λ a. before (items_view l.copies.items) (item (answer_node doc p l.at false (view x)) (answer_children doc p a left))) c.in_ok-answer_node.ensures.numbers
          ∙ ap (λ ys. before (items_view l.copies.items) (answer_children doc p l.at (items_view ys))) (sym here)
          ∙ l.invariant.0,
      ap (λ a. past_children a left) c.in_ok-answer_node.ensures.numbers
          ∙ ap (λ ys. past_children l.at (items_view ys)) (sym here)
          ∙ l.invariant.1,
    )

pub answer_children-returns-clause-written : goal.answer_children-returns-clause-written
answer_children-returns-clause-written t c =
    let l = c.loop-item in
    let doc = c.args.doc.now in
    let p = c.args.placed.now in
    let xs = c.deref-item-items.result.now in
    sym (before_none (items_view l.copies.items))
    ∙ ap (λ ys. before (items_view l.copies.items) (answer_children doc p l.at (items_view ys))) (sym (drop_all l.item-index xs (omega arith)))
    ∙ l.invariant.0
    ∙ ap (λ ys. answer_children doc p c.args.at.now (items_view ys)) c.deref-item-items.ensures.value
