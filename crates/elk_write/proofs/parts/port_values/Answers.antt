use Rattle.std.proofs.Common.{◌≡◌, ◌+◌, ◌∷◌, ◌++◌, [], drop, sym, ap, ◌∙◌, arith, option_map}
use Rattle.std.specs.List.{slice_get}
use Rattle.std.proofs.lemmas.List.{drop_more, drop_all}
use Rattle.serde_json.specs.Data.{item}
use Rattle.serde_json.specs.View.{view, items_view}
use Rattle.elk_write.specs.Answered.{port_answer, port_answers}
use Rattle.elk_write.proofs.Found.{item_found}
use Rattle.elk_write.proofs.Lists.{before, before_push, before_none}
use Rattle.elk_write.proofs.parts.port_values.Goals as goal

pub loop-port-preserved : goal.loop-port-preserved
loop-port-preserved c =
    let l = c.loop-port in
    let p = c.args.placed.now in
    let xs = c.deref-port-items.result.now in
    let x = c.port-item.result in
    let v = c.in_ok-port_value.field-0 in
    let left = items_view (drop (l.port-index + 1) xs) in
    let here : drop l.port-index xs ≡ x ∷ drop (l.port-index + 1) xs = drop_more xs l.port-index x (omega arith) ∙ ap (λ y. y ∷ drop (l.port-index + 1) xs) (sym c.port-item.is) in
    let found : option_map (λ e. e.now) c.get-place.result ≡ slice_get p.ports l.number = item_found c.as_slice-places.result.now l.number c.get-place.result c.get-place.ensures.lookup ∙ ap (λ es. slice_get es l.number) c.as_slice-places.ensures.value in
    ap (λ es. before (items_view es) (port_answers p c.in_ok-number.number left)) c.in_ok-push.ensures.items
    ∙ ap (λ n. before (items_view (l.copies.items ++ v ∷ [])) (port_answers p n left)) c.in_ok-number.ensures
    ∙ before_push l.copies.items v (port_answers p (l.number + 1) left)
    ∙ ap (λ d. before (items_view l.copies.items) (item d (port_answers p (l.number + 1) left))) (c.in_ok-port_value.ensures ∙ ap (λ o. port_answer o (view x)) found)
    ∙ ap (λ ys. before (items_view l.copies.items) (port_answers p l.number (items_view ys))) (sym here)
    ∙ l.invariant

pub returns : goal.returns
returns c =
    let l = c.loop-port in
    let p = c.args.placed.now in
    let xs = c.deref-port-items.result.now in
    sym (before_none (items_view l.copies.items))
    ∙ ap (λ ys. before (items_view l.copies.items) (port_answers p l.number (items_view ys))) (sym (drop_all l.port-index xs (omega arith)))
    ∙ l.invariant
    ∙ ap (λ ys. port_answers p c.args.first (items_view ys)) c.deref-port-items.ensures.value
