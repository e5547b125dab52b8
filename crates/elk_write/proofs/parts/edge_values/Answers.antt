use Rattle.std.proofs.Common.{◌≡◌, ◌+◌, ◌∷◌, ◌++◌, [], drop, sym, ap, ◌∙◌, arith, option_map}
use Rattle.std.specs.List.{slice_get}
use Rattle.std.proofs.lemmas.List.{drop_more, drop_all}
use Rattle.serde_json.specs.Data.{item}
use Rattle.serde_json.specs.View.{view, items_view}
use Rattle.elk_write.specs.Answered.{edge_answer, edge_answers}
use Rattle.elk_write.proofs.Found.{item_found}
use Rattle.elk_write.proofs.Lists.{before, before_push, before_none}
use Rattle.elk_write.proofs.parts.edge_values.Goals as goal

pub loop-edge-preserved : goal.loop-edge-preserved
loop-edge-preserved c =
    let l = c.loop-edge in
    let doc = c.args.doc.now in
    let p = c.args.placed.now in
    let xs = c.deref-edge-items.result.now in
    let x = c.edge-item.result in
    let v = c.in_ok-edge_value.field-0 in
    let left = items_view (drop (l.edge-index + 1) xs) in
    let here : drop l.edge-index xs ≡ x ∷ drop (l.edge-index + 1) xs = drop_more xs l.edge-index x (omega arith) ∙ ap (λ y. y ∷ drop (l.edge-index + 1) xs) (sym c.edge-item.is) in
    let named : option_map (λ e. e.now) c.get-named.result ≡ slice_get doc.edges l.number = item_found c.edges-known.result.now l.number c.get-named.result c.get-named.ensures.lookup ∙ ap (λ es. slice_get es l.number) c.edges-known.ensures.value in
    let section : option_map (λ e. e.now) c.get-section.result ≡ slice_get p.sections l.number = item_found c.as_slice-sections.result.now l.number c.get-section.result c.get-section.ensures.lookup ∙ ap (λ es. slice_get es l.number) c.as_slice-sections.ensures.value in
    ap (λ es. before (items_view es) (edge_answers doc p c.in_ok-number.number left)) c.in_ok-push.ensures.items
    ∙ ap (λ n. before (items_view (l.copies.items ++ v ∷ [])) (edge_answers doc p n left)) c.in_ok-number.ensures
    ∙ before_push l.copies.items v (edge_answers doc p (l.number + 1) left)
    ∙ ap (λ d. before (items_view l.copies.items) (item d (edge_answers doc p (l.number + 1) left)))
    (c.in_ok-edge_value.ensures
    ∙ ap (λ o. edge_answer o (option_map (λ e. e.now) c.get-section.result) (view x)) named
    ∙ ap (λ o. edge_answer (slice_get doc.edges l.number) o (view x)) section)
    ∙ ap (λ ys. before (items_view l.copies.items) (edge_answers doc p l.number (items_view ys))) (sym here)
    ∙ l.invariant

pub returns : goal.returns
returns c =
    let l = c.loop-edge in
    let doc = c.args.doc.now in
    let p = c.args.placed.now in
    let xs = c.deref-edge-items.result.now in
    sym (before_none (items_view l.copies.items))
    ∙ ap (λ ys. before (items_view l.copies.items) (edge_answers doc p l.number (items_view ys))) (sym (drop_all l.edge-index xs (omega arith)))
    ∙ l.invariant
    ∙ ap (λ ys. edge_answers doc p c.args.first (items_view ys)) c.deref-edge-items.ensures.value
