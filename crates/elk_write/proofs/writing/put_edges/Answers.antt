use Rattle.std.proofs.Common.{◌≡◌, ◌+◌, ◌∷◌, drop, sym, ap, ◌∙◌, arith, subst, option_map}
use Rattle.std.specs.List.{slice_get}
use Rattle.std.proofs.lemmas.List.{drop_more}
use Rattle.serde_json.specs.View.{view, items_view}
use Rattle.elk_write.specs.Answered.{edge_answer, edge_answers}
use Rattle.elk_write.specs.Tokens.{tokens_of, tokens_of_items, Adds, Leaves}
use Rattle.elk_write.proofs.Found.{item_found}
use Rattle.elk_write.proofs.Leaving.{further}
use Rattle.elk_write.proofs.writing.put_edges.Goals as goal

pub loop-edge-preserved : goal.loop-edge-preserved
loop-edge-preserved c =
    let l = c.loop-edge in
    let doc = c.args.doc.now in
    let p = c.args.placed.now in
    let xs = c.deref-edge-items.result.now in
    let x = c.edge-item.result in
    let first = c.begin_array.new.self in
    let all = tokens_of_items (edge_answers doc p c.args.first (items_view xs)) in
    let left = drop (l.edge-index + 1) xs in
    let here : drop l.edge-index xs ≡ x ∷ left = drop_more xs l.edge-index x (omega arith) ∙ ap (λ y. y ∷ left) (sym c.edge-item.is) in
    let named : option_map (λ e. e.now) c.get-named.result ≡ slice_get doc.edges l.number = item_found c.edges-known.result.now l.number c.get-named.result c.get-named.ensures.lookup ∙ ap (λ es. slice_get es l.number) c.edges-known.ensures.value in
    let section : option_map (λ e. e.now) c.get-section.result ≡ slice_get p.sections l.number = item_found c.as_slice-sections.result.now l.number c.get-section.result c.get-section.ensures.lookup ∙ ap (λ es. slice_get es l.number) c.as_slice-sections.ensures.value in
    subst (λ n. Leaves first all c.put_edge.new.out (tokens_of_items (edge_answers doc p n (items_view left)))) (sym c.in_ok-number.ensures)
    (further first l.out c.put_edge.new.out all (tokens_of (edge_answer (slice_get doc.edges l.number) (slice_get p.sections l.number) (view x))) (tokens_of_items (edge_answers doc p (l.number + 1) (items_view left)))
    (subst (λ ys. Leaves first all l.out (tokens_of_items (edge_answers doc p l.number (items_view ys)))) here l.invariant)
    (subst (λ o. Adds l.out c.put_edge.new.out (tokens_of (edge_answer (slice_get doc.edges l.number) o (view x)))) section
    (subst (λ o. Adds l.out c.put_edge.new.out (tokens_of (edge_answer o (option_map (λ s. s.now) c.get-section.result) (view x)))) named c.in_ok-put_edge.ensures)))
