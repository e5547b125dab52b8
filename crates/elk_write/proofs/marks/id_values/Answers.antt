use Rattle.std.proofs.Common.{◌≡◌, ◌+◌, ◌∷◌, ◌++◌, drop, map, get_or, sym, ap, ◌∙◌, arith, append_assoc, append-nil, option_map}
use Rattle.std.specs.List.{slice_get}
use Rattle.std.proofs.lemmas.List.{drop_more, drop_all}
use Rattle.serde_json.specs.Data.{array}
use Rattle.serde_json.specs.View.{view, items_of}
use Rattle.serde_json.proofs.Views.{view-Array}
use Rattle.elk_write.specs.Values.{edge_id, edge_ids}
use Rattle.elk_write.proofs.Found.{item_found}
use Rattle.elk_write.proofs.marks.id_values.Goals as goal

pub loop-edge-preserved : goal.loop-edge-preserved
loop-edge-preserved c =
    let l = c.loop-edge in
    let xs = c.args.edges.now in
    let doc = c.args.doc.now in
    let n = get_or xs l.edge-index 0 in
    let old = map view l.values.items in
    let rest = edge_ids doc (drop (l.edge-index + 1) xs) in
    let here : drop l.edge-index xs ≡ n ∷ drop (l.edge-index + 1) xs = drop_more xs l.edge-index 0 (omega arith) in
    let found : option_map (λ e. e.now) c.get.result ≡ slice_get doc.edges n = item_found c.edges.result.now n c.get.result c.get.ensures.lookup ∙ ap (λ es. slice_get es n) c.edges.ensures.value in
    ap (λ vs. vs ++ rest) c.in_ok-values-2.ensures
    ∙ append_assoc old (edge_id (option_map (λ e. e.now) c.get.result)) rest
    ∙ ap (λ o. old ++ (edge_id o ++ rest)) found
    ∙ ap (λ ys. old ++ edge_ids doc ys) (sym here)
    ∙ l.invariant

pub returns : goal.returns
returns c =
    let l = c.loop-edge in
    let xs = c.args.edges.now in
    let doc = c.args.doc.now in
    view-Array l.values
    ∙ ap (λ ds. array (items_of ds))
    (sym (append-nil (map view l.values.items))
    ∙ ap (λ ys. map view l.values.items ++ edge_ids doc ys) (sym (drop_all l.edge-index xs (omega arith)))
    ∙ l.invariant)
