use Rattle.std.proofs.Common.{◌≡◌, ◌+◌, ◌∷◌, ◌++◌, drop, get_or, ap, ◌∙◌, arith, subst, option_map}
use Rattle.std.specs.List.{slice_get}
use Rattle.std.proofs.lemmas.List.{drop_more}
use Rattle.serde_json.specs.View.{items_of}
use Rattle.elk_write.specs.Tokens.{tokens_of_items, id_tokens, Adds}
use Rattle.elk_write.specs.Values.{edge_ids}
use Rattle.elk_write.proofs.Found.{item_found}
use Rattle.elk_write.proofs.Leaving.{further}
use Rattle.elk_write.proofs.Spelled.{ids_step}
use Rattle.elk_write.proofs.tokens.put_ids.Goals as goal

pub loop-edge-preserved : goal.loop-edge-preserved
loop-edge-preserved c =
    let l = c.loop-edge in
    let xs = c.args.edges.now in
    let doc = c.args.doc.now in
    let n = get_or xs l.edge-index 0 in
    let here : drop l.edge-index xs ≡ n ∷ drop (l.edge-index + 1) xs = drop_more xs l.edge-index 0 (omega arith) in
    let found : option_map (λ e. e.now) c.get.result ≡ slice_get doc.edges n = item_found c.edges-known.result.now n c.get.result c.get.ensures.lookup ∙ ap (λ es. slice_get es n) c.edges-known.ensures.value in
    further c.begin_array.new.self l.out c.put_edge_id.new.out _ (id_tokens (slice_get doc.edges n)) _
    (subst (λ ts. (l.out.before ≡ c.begin_array.new.self.before) × (l.out.tokens ++ ts ≡ c.begin_array.new.self.tokens ++ tokens_of_items (items_of (edge_ids doc xs))))
    (ap (λ ys. tokens_of_items (items_of (edge_ids doc ys))) here ∙ ids_step doc n (drop (l.edge-index + 1) xs)) l.invariant)
    (subst (λ o. Adds l.out c.put_edge_id.new.out (id_tokens o)) found c.in_ok-put_edge_id.ensures)
