use Rattle.std.proofs.Common.{◌≡◌, ◌+◌, ◌∷◌, drop, sym, ap, ◌∙◌, arith, subst, option_map}
use Rattle.std.specs.List.{slice_get}
use Rattle.std.proofs.lemmas.List.{drop_more}
use Rattle.serde_json.specs.View.{view, items_view}
use Rattle.elk_write.specs.Answered.{port_answer, port_answers}
use Rattle.elk_write.specs.Tokens.{tokens_of, tokens_of_items, Adds, Leaves}
use Rattle.elk_write.proofs.Found.{item_found}
use Rattle.elk_write.proofs.Leaving.{further}
use Rattle.elk_write.proofs.writing.put_ports.Goals as goal

pub loop-port-preserved : goal.loop-port-preserved
loop-port-preserved c =
    let l = c.loop-port in
    let p = c.args.placed.now in
    let xs = c.deref-port-items.result.now in
    let x = c.port-item.result in
    let first = c.begin_array.new.self in
    let all = tokens_of_items (port_answers p c.args.first (items_view xs)) in
    let left = drop (l.port-index + 1) xs in
    let here : drop l.port-index xs ≡ x ∷ left = drop_more xs l.port-index x (omega arith) ∙ ap (λ y. y ∷ left) (sym c.port-item.is) in
    let found : option_map (λ e. e.now) c.get.result ≡ slice_get p.ports l.number = item_found c.as_slice-places.result.now l.number c.get.result c.get.ensures.lookup ∙ ap (λ es. slice_get es l.number) c.as_slice-places.ensures.value in
    subst (λ n. Leaves first all c.put_port.new.out (tokens_of_items (port_answers p n (items_view left)))) (sym c.in_ok-number.ensures)
    (further first l.out c.put_port.new.out all (tokens_of (port_answer (slice_get p.ports l.number) (view x))) (tokens_of_items (port_answers p (l.number + 1) (items_view left)))
    (subst (λ ys. Leaves first all l.out (tokens_of_items (port_answers p l.number (items_view ys)))) here l.invariant)
    (subst (λ o. Adds l.out c.put_port.new.out (tokens_of (port_answer o (view x)))) found c.in_ok-put_port.ensures))
