use Rattle.std.proofs.Common.{◌≡◌, ◌+◌, ◌<◌, ◌∷◌, length, drop, get_or, sym, ap, ◌∙◌, arith, if◌then◌else◌, Some}
use Rattle.std.proofs.lemmas.List.{drop_more}
use Rattle.elk_doc.specs.declared.document.Edge.{Edge}
use Rattle.elk_json.specs.Ends.{is_same_id}
use Rattle.elk_json.specs.Keys.{key_id}
use Rattle.elk_write.specs.Reading.{first_number}
use Rattle.elk_write.proofs.levels.edge_with.Goals as goal

pub loop-number-preserved : goal.loop-number-preserved
loop-number-preserved c =
    let l = c.loop-number in
    let i = l.number in
    let xs = c.args.doc.now.edges in
    let x = c.edge-item.result in
    let test = λ (e : Edge). is_same_id (key_id c.args.key.now) e.id in
    let long : length c.edges-edge-items.result.now ≡ length xs = ap (λ es. length es) c.edges-edge-items.ensures.value in
    let inside : i < length xs = omega arith in
    let here : drop i xs ≡ x ∷ drop (i + 1) xs =
    drop_more xs i x inside ∙ ap (λ y. y ∷ drop (i + 1) xs) (sym (c.edge-item.is ∙ ap (λ es. get_or es i x) c.edges-edge-items.ensures.value)) in
    l.invariant
    ∙ ap (first_number test i) here
    ∙ ap (λ b. if b then Some i else first_number test (i + 1) (drop (i + 1) xs)) (sym c.is_id.ensures ∙ c.if-is_id.false)
