use Rattle.std.proofs.Common.{◌≡◌, ap, ◌∙◌, subst}
use Rattle.std.proofs.lemmas.Result.{err_from_is_err_and}
use Rattle.serde_json.specs.View.{view}
use Rattle.elk_doc.specs.Sound.{IsSound}
use Rattle.elk_json.specs.Elements.{elements}
use Rattle.elk_json.specs.Seen.{seen_list}
use Rattle.elk_write.specs.Placing.{IsGiven}
use Rattle.elk_write.proofs.Refusing.{rule_refuses, place_refuses, none_refuses}
use Rattle.elk_write.proofs.Whole.{given_fits}
use Rattle.elk_write.proofs.placing.placed_of.Goals as goal

pub returns-in_err-doc-clause-exact : goal.returns-in_err-doc-clause-exact
returns-in_err-doc-clause-exact c =
    let p = err_from_is_err_and c.from_residual.result c.from_residual.ensures.1 in
    rw (p.1, p.2) (rule_refuses (view c.args.value.now) _ c.in_err-doc.ensures)

pub returns-in_err-placed-clause-exact : goal.returns-in_err-placed-clause-exact
returns-in_err-placed-clause-exact c =
    let p = err_from_is_err_and c.from_residual-in_err-placed.result c.from_residual-in_err-placed.ensures.1 in
    let d = view c.args.value.now in
    let all : seen_list c.as_slice.result.now ≡ elements d = ap seen_list c.as_slice.ensures.value ∙ c.in_ok-elements.ensures in
    rw (p.1, p.2) (place_refuses c.in_ok-doc.doc (seen_list c.as_slice.result.now) d _ c.in_ok-doc.ensures.0 c.in_ok-doc.ensures.1 all c.in_err-placed.ensures)

pub returns-clause-exact : goal.returns-clause-exact
returns-clause-exact c =
    let d = view c.args.value.now in
    let all : seen_list c.as_slice.result.now ≡ elements d = ap seen_list c.as_slice.ensures.value ∙ c.in_ok-elements.ensures in
    none_refuses c.in_ok-doc.doc (seen_list c.as_slice.result.now) d c.in_ok-doc.ensures.0 c.in_ok-doc.ensures.1 all c.in_ok-placed.ensures.0

pub returns-clause-fits : goal.returns-clause-fits
returns-clause-fits c =
    let d = view c.args.value.now in
    let doc = c.in_ok-doc.doc in
    let is = c.in_ok-doc.ensures.1 in
    let all : seen_list c.as_slice.result.now ≡ elements d = ap seen_list c.as_slice.ensures.value ∙ c.in_ok-elements.ensures in
    let given = subst (λ es. IsGiven doc es c.in_ok-placed.placed) all c.in_ok-placed.ensures.1 in
    given_fits doc (subst IsSound c.doc.view_is c.doc.invariant) (elements d) is.nodes_are is.ports_are is.edges_are c.in_ok-placed.placed given
