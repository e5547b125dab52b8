use Rattle.std.proofs.Common.{ap, ◌∙◌, rules}
use Rattle.elk_json.specs.Document.{edge_of}
use Rattle.elk_json.specs.Members.{is_edge, has_bad_option}
use Rattle.elk_json.specs.Words.{IsWord}
use Rattle.elk_json.specs.Seen.{seen_list}
use Rattle.elk_json.proofs.BuildLaws.{none_read, made_next, made_same}
use Rattle.elk_json.proofs.build.edges_of.Goals as goal
use Rattle.elk_json.proofs.build.edges_of.Goals.{then-eq+in_ok-edge_of+in_ok-push, else-eq}

pub edge_of-requires-clause-good : goal.edge_of-requires-clause-good
edge_of-requires-clause-good c = none_read has_bad_option c.args.list.now.elements.now c.loop-element.element-index c.element-item.result c.requires.good c.loop-element-test.true c.element-item.is

pub loop-element-preserved : goal.loop-element-preserved
loop-element-preserved c =
    let es = c.args.list.now.elements.now in
    let e = c.element-item.result in
    elim c.if-eq.branch [
      | then-eq+in_ok-edge_of+in_ok-push w ↦
          made_next (edge_of (seen_list es)) is_edge (λ e. IsWord e.id) es c.loop-element.element-index e c.loop-element.edges.items c.if-eq.edges.items w.in_ok-edge_of.field-0 c.loop-element-test.true c.element-item.is c.loop-element.invariant
          (search rules) (ap (λ v. v.items) w.edges-is ∙ w.in_ok-push.ensures.items) w.in_ok-edge_of.ensures.value w.in_ok-edge_of.ensures.word
      | else-eq w ↦
          made_same (edge_of (seen_list es)) is_edge (λ e. IsWord e.id) es c.loop-element.element-index e c.loop-element.edges.items c.if-eq.edges.items c.loop-element-test.true c.element-item.is c.loop-element.invariant (search rules) (ap (λ v. v.items) w.edges-is)
    ]
