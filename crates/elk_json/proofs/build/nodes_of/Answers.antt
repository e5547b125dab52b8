use Rattle.std.proofs.Common.{ap, ◌∙◌, rules}
use Rattle.elk_json.specs.Document.{node_of}
use Rattle.elk_json.specs.Members.{is_node, has_bad_option}
use Rattle.elk_json.specs.Ranges.{is_out_of_range}
use Rattle.elk_json.specs.Words.{IsWordIfAny}
use Rattle.elk_json.specs.Seen.{seen_list}
use Rattle.elk_json.proofs.BuildLaws.{none_read, made_next, made_same}
use Rattle.elk_json.proofs.build.nodes_of.Goals as goal
use Rattle.elk_json.proofs.build.nodes_of.Goals.{then-eq+in_ok-node_of+in_ok-push, else-eq}

pub node_of-requires-clause-in_range : goal.node_of-requires-clause-in_range
node_of-requires-clause-in_range c = none_read is_out_of_range c.args.list.now.elements.now c.loop-element.element-index c.element-item.result c.requires.in_range c.loop-element-test.true c.element-item.is

pub node_of-requires-clause-good : goal.node_of-requires-clause-good
node_of-requires-clause-good c = none_read has_bad_option c.args.list.now.elements.now c.loop-element.element-index c.element-item.result c.requires.good c.loop-element-test.true c.element-item.is

pub loop-element-preserved : goal.loop-element-preserved
loop-element-preserved c =
    let es = c.args.list.now.elements.now in
    let e = c.element-item.result in
    elim c.if-eq.branch [
      | then-eq+in_ok-node_of+in_ok-push w ↦
          made_next (node_of (seen_list es)) is_node (λ n. IsWordIfAny n.id) es c.loop-element.element-index e c.loop-element.nodes.items c.if-eq.nodes.items w.in_ok-node_of.field-0 c.loop-element-test.true c.element-item.is c.loop-element.invariant
          (search rules) (ap (λ v. v.items) w.nodes-is ∙ w.in_ok-push.ensures.items) w.in_ok-node_of.ensures.value w.in_ok-node_of.ensures.word
      | else-eq w ↦
          made_same (node_of (seen_list es)) is_node (λ n. IsWordIfAny n.id) es c.loop-element.element-index e c.loop-element.nodes.items c.if-eq.nodes.items c.loop-element-test.true c.element-item.is c.loop-element.invariant (search rules) (ap (λ v. v.items) w.nodes-is)
    ]
