use Rattle.std.proofs.Common.{ap, ◌∙◌, rules}
use Rattle.elk_json.specs.Document.{port_of}
use Rattle.elk_json.specs.Members.{is_port, has_bad_option}
use Rattle.elk_json.specs.Ranges.{is_out_of_range}
use Rattle.elk_json.specs.Words.{IsWord}
use Rattle.elk_json.specs.Seen.{seen_list}
use Rattle.elk_json.proofs.BuildLaws.{none_read, made_next, made_same}
use Rattle.elk_json.proofs.build.ports_of.Goals as goal
use Rattle.elk_json.proofs.build.ports_of.Goals.{then-eq+in_ok-port_of+in_ok-push, else-eq}

pub port_of-requires-clause-in_range : goal.port_of-requires-clause-in_range
port_of-requires-clause-in_range c = none_read is_out_of_range c.args.list.now.elements.now c.loop-element.element-index c.element-item.result c.requires.in_range c.loop-element-test.true c.element-item.is

pub port_of-requires-clause-good : goal.port_of-requires-clause-good
port_of-requires-clause-good c = none_read has_bad_option c.args.list.now.elements.now c.loop-element.element-index c.element-item.result c.requires.good c.loop-element-test.true c.element-item.is

pub loop-element-preserved : goal.loop-element-preserved
loop-element-preserved c =
    let es = c.args.list.now.elements.now in
    let e = c.element-item.result in
    elim c.if-eq.branch [
      | then-eq+in_ok-port_of+in_ok-push w ↦
          made_next (port_of (seen_list es)) is_port (λ p. IsWord p.id) es c.loop-element.element-index e c.loop-element.ports.items c.if-eq.ports.items w.in_ok-port_of.field-0 c.loop-element-test.true c.element-item.is c.loop-element.invariant
          (search rules) (ap (λ v. v.items) w.ports-is ∙ w.in_ok-push.ensures.items) w.in_ok-port_of.ensures.value w.in_ok-port_of.ensures.word
      | else-eq w ↦
          made_same (port_of (seen_list es)) is_port (λ p. IsWord p.id) es c.loop-element.element-index e c.loop-element.ports.items c.if-eq.ports.items c.loop-element-test.true c.element-item.is c.loop-element.invariant (search rules) (ap (λ v. v.items) w.ports-is)
    ]
