use Rattle.std.proofs.Common.{sym, ◌∙◌}
use Rattle.elk_doc.specs.Drawing.{flow_in}
use Rattle.layout_check.proofs.SumLaws.{sum_of_level}
use Rattle.layout_check.proofs.flow.fault_if.Goals as goal

pub returns-then-sum_of-from : goal.returns-then-sum_of-from
returns-then-sum_of-from c =
    let sum = sum_of_level c.args.scene.now.doc.now c.args.node c.args.flows.now (flow_in c.args.scene.now.doc.now c.args.node c.args.certificate.now) c.requires.flows in
    (c.lone.ensures, λ f. c.if-sum_of-from.true (c.sum_of.ensures ∙ sum ∙ f.sum ∙ sym c.from.ensures))

pub returns : goal.returns
returns c =
    let sum = sum_of_level c.args.scene.now.doc.now c.args.node c.args.flows.now (flow_in c.args.scene.now.doc.now c.args.node c.args.certificate.now) c.requires.flows in
    let idle = c.are_idle.ensures.0 c.if-not-are_idle.false in
    record {
      loops = λ e h l. idle e h l;
      balance = λ a h. c.requires.balanced.0 c.if-not-balanced.false a h;
      sum = sym sum ∙ sym c.sum_of.ensures ∙ c.if-sum_of-from.false ∙ c.from.ensures;
    }
