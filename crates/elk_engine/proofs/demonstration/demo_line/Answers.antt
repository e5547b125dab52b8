use Rattle.std.proofs.Common.{◌∙◌, ap₂, subst}
use Rattle.std.proofs.lemmas.Result.{IfOk-weaker}
use Rattle.elk_doc.specs.Drawn.{Drawn}
use Rattle.elk_engine.specs.Demo.{demo_text}
use Rattle.elk_engine.proofs.DemoLemmas.{demo_line as is_demo_line}
use Rattle.elk_engine.proofs.demonstration.demo_line.Goals as goal

pub returns : goal.returns
returns c =
    let placed = c.in_ok-placed.placed in
    let span = c.root_span.result in
    let drawn = subst (λ d. Drawn d placed) c.in_ok-doc.ensures c.in_ok-placed.ensures.drawn in
    IfOk-weaker c.line_of.result _ _
    (λ line is. is_demo_line c.args.leaves placed span line.items c.requires.some c.requires.few drawn c.root_span.ensures (is ∙ ap₂ (λ e w. demo_text c.args.leaves e w span) c.counts.ensures.edges c.counts.ensures.weight))
    c.line_of.ensures
