use Rattle.std.proofs.Common.{◌≡◌, true, false, sym, ◌∙◌}
use Rattle.elk_doc.specs.Level.{is_loop}
use Rattle.layout_check.specs.Shapes.{oriented_end, touches}
use Rattle.layout_check.proofs.TouchLaws.{loop_touches, marks_grow, marks_stay, node_touches, port_touches}
use Rattle.layout_check.proofs.touch.touch.Goals as goal

pub returns-then-is_loop : goal.returns-then-is_loop
returns-then-is_loop c =
    let d = c.args.doc.now in
    let p = c.args.placed.now in
    let e = c.args.edge in
    let loop : is_loop d e ≡ true = sym c.is_loop.ensures ∙ c.if-is_loop.true in
    marks_stay (touches d p c.args.at_head) _ e _ (λ k. loop_touches (oriented_end d p c.args.at_head e) k (is_loop d e) loop) c.requires.marks

pub returns-in-Node : goal.returns-in-Node
returns-in-Node c =
    let d = c.args.doc.now in
    let p = c.args.placed.now in
    let e = c.args.edge in
    let end = sym c.oriented_end.ensures.value ∙ c.in-Node.is in
    marks_stay (touches d p c.args.at_head) _ e _ (λ k. node_touches (oriented_end d p c.args.at_head e) k _ (is_loop d e) end) c.requires.marks

pub returns-in-Port : goal.returns-in-Port
returns-in-Port c =
    let d = c.args.doc.now in
    let p = c.args.placed.now in
    let e = c.args.edge in
    let end = sym c.oriented_end.ensures.value ∙ c.in-Port.is in
    let straight : is_loop d e ≡ false = sym c.is_loop.ensures ∙ c.if-is_loop.false in
    marks_grow (touches d p c.args.at_head) _ e c.in-Port.port _ c.in-Port.ensures.inside (λ k. port_touches (oriented_end d p c.args.at_head e) k c.in-Port.port (is_loop d e) end straight) c.requires.marks
