use Rattle.elk_doc.specs.Drawing.{section_of}
use Rattle.layout_check.specs.Bounds.{bounds_at}
use Rattle.layout_check.proofs.BoundsLaws.{routes_apart}
use Rattle.layout_check.proofs.partners.partner_holds.Goals as goal

pub returns-then-lie_apart : goal.returns-then-lie_apart
returns-then-lie_apart c =
    let xs = c.args.bounds.now in
    let p = c.args.scene.now.placed.now in
    let e = c.args.edge in
    let f = c.args.other in
    let bounds = c.requires.bounds in
    let apart = c.lie_apart.ensures c.if-lie_apart.true in
    let free = routes_apart (bounds_at xs e) (bounds_at xs f) (section_of p e) (section_of p f) (bounds.each e c.requires.edge_of.edge_in) (bounds.each f c.requires.other_in) apart in
    λ _ _ _ _ rs. absurd (free rs.i rs.i_in rs.j rs.j_in rs.piece)
