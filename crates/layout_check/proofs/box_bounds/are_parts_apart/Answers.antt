use Rattle.layout_check.specs.BoxBounds.{OutlineHeld}
use Rattle.std.proofs.Common.{ℕ}
use Rattle.layout_check.proofs.BoxBoundsLaws.{all_apart}
use Rattle.layout_check.proofs.box_bounds.are_parts_apart.Goals as goal

pub returns : goal.returns
returns c =
    let d = c.args.level.now.scene.now.doc.now in
    let p = c.args.level.now.scene.now.placed.now in
    let n = c.args.level.now.node in
    let o = c.args.level.now.options.now in
    let x = c.args.level.now.certificate.now in
    let first = c.add_children.ensures c.if-not-add_children.false in
    let outs : (a : ℕ) → OutlineHeld d p n o x c.add_routes.new.bounds a = λ a child. c.add_routes.ensures.kept _ _ (first a child) in
    let routes = c.add_routes.ensures.held c.if-not-add_routes.false in
    λ t. all_apart d p n o x c.add_routes.new.bounds outs routes (c.are_apart.ensures t)
