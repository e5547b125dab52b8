use Rattle.std.proofs.Common.{subst}
use Rattle.layout_check.specs.Framed.{ArePairsApart}
use Rattle.layout_check.proofs.FrontLaws.{spaced_by_list}
use Rattle.layout_check.proofs.framed.quickly_spaced.Goals as goal

pub returns : goal.returns
returns c =
    let sorted = c.sort_by_key.new.self.items in
    λ t.
    spaced_by_list c.args.level.now.scene.now.doc.now c.args.level.now.scene.now.placed.now c.args.level.now.node c.args.level.now.options.now c.args.level.now.certificate.now c.in_ok-children.children.items sorted c.in_ok-children.ensures c.in_ok-sort_by_key.ensures.permutation
    (subst ArePairsApart c.as_slice.ensures.value (c.are_pairs_apart.ensures t))
