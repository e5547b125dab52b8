use Rattle.std.proofs.Common.{◌≡◌, length, ap, arith}
use Rattle.layout_check.proofs.ListLaws.{Lists-all}
use Rattle.layout_check.proofs.NameLaws.{own_are}
use Rattle.layout_check.proofs.names.own_names.Goals as goal

pub returns : goal.returns
returns c =
    let end : c.loop-node.node ≡ length c.args.doc.now.nodes = let e = ap length c.nodes-node-end.ensures.value in omega (arith, e) in
    own_are c.args.doc.now c.args._node c.loop-node.names.items (Lists-all _ c.loop-node.node _ c.loop-node.names.items end c.loop-node.invariant)
