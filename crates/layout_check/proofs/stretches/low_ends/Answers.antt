use Rattle.std.proofs.Common.{◌≡◌, ◌∙◌, ℕ, ℤ, ap, arith, length, subst, SFits, rules, w64}
use Rattle.std.proofs.lemmas.Int.{to_z-of_z}
use Rattle.elk_doc.specs.Places.{outline_of}
use Rattle.layout_check.specs.Ends.{AreLowEnds, low_along}
use Rattle.layout_check.proofs.EndLaws.{each_push}
use Rattle.layout_check.proofs.stretches.low_ends.Goals as goal

pub loop-node-preserved : goal.loop-node-preserved
loop-node-preserved c =
    let P : ℕ → ℤ → Type 0 = λ i z. z ≡ low_along c.args.down (outline_of c.args.scene.now.doc.now c.args.scene.now.placed.now i) in
    let fits : SFits w64 c.low_along.result = search rules in
    each_push P c.loop-node.node c.loop-node.ends.items _ c.low_along.result c.loop-node.invariant (c.low_along.ensures ∙ ap (low_along c.args.down) c.outline_at.ensures) (rw (to_z-of_z w64 c.low_along.result fits) at c.in_ok-push.ensures.items)

pub returns : goal.returns
returns c =
    let end : c.loop-node.node ≡ length c.args.scene.now.doc.now.nodes = let e = ap length c.nodes-node-end.ensures.value in omega (arith, e) in
    subst (λ n. AreLowEnds c.args.scene.now.doc.now c.args.scene.now.placed.now c.args.down n c.loop-node.ends.items) end c.loop-node.invariant
