use Rattle.std.proofs.Common.{◌↔◌, ℕ, IsTrue, pos, ◌+ℤ◌, ◌≤ℤ◌, subst, ◌∙◌, rules}
use Rattle.elk_doc.specs.Drawing.{tail_node, layer_in}
use Rattle.elk_doc.specs.Level.{IsEdge}
use Rattle.layout_check.proofs.SumLaws.{head_layer, tail_layer}
use Rattle.layout_check.proofs.layering.edge_rises.Goals as goal

pub returns : goal.returns
returns c =
    let d = c.args.scene.now.doc.now in
    let p = c.args.scene.now.placed.now in
    let n = c.args.node in
    let e = c.args.edge in
    let x = c.args._certificate.now in
    let r = c.requires in
    let t = c.layer_of.ensures ∙ tail_layer d p n x c.args.scene.now.tails.now c.args.layers.now e r.sound r.edge_in r.scene.tails r.layers in
    let h = c.layer_of-2.ensures ∙ head_layer d p n x c.args.scene.now.heads.now c.args.layers.now e r.sound r.edge_in r.scene.heads r.layers in
    let P : ℕ → Type 0 = λ k. IsTrue c.is_before.result ↔ ((pos k +ℤ pos 1) ≤ℤ pos c.layer_of-2.result) in
    let Q : ℕ → Type 0 = λ k. IsTrue c.is_before.result ↔ ((pos (layer_in d n x (tail_node d p e)) +ℤ pos 1) ≤ℤ pos k) in
    let says = subst Q h (subst P t c.is_before.ensures) in
    let edge : IsEdge d n e = record { edge_in = r.edge_in; edge = search rules } in
    (λ k _ _. says.0 k, λ k. says.1 (k edge (search rules)))
