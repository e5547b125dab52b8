use Rattle.std.proofs.Common.{◌≡◌, ◌⊎◌, inl, inr}
use Rattle.std.proofs.lemmas.Bool.{both_ways}
use Rattle.elk_doc.specs.Level.{source_node, target_node}
use Rattle.layout_check.proofs.clear.is_clear.Goals as goal

pub returns-else-is_end_node : goal.returns-else-is_end_node
returns-else-is_end_node c =
    let d = c.args.scene.now.doc.now in
    let e = c.args.edge in
    let a = c.args.child in
    let no_end : (source_node d e ≡ a) ⊎ (target_node d e ≡ a) → ⊥ = λ o. both_ways c.is_end_node.result c.if-is_end_node.false (c.is_end_node.ensures.1 o) in
    let off = c.keeps_off_outline.ensures in (
      λ t. record { foreign = λ _ _. off.0 t; own = λ o. absurd (no_end o) },
      λ k. off.1 (k.foreign (λ x. no_end (inl x)) (λ x. no_end (inr x))),
    )
