use Rattle.std.proofs.Common.{◌≡◌, ◌∙◌, List, ap, length, map, subst, sym, ℕ}
use Rattle.std.proofs.lemmas.Result.{IfOk-weaker}
use Rattle.network_laws.specs.declared.network.NetEdge.{NetEdge}
use Rattle.network_laws.specs.Network.{EndsBelow}
use Rattle.network_laws.specs.Parts.{ArePartNumbers}
use Rattle.level_model.specs.Conditions.{plain_level}
use Rattle.level_parts.specs.Parts.{join}
use Rattle.level_parts.proofs.PartLemmas.{are_parts, ends_below}
use Rattle.level_parts.proofs.numbering.numbers_of.Goals as goal

pub part_numbers-requires-clause-ends : goal.part_numbers-requires-clause-ends
part_numbers-requires-clause-ends c =
    let l = plain_level c.args.level.now in
    let joined : c.as_slice-2.result.now ≡ map join l.edges = c.as_slice-2.ensures.value ∙ c.in_ok-joins.ensures ∙ ap (map join) c.as_slice.ensures.value in
    subst (EndsBelow c.len.result) (sym joined) (subst (λ (n : ℕ). EndsBelow n (map join l.edges)) (sym c.len.ensures) (ends_below l c.requires))

pub returns : goal.returns
returns c =
    let l = plain_level c.args.level.now in
    let joined : c.as_slice-2.result.now ≡ map join l.edges = c.as_slice-2.ensures.value ∙ c.in_ok-joins.ensures ∙ ap (map join) c.as_slice.ensures.value in
    IfOk-weaker c.part_numbers.result _ _
    (λ v fact. are_parts l v.items (subst (λ (es : List NetEdge). ArePartNumbers (length l.children) es v.items) joined (subst (λ (n : ℕ). ArePartNumbers n c.as_slice-2.result.now v.items) c.len.ensures fact)))
    c.part_numbers.ensures
