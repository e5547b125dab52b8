use Rattle.std.proofs.Common.{◌≡◌, ◌∙◌, List, ap, length, subst, sym}
use Rattle.std.proofs.lemmas.Result.{IfOk-weaker}
use Rattle.network_laws.specs.declared.network.NetEdge.{NetEdge}
use Rattle.network_laws.specs.Layering.{IsSolution}
use Rattle.network_parts.specs.Solved.{IsSolvedByParts}
use Rattle.level_model.specs.Conditions.{plain_level}
use Rattle.level_layout.specs.Certificate.{network}
use Rattle.level_layout.proofs.certificates.certificate_for.Goals as goal

pub certificate_from-requires-clause-solution : goal.certificate_from-requires-clause-solution
certificate_from-requires-clause-solution c =
    let l = plain_level c.args.level.now in
    let s = c.in_ok-solution.solution in
    let edges : c.in_ok-network.network.edges.items ≡ network l c.in_ok-reversed.reversed.items = c.in_ok-network.ensures.edges ∙ ap (network l) (sym c.in_ok-reversed.ensures) in
    subst (λ (es : List NetEdge). IsSolution (length l.children) es s.layer.items s.flow.items s.cost) edges
    (subst (λ n. IsSolution n c.in_ok-network.network.edges.items s.layer.items s.flow.items s.cost) c.in_ok-network.ensures.nodes c.in_ok-solution.ensures.solution)

pub certificate_from-requires-clause-by_parts : goal.certificate_from-requires-clause-by_parts
certificate_from-requires-clause-by_parts c =
    let l = plain_level c.args.level.now in
    let s = c.in_ok-solution.solution in
    let edges : c.in_ok-network.network.edges.items ≡ network l c.in_ok-reversed.reversed.items = c.in_ok-network.ensures.edges ∙ ap (network l) (sym c.in_ok-reversed.ensures) in
    subst (λ (es : List NetEdge). IsSolvedByParts (length l.children) es s.layer.items s.flow.items) edges
    (subst (λ n. IsSolvedByParts n c.in_ok-network.network.edges.items s.layer.items s.flow.items) c.in_ok-network.ensures.nodes c.in_ok-solution.ensures.parts)

pub returns-clause-listed : goal.returns-clause-listed
returns-clause-listed c = IfOk-weaker c.certificate_from.result _ _ (λ v same. same ∙ c.in_ok-reversed.ensures) c.certificate_from.ensures.listed
