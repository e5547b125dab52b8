use Rattle.std.proofs.Common.{◌≡◌, ◌<◌, ◌∙◌, IsTrue, List, ap, arith, length, map, pos, subst, sym, ℕ, ℤ}
use Rattle.std.proofs.lemmas.Int.{ints}
use Rattle.network_laws.specs.Layering.{layer_of}
use Rattle.level_model.specs.Conditions.{plain_level}
use Rattle.level_model.specs.Level.{is_loop}
use Rattle.level_layout.specs.Certificate.{flow_at, link_flows}
use Rattle.level_layout.proofs.FlowLemmas.{layers_below, span_low}
use Rattle.level_layout.proofs.MadeLemmas.{made}
use Rattle.level_layout.proofs.certificates.certificate_from.Goals as goal

pub layers_of-requires-clause-low : goal.layers_of-requires-clause-low
layers_of-requires-clause-low c =
    λ v h. let low = layers_below (plain_level c.args.level.now) c.args.reversed.items c.args.solution.layer.items c.args.solution.flow.items c.args.solution.cost c.requires.level c.requires.solution v (subst (λ (xs : List ℤ). v < length xs) c.as_slice.ensures.value h) in
    let same : layer_of c.as_slice.result.now v ≡ layer_of c.args.solution.layer.items v = ap (λ (xs : List ℤ). layer_of xs v) c.as_slice.ensures.value in
    let few = c.requires.level.few_children in
    omega (arith, ints, low, same, few)

pub overflow_cast-result : goal.overflow_cast-result
overflow_cast-result c =
    let low = span_low (plain_level c.args.level.now) c.args.reversed.items c.args.solution.layer.items c.args.solution.flow.items c.args.solution.cost c.requires.level c.requires.solution in
    omega (arith, low)

pub returns-clause-certificate : goal.returns-clause-certificate
returns-clause-certificate c =
    let l = plain_level c.args.level.now in
    let loops = subst (λ (fs : List ℕ). (e : ℕ) → e < length l.edges → IsTrue (is_loop l e) → flow_at fs e ≡ 0) (sym c.from_vec-3.ensures) c.in_ok-flow.ensures.loops in
    let links = ap (λ (fs : List ℕ). link_flows l fs) c.from_vec-3.ensures ∙ c.in_ok-flow.ensures.links ∙ c.as_slice-2.ensures.value in
    made l c.args.reversed.items c.from_vec-2.result c.args.solution.layer.items c.from_vec.result c.args.solution.flow.items c.from_vec-3.result c.from_vec-4.result c.args.solution.cost c.requires.level c.requires.reversed c.requires.solution c.requires.by_parts c.from_vec-2.ensures
    (ap (map pos) c.from_vec.ensures ∙ c.in_ok-layers.ensures ∙ c.as_slice.ensures.value) (ap length c.from_vec-3.ensures ∙ c.in_ok-flow.ensures.len) loops links (c.from_vec-4.ensures ∙ c.new.ensures.items)
