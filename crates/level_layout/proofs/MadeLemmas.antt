-- A certificate from the edges that are reversed and a solution of their network.
use Rattle.std.proofs.Common.{◌≡◌, ℕ, ◌<◌, ℤ, pos, ◌<ℤ◌, List, [], length, map, get_or, arith, sym, ap, subst, ◌∙◌, IsTrue}
use Rattle.std.specs.List.{All}
use Rattle.std.proofs.lemmas.Int.{ints}
use Rattle.std.proofs.lemmas.List.{get_or-map, length-map}
use Rattle.network_laws.specs.Layering.{layer_of, IsSolution}
use Rattle.network_parts.specs.Solved.{IsSolvedByParts}
use Rattle.level_model.specs.Conditions.{IsLevel}
use Rattle.level_model.specs.Level.{PlainLevel, is_loop}
use Rattle.level_layout.specs.Certificate.{AreReversed, IsCertificateOf, flow_at, link_flows, network}
use Rattle.level_layout.proofs.FlowLemmas.{layers_below}

low_all : (layers : List ℕ) (zs : List ℤ) (n : ℕ) → map pos layers ≡ zs → ((v : ℕ) → v < length zs → layer_of zs v <ℤ pos n) → All (λ k. k < n) layers
low_all layers zs n same low k d h =
    let long = sym (length-map layers pos) ∙ ap length same in
    let is : pos (get_or layers k d) ≡ layer_of zs k = sym (get_or-map pos layers k d (pos 0) h) ∙ ap (λ (ys : List ℤ). layer_of ys k) same in
    let below = low k (subst (λ m. k < m) long h) in
    omega (arith, ints, is, below)

pub made : (l : PlainLevel) (rs found : List ℕ) (zs : List ℤ) (layers flow flows parts : List ℕ) (total : ℕ) → IsLevel l → AreReversed l rs → IsSolution (length l.children) (network l rs) zs flow total
    → IsSolvedByParts (length l.children) (network l rs) zs flow → found ≡ rs → map pos layers ≡ zs → length flows ≡ length l.edges → ((e : ℕ) → e < length l.edges → IsTrue (is_loop l e) → flow_at flows e ≡ 0) → link_flows l flows ≡ flow → parts ≡ []
    → IsCertificateOf l (record { layers = layers; reversed = found; flow = flows; span = total; parts = parts })
made l rs found zs layers flow flows parts total level reversed s by_parts same_rs same_zs long loops same_flow none =
    record {
      reversed = subst (AreReversed l) (sym same_rs) reversed;
      layer_for_each = sym (length-map layers pos) ∙ ap length same_zs ∙ s.layer_for_each;
      low = low_all layers zs (length l.children) same_zs (layers_below l rs zs flow total level s);
      flow_for_each = long;
      loops = loops;
      solves = subst (λ (fs : List ℕ). IsSolution (length l.children) (network l found) (map pos layers) fs total) (sym same_flow)
          (subst (λ (ys : List ℤ). IsSolution (length l.children) (network l found) ys flow total) (sym same_zs)
          (subst (λ (r : List ℕ). IsSolution (length l.children) (network l r) zs flow total) (sym same_rs) s));
      by_parts = subst (λ (fs : List ℕ). IsSolvedByParts (length l.children) (network l found) (map pos layers) fs) (sym same_flow)
          (subst (λ (ys : List ℤ). IsSolvedByParts (length l.children) (network l found) ys flow) (sym same_zs)
          (subst (λ (r : List ℕ). IsSolvedByParts (length l.children) (network l r) zs flow) (sym same_rs) by_parts));
      no_parts = none;
    }
