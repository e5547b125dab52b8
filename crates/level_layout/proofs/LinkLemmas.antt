-- The links of a level are few: behind each layer but the greatest lies an edge with one gap.
use Rattle.std.proofs.Common.{◌≡◌, ◌∙◌, ◌⊎◌, inl, inr, ℕ, ◌-◌, ◌<◌, ◌≤◌, ◌^◌, eqb, ◌&&◌, Bool, pos, length, map, sym, ap, arith}
use Rattle.std.proofs.lemmas.Bool.{and_from, and_parts, eq-eqb, eqb-true, false≢true}
use Rattle.std.proofs.lemmas.Int.{ints}
use Rattle.elk_doc.specs.declared.drawing.Certificate.{Certificate}
use Rattle.elk_layers.specs.Layered.{Plain}
use Rattle.network_laws.specs.declared.network.NetEdge.{NetEdge}
use Rattle.network_laws.specs.Network.{edge_at}
use Rattle.network_laws.specs.Layering.{layer_of}
use Rattle.level_model.specs.Conditions.{IsLevel}
use Rattle.level_model.specs.Level.{PlainLevel, holds}
use Rattle.level_layout.specs.Certificate.{IsCertificateOf, network_edge, network}
use Rattle.level_layout.proofs.NetLemmas.{ends_below, is_plain, link_at}
use Rattle.layer_units.specs.Layering.{AreLayersOf, Layering, head_child, layer_in, layering, tail_child}
use Rattle.layer_units.specs.Numbered.{AreNumberedUnits, before, gaps_of, lanes_of}
use Rattle.layer_units.proofs.RunLemmas.{head_below, head_in}
use Rattle.layer_units.specs.Alike.{AreAlike}
use Rattle.level_layout.specs.Bounds.{AreFew, LinksAreFew}
use Rattle.level_layout.proofs.CountLemmas.{found_below, greatest, ones_keep_small, sum_grows}
use Rattle.level_layout.proofs.CrossingLemmas.{some_step}
use Rattle.level_layout.proofs.LayerLemmas.{head_is, layer_is, layers_from, tail_is}

module _ (l : PlainLevel) (c : Certificate) (level : IsLevel l) (is : IsCertificateOf l c) where
  abbrev s : Layering
  s = layering l c.reversed c.layers

  are : AreLayersOf l c.reversed c.layers
  are = layers_from l c level is

  abbrev low : ℕ → ℕ
  low e = layer_in c.layers (tail_child l (holds c.reversed e) e)

  abbrev high : ℕ → ℕ
  high e = layer_in c.layers (head_child l (holds c.reversed e) e)

  abbrev net : ℕ → NetEdge
  net k = edge_at (network l c.reversed) k

  -- an edge that leads from layer j to the next one
  abbrev is_step : ℕ → ℕ → Bool
  is_step j e = eqb (low e) j && eqb (gaps_of s e) 1

  tail_layer : (k e : ℕ) → net k ≡ network_edge l c.reversed e → layer_of (map pos c.layers) (net k).tail ≡ pos (low e)
  tail_layer k e same =
      ap (λ (x : NetEdge). layer_of (map pos c.layers) x.tail) same ∙ layer_is c.layers (network_edge l c.reversed e).tail ∙ ap (λ v. pos (layer_in c.layers v)) (tail_is l c.reversed e)

  head_layer : (k e : ℕ) → net k ≡ network_edge l c.reversed e → layer_of (map pos c.layers) (net k).head ≡ pos (high e)
  head_layer k e same =
      ap (λ (x : NetEdge). layer_of (map pos c.layers) x.head) same ∙ layer_is c.layers (network_edge l c.reversed e).head ∙ ap (λ v. pos (layer_in c.layers v)) (head_is l c.reversed e)

  -- below the layer of an edge's head there is such an edge
  step_there : (j d : ℕ) → d < length l.edges → j < high d → (e : ℕ) × (e < length l.edges) × (low e ≡ j) × (gaps_of s e ≡ 1)
  step_there j d inside less =
      elim (found_below (is_step j) (length l.edges)) [
        | inl found ↦ let both = and_parts (eqb (low found.0) j) (eqb (gaps_of s found.0) 1) found.2 in
            (found.0, found.1, eqb-true (low found.0) j both.0, eqb-true (gaps_of s found.0) 1 both.1)
        | inr none ↦
            let top = layer_is c.layers (head_child l (holds c.reversed d) d) in
            absurd (some_step (length l.children) (network l c.reversed) (map pos c.layers) _ _ j (ends_below l c.reversed level) (is_plain l c.reversed level) is.solves
            (head_child l (holds c.reversed d) d) (head_below s level are d inside) (omega (arith, ints, top, less))
            (λ k h t u.
            let x = link_at l c.reversed k h in
            let a = tail_layer k x.edge x.is in
            let b = head_layer k x.edge x.is in
            let from : low x.edge ≡ j = omega (arith, ints, t, a) in
            let one : gaps_of s x.edge ≡ 1 = omega (arith, ints, t, u, a, b) in
            false≢true (sym (none x.edge x.of_level) ∙ and_from (eqb (low x.edge) j) (eqb (gaps_of s x.edge) 1) (eq-eqb (low x.edge) j from) (eq-eqb (gaps_of s x.edge) 1 one))))
      ]

  few_gaps_all : before (gaps_of s) (length l.edges) ≤ 2 ^ 21 - 2048
  few_gaps_all =
      let top = greatest high (length l.edges) in
      ones_keep_small (gaps_of s) low (length l.edges) top.most level.few_edges
      (most_small top.most top.taken)
      (λ e h. let b = top.bound e h in omega (arith, b))
      (λ j h. steps_below j top.most top.taken h)
    where
      most_small : (x : ℕ) → (x ≡ 0) ⊎ ((e : ℕ) × (e < length l.edges) × (high e ≡ x)) → x ≤ 2047
      most_small x (inl none) = omega (arith, none)
      most_small x (inr t) = let b = are.below (head_child l (holds c.reversed t.0) t.0) (head_in s level are t.0 t.1) in let e = t.2 in omega (arith, b, e)

      steps_below : (j x : ℕ) → (x ≡ 0) ⊎ ((e : ℕ) × (e < length l.edges) × (high e ≡ x)) → j < x → (e : ℕ) × (e < length l.edges) × (low e ≡ j) × (gaps_of s e ≡ 1)
      steps_below j x (inl none) h = absurd (omega (arith, none, h))
      steps_below j x (inr t) h = step_there j t.0 t.1 (let e = t.2 in omega (arith, e, h))

  few : (blank v : Plain) → AreNumberedUnits s blank → AreAlike blank v → AreFew v
  few blank v n alike =
      let gaps = few_gaps_all in
      let lanes = sum_grows (lanes_of s) (gaps_of s) (length l.edges) (λ e h. omega arith) in
      let units = n.as_many_units in
      let links = n.as_many_links in
      let children = level.few_children in
      let same_units = alike.as_many_units in
      let same_links = alike.as_many_links in
      record { units = omega (arith, gaps, lanes, units, same_units, children); links = omega (arith, gaps, links, same_links) }

pub links_few : LinksAreFew
links_few l c blank v level is n alike = few l c level is blank v n alike
