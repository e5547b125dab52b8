-- Layers lowered by the least of their part.
use Rattle.std.proofs.Common.{◌≡◌, ◌≢◌, ℕ, ◌+◌, ◌-◌, ◌^◌, ◌<◌, ℤ, pos, ◌+ℤ◌, ◌≤ℤ◌, ◌<ℤ◌, List, length, get_or, set, arith, refl, sym, ap, subst, ◌∙◌, inl, inr}
use Rattle.std.proofs.lemmas.Bool.{cases_eq}
use Rattle.std.proofs.lemmas.Int.{ints}
use Rattle.std.proofs.lemmas.List.{get_or-set_same, get_or-set_other, length-set}
use Rattle.network_laws.specs.declared.network.NetEdge.{NetEdge}
use Rattle.network_laws.specs.Network.{edge_at, EndsBelow}
use Rattle.network_laws.specs.Layering.{layer_of, PartsBeginAtZero}
use Rattle.network_laws.specs.Parts.{ArePartNumbers}
use Rattle.network_laws.specs.Lowering.{KeepsRises, AreLeast, AreLowered}
use Rattle.network_laws.proofs.Naming.{part_edge}

-- the greatest number that a layer may have in code
abbrev pub top : ℤ
top = pos (2 ^ 63 - 1)

pub least_start : (parts : List ℕ) (layers least : List ℤ) → length least ≡ length parts → ((p : ℕ) → p < length parts → layer_of least p ≡ top) → AreLeast parts layers 0 least
least_start parts layers least n all = record {
  as_long = n;
  no_more = λ v l. absurd (omega (arith, l));
  attained = λ p l. inl (all p l);
}

module _ (parts : List ℕ) (layers least : List ℤ) (v : ℕ) (there : v < length parts) (s : AreLeast parts layers v least) where
  pub least_same : layer_of least (get_or parts v 0) ≤ℤ layer_of layers v → AreLeast parts layers (v + 1) least
  least_same le = record {
    as_long = s.as_long;
    no_more = λ u l. elim (cases_eq u v) [
      | inl e ↦ subst (λ x. layer_of least (get_or parts x 0) ≤ℤ layer_of layers x) (sym e) le
      | inr ne ↦ s.no_more u (omega (arith, l, ne))
    ];
    attained = λ p l. elim (s.attained p l) [
      | inl e ↦ inl e
      | inr t ↦ inr (t.0, (let q = t.1 in omega (arith, q)), t.2, t.3)
    ];
  }

  pub least_less : get_or parts v 0 < length parts → layer_of layers v <ℤ layer_of least (get_or parts v 0) → AreLeast parts layers (v + 1) (set least (get_or parts v 0) (layer_of layers v))
  least_less in_range less =
      let p0 = get_or parts v 0 in
      let new = set least p0 (layer_of layers v) in
      let n = s.as_long in
      let at : layer_of new p0 ≡ layer_of layers v = get_or-set_same least p0 (layer_of layers v) (pos 0) (omega (arith, n, in_range)) in
      let off : (p : ℕ) → p ≢ p0 → layer_of new p ≡ layer_of least p = λ p ne. get_or-set_other least p0 p (layer_of layers v) (pos 0) ne in
      record {
        as_long = length-set least p0 (layer_of layers v) ∙ n;
        no_more = λ u l. elim (cases_eq (get_or parts u 0) p0) [
          | inl e ↦
              let is = ap (layer_of new) e ∙ at in
              elim (cases_eq u v) [
                | inl same ↦ let q = ap (layer_of layers) same in omega (arith, ints, is, q)
                | inr ne ↦ let b = s.no_more u (omega (arith, l, ne)) in let q = ap (layer_of least) e in omega (arith, ints, is, b, q, less)
              ]
          | inr other ↦
              let is = off (get_or parts u 0) other in
              let b = s.no_more u (elim (cases_eq u v) [
                | inl same ↦ absurd (other (ap (λ x. get_or parts x 0) same))
                | inr ne ↦ omega (arith, l, ne)
              ]) in
              omega (arith, ints, is, b)
        ];
        attained = λ p l. elim (cases_eq p p0) [
          | inl e ↦ inr (v, omega arith, sym e, sym (ap (layer_of new) e ∙ at))
          | inr ne ↦ elim (s.attained p l) [
            | inl h ↦ inl (off p ne ∙ h)
            | inr t ↦ inr (t.0, (let q = t.1 in omega (arith, q)), t.2, t.3 ∙ sym (off p ne))
          ]
        ];
      }

-- where all layers are below the top, each part that has a node has its least
pub is_attained : (parts : List ℕ) (layers least : List ℤ) (n v : ℕ) → n ≡ length parts → AreLeast parts layers n least → v < n → get_or parts v 0 < length parts → layer_of layers v <ℤ top → (u : ℕ) × (u < n) × (get_or parts u 0 ≡ get_or parts v 0) × (layer_of layers u ≡ layer_of least (get_or parts v 0))
is_attained parts layers least n v is s l in_range low =
    elim (s.attained (get_or parts v 0) in_range) [
      | inl e ↦ let b = s.no_more v l in absurd (omega (arith, ints, e, b, low))
      | inr t ↦ t
    ]

pub lowered_start : (parts : List ℕ) (least layers : List ℤ) → AreLowered parts least 0 layers layers
lowered_start parts least layers = record { as_long = refl; lowered = λ v l. absurd (omega (arith, l)); kept = λ v l. refl }

pub lowered_more : (parts : List ℕ) (least old new : List ℤ) (v : ℕ) (z : ℤ) → v < length new → AreLowered parts least v old new → z +ℤ layer_of least (get_or parts v 0) ≡ layer_of new v → AreLowered parts least (v + 1) old (set new v z)
lowered_more parts least old new v z l s is = record {
  as_long = length-set new v z ∙ s.as_long;
  lowered = λ u h. elim (cases_eq u v) [
    | inl e ↦
        let at = ap (layer_of (set new v z)) e ∙ get_or-set_same new v z (pos 0) l in
        let p = ap (λ x. layer_of least (get_or parts x 0)) e in
        let o = s.kept v (omega arith) in
        let q = ap (layer_of old) e in
        omega (arith, ints, at, p, o, q, is)
    | inr ne ↦ let at = get_or-set_other new v u z (pos 0) ne in let b = s.lowered u (omega (arith, h, ne)) in omega (arith, ints, at, b)
  ];
  kept = λ u h. get_or-set_other new v u z (pos 0) (λ e. omega (arith, h, e)) ∙ s.kept u (omega (arith, h));
}

module _ (nodes : ℕ) (edges : List NetEdge) (parts : List ℕ) (least old new : List ℤ) (p : ArePartNumbers nodes edges parts) (s : AreLeast parts old (length parts) least) (d : AreLowered parts least (length parts) old new) where
  in_parts : (v : ℕ) → v < nodes → get_or parts v 0 < length parts
  in_parts v l = let n = p.number_for_each in let b = p.in_range v l in omega (arith, n, b)

  pub keeps_rises : EndsBelow nodes edges → KeepsRises edges old new
  keeps_rises ends k l =
      let e = edge_at edges k in
      let b = ends k l in
      let n = p.number_for_each in
      let same = ap (layer_of least) ((p.same_part e.tail e.head b.0 b.1).1 (part_edge edges k l)) in
      let t = d.lowered e.tail (let q = b.0 in omega (arith, n, q)) in
      let h = d.lowered e.head (let q = b.1 in omega (arith, n, q)) in
      omega (arith, ints, same, t, h)

  pub begins_at_zero : ((v : ℕ) → v < nodes → layer_of old v <ℤ top) → PartsBeginAtZero nodes edges new
  begins_at_zero low = record {
    none_below = λ v l.
        let n = p.number_for_each in
        let b = s.no_more v (omega (arith, n, l)) in
        let x = d.lowered v (omega (arith, n, l)) in
        omega (arith, ints, b, x);
    reached = λ v l.
        let n = p.number_for_each in
        let t = is_attained parts old least (length parts) v refl s (omega (arith, n, l)) (in_parts v l) (low v l) in
        let lu : t.0 < nodes = let q = t.1 in omega (arith, q, n) in
        let x = d.lowered t.0 t.1 in
        let same = ap (layer_of least) t.2 in
        let is = t.3 in
        (t.0, lu, (p.same_part t.0 v lu l).0 t.2, omega (arith, ints, x, same, is));
  }
