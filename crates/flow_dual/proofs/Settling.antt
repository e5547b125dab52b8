-- One node after another is raised for good; the layers as they stand raised never change.
use Rattle.std.specs.Prelude.{FitsSigned}
use Rattle.std.proofs.Common.{w64, rules, ◌<ℤ◌, ◌≡◌, ◌≢◌, ℕ, ◌+◌, ◌-◌, ◌^◌, ◌<◌, ◌≤◌, Bool, true, false, ℤ, pos, ◌+ℤ◌, ◌≤ℤ◌, List, length, get_or, set, arith, refl, sym, ap, subst, ◌∙◌, inl, inr}
use Rattle.std.specs.List.{Contains}
use Rattle.std.proofs.lemmas.Int.{ints}
use Rattle.std.proofs.lemmas.Bool.{cases_eq, cases_Bool}
use Rattle.std.proofs.lemmas.List.{get_or-set_same, get_or-set_other, get_or_default, ext_get_or, length-set}
use Rattle.network_laws.specs.Layering.{layer_of}
use Rattle.flow_dual.specs.declared.Label.{Label}
use Rattle.flow_dual.specs.State.{marked}
use Rattle.flow_dual.specs.Labels.{label_at}
use Rattle.flow_dual.specs.Searching.{IsRisen, IsSettled}

clash : {P : Type 0} (b : Bool) → b ≡ true → b ≡ false → P
clash b t f = let bad : true ≡ false = sym t ∙ f in absurd cc

pub fits_from : (z : ℤ) (d now : ℕ) → pos 0 ≤ℤ z → (z +ℤ pos now) ≤ℤ (pos d +ℤ pos (2 ^ 63 - 1)) → d ≤ now → FitsSigned w64 z
fits_from z d now low high early =
    let a : z <ℤ pos (2 ^ 63) = omega (arith, ints, high, early) in
    let b : pos 0 ≤ℤ z = low in
    search rules

pub settle_start : (layers : List ℤ) (reached : List Bool) (labels : List Label) (dist : List ℕ) (now : ℕ) (order : List ℕ) → IsSettled layers reached labels dist now order 0 layers reached labels
settle_start layers reached labels dist now order = record {
  layer_each = refl;
  mark_each = refl;
  label_each = refl;
  same_rise = λ r s. s;
  fits = λ f. f;
  earlier = λ f. f;
  kept = λ v l m. refl;
  done = λ j l. absurd (omega (arith, l));
  still = λ v m. m;
  no_depth = λ h v m. h v m;
}

module _ (layers : List ℤ) (reached : List Bool) (labels : List Label) (dist : List ℕ) (now : ℕ) (order : List ℕ) (i : ℕ) (layers' : List ℤ) (reached' : List Bool) (labels' : List Label) (s : IsSettled layers reached labels dist now order i layers' reached' labels') where
  -- a node that is no longer reached stays as it is
  pub settle_past : marked reached' (get_or order i 0) ≡ false → IsSettled layers reached labels dist now order (i + 1) layers' reached' labels'
  settle_past out = record {
    layer_each = s.layer_each;
    mark_each = s.mark_each;
    label_each = s.label_each;
    same_rise = s.same_rise;
    fits = s.fits;
    earlier = s.earlier;
    kept = s.kept;
    done = λ j l. elim (cases_eq j i) [
      | inl e ↦ subst (λ x. marked reached' (get_or order x 0) ≡ false) (sym e) out
      | inr ne ↦ s.done j (omega (arith, l, ne))
    ];
    still = s.still;
    no_depth = s.no_depth;
  }

  module _ (v : ℕ) (z : ℤ) (is : v ≡ get_or order i 0) (there : v < length layers) (marks : length reached ≡ length layers) (names : length labels ≡ length layers) (m : marked reached' v ≡ true) (lifted : z +ℤ pos (get_or dist v 0) ≡ layer_of layers' v +ℤ pos now) where
    abbrev blank : Label
    blank = record { parent = 0; depth = 0; room = 0 }

    new_layer : layer_of (set layers' v z) v ≡ z
    new_layer = let n = s.layer_each in get_or-set_same layers' v z (pos 0) (omega (arith, n, there))

    old_layer : (u : ℕ) → u ≢ v → layer_of (set layers' v z) u ≡ layer_of layers' u
    old_layer u ne = get_or-set_other layers' v u z (pos 0) ne

    new_mark : marked (set reached' v false) v ≡ false
    new_mark = let n = s.mark_each in get_or-set_same reached' v false false (omega (arith, n, there, marks))

    old_mark : (u : ℕ) → u ≢ v → marked (set reached' v false) u ≡ marked reached' u
    old_mark u ne = get_or-set_other reached' v u false false ne

    new_label : (label_at (set labels' v blank) v).depth ≡ 0
    new_label = let n = s.label_each in ap (λ (l : Label). l.depth) (get_or-set_same labels' v blank blank (omega (arith, n, there, names)))

    old_label : (u : ℕ) → u ≢ v → label_at (set labels' v blank) u ≡ label_at labels' u
    old_label u ne = get_or-set_other labels' v u blank blank ne

    in_still : (u : ℕ) → marked (set reached' v false) u ≡ true → (u ≢ v) × (marked reached' u ≡ true)
    in_still u h =
        elim (cases_eq u v) [
          | inl e ↦ clash (marked (set reached' v false) v) (subst (λ x. marked (set reached' v false) x ≡ true) e h) new_mark
          | inr ne ↦ (ne, sym (old_mark u ne) ∙ h)
        ]

    pub settle_node : IsSettled layers reached labels dist now order (i + 1) (set layers' v z) (set reached' v false) (set labels' v blank)
    settle_node = record {
      layer_each = length-set layers' v z ∙ s.layer_each;
      mark_each = length-set reached' v false ∙ s.mark_each;
      label_each = length-set labels' v blank ∙ s.label_each;
      same_rise = λ r h. let g = s.same_rise r h in let n = s.layer_each in record {
        as_long = g.as_long ∙ sym (length-set layers' v z);
        earlier = λ u q. g.earlier u (in_still u q).1;
        within = λ u l q. let o = in_still u q in let x = g.within u (let k = length-set layers' v z in omega (arith, l, k)) o.1 in let y = old_layer u o.0 in omega (arith, ints, x, y);
        outside = λ u l q. elim (cases_eq u v) [
          | inl e ↦
              let x = g.within v (omega (arith, n, there)) m in
              let y = new_layer in
              let a = ap (layer_of r) e in
              let b = ap (layer_of (set layers' v z)) e in
              omega (arith, ints, x, y, a, b, lifted)
          | inr ne ↦ let x = g.outside u (let k = length-set layers' v z in omega (arith, l, k)) (sym (old_mark u ne) ∙ q) in let y = old_layer u ne in omega (arith, ints, x, y)
        ];
      };
      fits = λ f u l q. let o = in_still u q in let x = s.fits f u (let k = length-set layers' v z in omega (arith, l, k)) o.1 in let y = old_layer u o.0 in omega (arith, ints, x, y);
      earlier = λ f u q. s.earlier f u (in_still u q).1;
      kept = λ u l q. let o = in_still u q in old_layer u o.0 ∙ s.kept u l o.1;
      done = λ j l. elim (cases_eq (get_or order j 0) v) [
        | inl e ↦ subst (λ x. marked (set reached' v false) x ≡ false) (sym e) new_mark
        | inr ne ↦ old_mark (get_or order j 0) ne ∙ s.done j (elim (cases_eq j i) [
          | inl same ↦ absurd (ne (ap (λ x. get_or order x 0) same ∙ sym is))
          | inr other ↦ omega (arith, l, other)
        ])
      ];
      still = λ u q. elim (cases_eq u v) [
        | inl e ↦ subst (λ x. marked (set reached' v false) x ≡ false) (sym e) new_mark
        | inr ne ↦ old_mark u ne ∙ s.still u q
      ];
      no_depth = λ h u q. elim (cases_eq u v) [
        | inl e ↦ subst (λ x. (label_at (set labels' v blank) x).depth ≡ 0) (sym e) new_label
        | inr ne ↦ ap (λ (l : Label). l.depth) (old_label u ne) ∙ s.no_depth h u (sym (old_mark u ne) ∙ q)
      ];
    }

-- where every reached node is in the list, none is reached in the end, and the layers are the risen ones
module _ (layers : List ℤ) (reached : List Bool) (labels : List Label) (dist : List ℕ) (now : ℕ) (order : List ℕ) (layers' : List ℤ) (reached' : List Bool) (labels' : List Label) (s : IsSettled layers reached labels dist now order (length order) layers' reached' labels') (listed : (v : ℕ) → marked reached v ≡ true → Contains order v) where
  pub all_out : (v : ℕ) → marked reached' v ≡ false
  all_out v =
      elim (cases_Bool (marked reached v)) [
        | inl m ↦
            let c = listed v m in
            let at : get_or order c.0 0 ≡ v = get_or_default order c.0 0 v c.1 ∙ c.2 in
            subst (λ x. marked reached' x ≡ false) at (s.done c.0 c.1)
        | inr m ↦ s.still v m
      ]

  pub settled_is : (risen : List ℤ) → IsRisen layers (marked reached) dist now risen → layers' ≡ risen
  settled_is risen h =
      let g = s.same_rise risen h in
      ext_get_or (pos 0) layers' risen (sym g.as_long) (λ v l. sym (g.outside v l (all_out v)))
