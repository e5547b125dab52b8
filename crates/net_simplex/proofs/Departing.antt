-- The lowest-numbered tree edge of negative cut value, looked for node by node.
use Rattle.std.proofs.Common.{◌≡◌, ◌≢◌, ℕ, ◌+◌, ◌<◌, ◌≤◌, ◌&&◌, cond, Bool, true, false, ltb, ℤ, pos, List, length, get_or, Option, Some, None, arith, refl, sym, ap, subst, ◌∙◌, inl, inr}
use Rattle.std.specs.Prelude.{int_lt}
use Rattle.std.proofs.lemmas.Bool.{cases_eq, cases_Bool, ltb-true, ltb-false}
use Rattle.network_laws.specs.declared.network.NetEdge.{NetEdge}
use Rattle.network_laws.specs.Network.{EndsBelow}
use Rattle.network_laws.specs.Layering.{layer_of}
use Rattle.network_laws.specs.Linked.{is_marked}
use Rattle.net_simplex.specs.Tree.{IsSpanningTree}
use Rattle.net_simplex.specs.Pivots.{least_of}
use Rattle.net_simplex.specs.Rooted.{IsRooted}
use Rattle.net_simplex.specs.Chosen.{lower_of, IsLowest}
use Rattle.net_simplex.proofs.Choosing.{none_chosen}
use Rattle.net_simplex.proofs.Hanging.{root_place, not_root, hung_node}
use Rattle.net_simplex.proofs.Stepping.{first_found}

module _ (nodes : ℕ) (edges : List NetEdge) (tree : List Bool) (order place parent : List ℕ) (r : IsRooted nodes edges tree order place parent) (t : IsSpanningTree nodes edges tree) (ends : EndsBelow nodes edges) (cut : List ℤ) where
  abbrev below : ℕ → Bool
  below k = int_lt (layer_of cut k) (pos 0)

  abbrev test : ℕ → Bool
  test k = is_marked tree k && below k

  pub lowest_start : IsLowest tree parent cut 1 None
  lowest_start = λ v a b. absurd (omega (arith, a, b))

  pub there : (v : ℕ) → 0 < v → v < nodes → (get_or parent v 0 < length tree) × (is_marked tree (get_or parent v 0) ≡ true)
  there v a b =
      let h = r.hangs v b refl (not_root nodes edges tree order place parent r v b (λ e. omega (arith, e, a))) in
      let n = t.mark_for_each in
      let l = h.is_there in
      (omega (arith, n, l), h.has_mark)

  module _ (i : ℕ) (some : 0 < i) (li : i < nodes) where
    abbrev k : ℕ
    k = get_or parent i 0

    same_or_before : (v : ℕ) → v < i + 1 → v ≢ i → v < i
    same_or_before v l ne = omega (arith, l, ne)

    passed_over : (best : Option ℕ) → below k ≡ false → IsLowest tree parent cut i best → IsLowest tree parent cut (i + 1) best
    passed_over None f s = λ v a b. elim (cases_eq v i) [
      | inl e ↦ ap (λ x. below (get_or parent x 0)) e ∙ f
      | inr ne ↦ s v a (same_or_before v b ne)
    ]
    passed_over (Some b) f s = (
      s.0,
      s.1,
      s.2,
      λ v a l m. elim (cases_eq v i) [
        | inl e ↦ let bad : true ≡ false = sym m ∙ (ap (λ x. below (get_or parent x 0)) e ∙ f) in absurd cc
        | inr ne ↦ s.3 v a (same_or_before v l ne) m
      ],
    )

    taken : (best : Option ℕ) → below k ≡ true → IsLowest tree parent cut i best → IsLowest tree parent cut (i + 1) (lower_of best k true)
    taken None y s = (
      (there i some li).0,
      (there i some li).1,
      y,
      λ v a l m. elim (cases_eq v i) [
        | inl e ↦ let q = ap (λ x. get_or parent x 0) e in omega (arith, q)
        | inr ne ↦ let bad : true ≡ false = sym m ∙ s v a (same_or_before v l ne) in absurd cc
      ],
    )
    taken (Some b) y s = elim (cases_Bool (ltb k b)) [
      | inl q ↦
          let less = ltb-true k b q in
          subst (λ o. IsLowest tree parent cut (i + 1) o) (sym (ap (λ z. cond z (Some k) (Some b)) q)) (
            (there i some li).0,
            (there i some li).1,
            y,
            λ v a l m. elim (cases_eq v i) [
              | inl e ↦ let z = ap (λ x. get_or parent x 0) e in omega (arith, z)
              | inr ne ↦ let z = s.3 v a (same_or_before v l ne) m in omega (arith, z, less)
            ],
          )
      | inr q ↦
          let more = ltb-false k b q in
          subst (λ o. IsLowest tree parent cut (i + 1) o) (sym (ap (λ z. cond z (Some k) (Some b)) q)) (
            s.0,
            s.1,
            s.2,
            λ v a l m. elim (cases_eq v i) [
              | inl e ↦ let z = ap (λ x. get_or parent x 0) e in omega (arith, z, more)
              | inr ne ↦ s.3 v a (same_or_before v l ne) m
            ],
          )
    ]

    pub lowest_more : (best : Option ℕ) → IsLowest tree parent cut i best → IsLowest tree parent cut (i + 1) (lower_of best k (below k))
    lowest_more best s = elim (cases_Bool (below k)) [
      | inl y ↦ subst (λ z. IsLowest tree parent cut (i + 1) (lower_of best k z)) (sym y) (taken best y s)
      | inr f ↦ subst (λ z. IsLowest tree parent cut (i + 1) (lower_of best k z)) (sym f) (passed_over best f s)
    ]

  -- each tree edge is looked at
  seen : (P : ℕ → Type 0) → ((v : ℕ) → 0 < v → v < nodes → P (get_or parent v 0)) → (k : ℕ) → k < length edges → is_marked tree k ≡ true → P k
  seen P h k lk mk =
      let w = hung_node nodes edges tree order place parent r t ends k lk mk in
      let pw = w.2 in
      let some : 0 < w.0 = elim (cases_eq w.0 0) [
        | inl e ↦ let a = ap (λ x. get_or place x 0) e in let z = root_place nodes edges tree order place parent r in absurd (omega (arith, a, z, pw))
        | inr ne ↦ omega (arith, ne)
      ] in
      subst P w.3 (h w.0 some w.1)

  off : (k : ℕ) → (is_marked tree k ≡ true → below k ≡ false) → test k ≡ false
  off k h = elim (cases_Bool (is_marked tree k)) [
    | inl y ↦ ap (λ z. z && below k) y ∙ h y
    | inr f ↦ ap (λ z. z && below k) f
  ]

  pub lowest_end : (i : ℕ) (best : Option ℕ) → nodes ≤ i → IsLowest tree parent cut i best → best ≡ least_of test (λ k. 0) (length tree)
  lowest_end i None all s =
      sym (none_chosen test (λ k. 0) (length tree) (λ k l. off k (seen (λ k. below k ≡ false) (λ v a b. s v a (omega (arith, b, all))) k (let n = t.mark_for_each in omega (arith, n, l)))))
  lowest_end i (Some b) all s =
      sym (first_found test (length tree) b s.0 (ap (λ z. z && below b) s.1 ∙ s.2)
      (λ j l. off j (λ mj. elim (cases_Bool (below j)) [
        | inr f ↦ f
        | inl y ↦
            let le = seen (λ k. below k ≡ true → b ≤ k) (λ v a lv m. s.3 v a (omega (arith, lv, all)) m) j (let n = t.mark_for_each in let lb = s.0 in omega (arith, n, l, lb)) mj y in
            absurd (omega (arith, le, l))
      ])))
