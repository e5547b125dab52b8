-- The way between two nodes of a tree is passed edge by edge.
use Rattle.std.proofs.Common.{◌≡◌, ◌≢◌, ℕ, ◌+◌, ◌<◌, ◌≤◌, ◌^◌, eqb, eq-eqb, cond, Bool, true, false, ◌⊎◌, ℤ, pos, ◌+ℤ◌, ◌-ℤ◌, List, length, set, get_or, arith, refl, sym, ap, subst, ◌∙◌, inl, inr}
use Rattle.std.proofs.lemmas.Int.{ints}
use Rattle.std.proofs.lemmas.Bool.{cases_eq}
use Rattle.std.proofs.lemmas.List.{get_or-set_same, get_or-set_other, length-set}
use Rattle.network_laws.specs.declared.network.NetEdge.{NetEdge}
use Rattle.network_laws.specs.Network.{edge_at, EndsBelow}
use Rattle.network_laws.specs.Layering.{layer_of}
use Rattle.network_laws.specs.Linked.{is_marked}
use Rattle.net_simplex.specs.Tree.{IsSpanningTree, IsCut, tail_part}
use Rattle.net_simplex.specs.Rooted.{beyond, above, HangsBy, IsRooted, all_held}
use Rattle.net_simplex.specs.Cuts.{size_of}
use Rattle.net_simplex.specs.Changed.{gained, passed_by, passed, CanPass, ArePassed}
use Rattle.net_simplex.proofs.Cutting.{tail_parts_cut}
use Rattle.net_simplex.proofs.Lifting.{size_le, size_ge, size_within}
use Rattle.net_simplex.proofs.Hanging.{ne_eqb, same_place, above_there, across, from_tail, from_head, parent_once}

-- the upper end of an edge is on the other side of its cut
pass_gains : (inside : ℕ → Bool) (e : NetEdge) (v : ℕ) (by : ℤ) → inside e.tail ≡ true → inside e.head ≡ false → ((e.tail ≡ v) ⊎ (e.head ≡ v)) → cond (eqb e.tail v) by (pos 0 -ℤ by) +ℤ cond (inside (beyond e v)) by (pos 0) ≡ cond (inside v) by (pos 0)
pass_gains inside e v by t h at =
    elim (cases_eq e.tail v) [
      | inl s ↦
          let a = ap (λ b. cond b by (pos 0 -ℤ by)) (eq-eqb e.tail v s) in
          let b = ap (λ b. cond b by (pos 0)) (ap inside (from_tail e v s) ∙ h) in
          let c = ap (λ b. cond b by (pos 0)) (ap inside (sym s) ∙ t) in
          omega (arith, ints, a, b, c)
      | inr ns ↦ elim at [
        | inl s ↦ absurd (ns s)
        | inr s ↦
            let a = ap (λ b. cond b by (pos 0 -ℤ by)) (ne_eqb e.tail v ns) in
            let b = ap (λ b. cond b by (pos 0)) (ap inside (from_head e v ns) ∙ t) in
            let c = ap (λ b. cond b by (pos 0)) (ap inside (sym s) ∙ h) in
            omega (arith, ints, a, b, c)
      ]
    ]

turned_if : (b : Bool) (z : ℤ) → cond b (pos 0 -ℤ z) (pos 0) +ℤ cond b z (pos 0) ≡ pos 0
turned_if true z = omega (arith, ints)
turned_if false z = omega (arith, ints)

same_if : (b b' : Bool) (z : ℤ) → b ≡ b' → cond b z (pos 0) ≡ cond b' z (pos 0)
same_if b b' z h = ap (λ x. cond x z (pos 0)) h

pub size_turned : (z : ℤ) → size_of (pos 0 -ℤ z) ≤ size_of z
size_turned z =
    let l = size_le z in
    let g = size_ge z in
    size_within (pos 0 -ℤ z) (size_of z) (omega (arith, ints, g)) (omega (arith, ints, l))

module _ (nodes : ℕ) (edges : List NetEdge) (tree : List Bool) (order place parent : List ℕ) (r : IsRooted nodes edges tree order place parent) (t : IsSpanningTree nodes edges tree) (ends : EndsBelow nodes edges) where
  -- an edge that v hangs on, and its passage
  module _ (v : ℕ) (lv : v < nodes) (late : 0 < get_or place v 0) where
    abbrev k : ℕ
    k = get_or parent v 0

    abbrev u : ℕ
    u = above edges parent v

    hung : HangsBy edges tree all_held place v k
    hung = r.hangs v lv refl late

    part_of : (j : ℕ) → j < length edges → is_marked tree j ≡ true → IsCut edges tree j (tail_part nodes edges tree j)
    part_of j lj mj = tail_parts_cut nodes edges tree j ends t lj mj

    passed_gains : (by : ℤ) (cut : List ℤ) → length cut ≡ length edges → (j : ℕ) → j < length edges → is_marked tree j ≡ true → layer_of (passed edges parent v by cut) j +ℤ cond (tail_part nodes edges tree j u) by (pos 0) ≡ layer_of cut j +ℤ cond (tail_part nodes edges tree j v) by (pos 0)
    passed_gains by cut n j lj mj =
        let q = tail_part nodes edges tree j in
        let z = passed_by (edge_at edges k) v by (layer_of cut k) in
        elim (cases_eq j k) [
          | inl e ↦
              let c = part_of k hung.is_there hung.has_mark in
              let g = pass_gains (tail_part nodes edges tree k) (edge_at edges k) v by c.tail_in c.head_out hung.at_end in
              let a = get_or-set_same cut k z (pos 0) (let l = hung.is_there in omega (arith, l, n)) in
              subst (λ m. layer_of (set cut k z) m +ℤ cond (tail_part nodes edges tree m u) by (pos 0) ≡ layer_of cut m +ℤ cond (tail_part nodes edges tree m v) by (pos 0)) (sym e) (omega (arith, ints, a, g))
          | inr ne ↦
              let a = get_or-set_other cut k j z (pos 0) ne in
              let s = across q (edge_at edges k) v hung.at_end ((part_of j lj mj).others k hung.is_there hung.has_mark (λ x. ne (sym x))) in
              let b = same_if (q v) (q u) by s in
              omega (arith, ints, a, b)
        ]

    passed_still : (by : ℤ) (cut : List ℤ) (w : ℕ) → w < nodes → 0 < get_or place w 0 → get_or place w 0 < get_or place v 0 → layer_of (passed edges parent v by cut) (get_or parent w 0) ≡ layer_of cut (get_or parent w 0)
    passed_still by cut w lw pw less =
        get_or-set_other cut k (get_or parent w 0) (passed_by (edge_at edges k) v by (layer_of cut k)) (pos 0)
        (λ e. let s = parent_once nodes edges tree order place parent r w v lw lv pw late e in let a = ap (λ x. get_or place x 0) s in omega (arith, a, less))

  module _ (a b : ℕ) (by : ℤ) (cut : List ℤ) where
    pub pass_start : a < nodes → b < nodes → length cut ≡ length edges → ArePassed nodes edges tree place parent a b by cut a b cut
    pass_start la lb n = record {
      cut_each = n;
      from_there = la;
      to_there = lb;
      changed = λ k l m. refl;
      still = λ v l p o. refl;
    }

    module _ (fits : (k : ℕ) → k < length edges → is_marked tree k ≡ true → size_of (layer_of cut k) + size_of by < 2 ^ 63) (from to : ℕ) (cut' : List ℤ) (s : ArePassed nodes edges tree place parent a b by cut from to cut') where
      fits_at : (v : ℕ) → v < nodes → 0 < get_or place v 0 → ((get_or place v 0 ≤ get_or place from 0) ⊎ (get_or place v 0 ≤ get_or place to 0)) → (get_or parent v 0 < length edges) × (size_of (layer_of cut' (get_or parent v 0)) + size_of by < 2 ^ 63)
      fits_at v lv late o =
          let h = r.hangs v lv refl late in
          let f = fits (get_or parent v 0) h.is_there h.has_mark in
          let e = ap size_of (s.still v lv late o) in
          (h.is_there, omega (arith, f, e))

      -- the later one is `from`
      module _ (later : get_or place to 0 < get_or place from 0) where
        from_late : 0 < get_or place from 0
        from_late = omega (arith, later)

        pub from_can : CanPass edges parent from by cut'
        from_can = fits_at from s.from_there from_late (inl (omega arith))

        pub from_earlier : get_or place (above edges parent from) 0 < get_or place from 0
        from_earlier = (r.hangs from s.from_there refl from_late).earlier

        pub from_passed : ArePassed nodes edges tree place parent a b by cut (above edges parent from) to (passed edges parent from by cut')
        from_passed = record {
          cut_each = length-set cut' (get_or parent from 0) (passed_by (edge_at edges (get_or parent from 0)) from by (layer_of cut' (get_or parent from 0))) ∙ s.cut_each;
          from_there = above_there nodes edges tree order place parent r from ends s.from_there from_late;
          to_there = s.to_there;
          changed = λ k l m.
              let g = passed_gains from s.from_there from_late by cut' s.cut_each k l m in
              let c = s.changed k l m in
              omega (arith, ints, g, c);
          still = λ v l p o.
              let less : get_or place v 0 < get_or place from 0 = elim o [
                | inl x ↦ let y = from_earlier in omega (arith, x, y)
                | inr x ↦ omega (arith, x, later)
              ] in
              passed_still from s.from_there from_late by cut' v l p less ∙ s.still v l p (inl (omega (arith, less)));
        }

      -- the later one is `to`
      module _ (no_later : get_or place from 0 ≤ get_or place to 0) (ne : from ≢ to) where
        to_later : get_or place from 0 < get_or place to 0
        to_later =
            elim (cases_eq (get_or place from 0) (get_or place to 0)) [
              | inl e ↦ absurd (ne (same_place nodes edges tree order place parent r from to s.from_there s.to_there e))
              | inr n ↦ omega (arith, no_later, n)
            ]

        to_late : 0 < get_or place to 0
        to_late = let l = to_later in omega (arith, l)

        abbrev back : ℤ
        back = pos 0 -ℤ by

        pub to_can : CanPass edges parent to back cut'
        to_can =
            let f = fits_at to s.to_there to_late (inr (omega arith)) in
            let g = f.1 in
            let e = size_turned by in
            (f.0, omega (arith, g, e))

        pub to_earlier : get_or place (above edges parent to) 0 < get_or place to 0
        to_earlier = (r.hangs to s.to_there refl to_late).earlier

        pub to_passed : ArePassed nodes edges tree place parent a b by cut from (above edges parent to) (passed edges parent to back cut')
        to_passed = record {
          cut_each = length-set cut' (get_or parent to 0) (passed_by (edge_at edges (get_or parent to 0)) to back (layer_of cut' (get_or parent to 0))) ∙ s.cut_each;
          from_there = s.from_there;
          to_there = above_there nodes edges tree order place parent r to ends s.to_there to_late;
          changed = λ k l m.
              let q = tail_part nodes edges tree k in
              let g = passed_gains to s.to_there to_late back cut' s.cut_each k l m in
              let c = s.changed k l m in
              let x = turned_if (q to) by in
              let y = turned_if (q (above edges parent to)) by in
              omega (arith, ints, g, c, x, y);
          still = λ v l p o.
              let less : get_or place v 0 < get_or place to 0 = elim o [
                | inl x ↦ let y = to_later in omega (arith, x, y)
                | inr x ↦ let y = to_earlier in omega (arith, x, y)
              ] in
              passed_still to s.to_there to_late back cut' v l p less ∙ s.still v l p (inr (omega (arith, less)));
        }

      -- both have met
      pub pass_end : from ≡ to → (k : ℕ) → k < length edges → is_marked tree k ≡ true → layer_of cut' k ≡ layer_of cut k +ℤ gained (tail_part nodes edges tree k) a b by
      pass_end e k l m =
          let c = s.changed k l m in
          let x = ap (λ z. cond (tail_part nodes edges tree k z) by (pos 0)) e in
          omega (arith, ints, c, x)
