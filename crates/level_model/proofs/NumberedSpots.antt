-- The spots of a child are numbered by their places.
use Rattle.std.proofs.Common.{◌≡◌, inl, inr, ⊎_elim, ℕ, zero, suc, ◌+◌, ◌-◌, ◌<◌, eqb, cond, Bool, true, false, not, ◌&&◌, List, ◌++◌, map, length, get_or, refl, sym, subst, ap, ◌∙◌, arith}
use Rattle.std.proofs.lemmas.Bool.{and_parts, and_from, eqb-true, eq-eqb, cases_lt, not-true}
use Rattle.std.proofs.lemmas.List.{get_or_append_left, get_or-append_right, get_or-map, length-map, length-append}
use Rattle.std.proofs.lemmas.List.FromFn.{get_or-map-range_with_len, length-map-range_with_len}
use Rattle.std.specs.Prelude.{is_none}
use Rattle.std.specs.List.{range_with_len}
use Rattle.port_order.specs.declared.spots.Spot.{Spot}
use Rattle.port_order.specs.Child.{no_spot, spot_at}
use Rattle.port_order.specs.Conditions.{IsSpot, AreSpots}
use Rattle.level_model.specs.Level.{PlainLevel, PlainPlan, End, end_at, child_at, spoke, ends_of_edges, all_ends, end_eq, place_of_end, implicit_ends, port_spot, implicit_spot, spots}
use Rattle.level_model.proofs.Lists.{Has, map_has, append_has, range_has, below_has, has_at}
use Rattle.level_model.proofs.FirstPlaces as places
use Rattle.level_model.proofs.FirstPlaces.{Distinct, distinct_filter, distinct_at}
use Rattle.level_model.proofs.SpotLemmas.{port_is_spot, implicit_is_spot}
use Rattle.level_model.proofs.NameLemmas.{ends_edge}

pub end_eq-same : (m n : End) → end_eq m n ≡ true → m ≡ n
end_eq-same m n h =
    let q = and_parts (eqb m.edge n.edge) (cond m.at_source n.at_source (not n.at_source)) h in
    ap (λ e. end_at e m.at_source) (eqb-true m.edge n.edge q.0) ∙ ap (end_at n.edge) (one m.at_source n.at_source q.1)
  where
    one : (a b : Bool) → cond a b (not b) ≡ true → a ≡ b
    one true b h = sym h
    one false b h = sym (not-true b h)

pub end_eq-self : (n : End) → end_eq n n ≡ true
end_eq-self n = and_from (eqb n.edge n.edge) (cond n.at_source n.at_source (not n.at_source)) (eq-eqb n.edge n.edge refl) (one n.at_source)
  where
    one : (b : Bool) → cond b b (not b) ≡ true
    one true = refl
    one false = refl

pub end_holds : (ns : List End) (n d : End) → Has ns n → get_or ns (place_of_end ns n) d ≡ n
end_holds ns n d h = places.place_holds end_eq end_eq-same end_eq-self place_of_end (λ m ms k. refl) ns n d h

pub end_within : (ns : List End) (n : End) → Has ns n → place_of_end ns n < length ns
end_within ns n h = places.place_within end_eq end_eq-same end_eq-self place_of_end (λ m ms k. refl) ns n h

pub one_end : (ns : List End) (m n : End) → Has ns m → Has ns n → place_of_end ns m ≡ place_of_end ns n → m ≡ n
one_end ns m n hm hn e = places.one_place end_eq end_eq-same end_eq-self place_of_end (λ k ks i. refl) ns m n hm hn e

-- no end is listed twice
source_no_target : (e f : ℕ) → end_at e false ≡ end_at f true → ⊥
source_no_target e f h = let bad : false ≡ true = ap (λ (n : End). n.at_source) h in absurd cc

ends_distinct : (a n : ℕ) → Distinct (ends_of_edges (range_with_len a n))
ends_distinct a zero = tt
ends_distinct a (suc n) =
    (λ h. ⊎_elim (λ same. source_no_target a a same) (λ later. past true later) h, (λ later. past false later, ends_distinct (a + 1) n))
  where
    past : (t : Bool) → Has (ends_of_edges (range_with_len (a + 1) n)) (end_at a t) → ⊥
    past t h = let b = range_has (a + 1) n a (ends_edge (range_with_len (a + 1) n) (end_at a t) h) in absurd (omega (arith, b))

pub implicit_distinct : (l : PlainLevel) (c : ℕ) → Distinct (implicit_ends l c)
implicit_distinct l c = distinct_filter (λ n. eqb (spoke l n).child c && is_none (spoke l n).port) (all_ends l) (ends_distinct 0 (length l.edges))

pub end_place : (ns : List End) (i : ℕ) (d : End) → Distinct ns → i < length ns → place_of_end ns (get_or ns i d) ≡ i
end_place ns i d apart h =
    let has = has_at ns i d h in
    distinct_at ns d (place_of_end ns (get_or ns i d)) i apart (end_within ns (get_or ns i d) has) h (end_holds ns (get_or ns i d) d has)

-- each spot has its place as its number
module _ (l : PlainLevel) (p : PlainPlan) (c : ℕ) where
  abbrev many : ℕ
  many = length (child_at l c).ports

  abbrev at_ports : List Spot
  at_ports = map (port_spot l p c) (range_with_len 0 many)

  abbrev at_ends : List Spot
  at_ends = map (implicit_spot l p c) (implicit_ends l c)

  pub port_spot_at : (k : ℕ) → k < many → spot_at (spots l p c) k ≡ port_spot l p c k
  port_spot_at k h =
      let known : length at_ports ≡ many = length-map-range_with_len (port_spot l p c) 0 many in
      get_or_append_left at_ports at_ends no_spot k (omega (arith, h, known)) ∙ get_or-map-range_with_len (port_spot l p c) 0 many k k no_spot h (omega arith)

  end_spot_at : (j : ℕ) → j < length (implicit_ends l c) → spot_at (spots l p c) (many + j) ≡ implicit_spot l p c (get_or (implicit_ends l c) j (end_at 0 true))
  end_spot_at j h =
      let behind : many + j - many ≡ j = omega arith in
      get_or-append_right at_ports at_ends many (many + j) no_spot (length-map-range_with_len (port_spot l p c) 0 many) (omega arith)
      ∙ ap (λ i. get_or at_ends i no_spot) behind
      ∙ get_or-map (implicit_spot l p c) (implicit_ends l c) j (end_at 0 true) no_spot h

  pub spots_many : length (spots l p c) ≡ many + length (implicit_ends l c)
  spots_many =
      let a : length at_ports ≡ many = length-map-range_with_len (port_spot l p c) 0 many in
      let b : length at_ends ≡ length (implicit_ends l c) = length-map (implicit_ends l c) (implicit_spot l p c) in
      let both : length (at_ports ++ at_ends) ≡ length at_ports + length at_ends = length-append at_ports at_ends in
      omega (arith, a, b, both)

  pub number_is : (i : ℕ) → i < length (spots l p c) → (spot_at (spots l p c) i).number ≡ i
  number_is i h =
      let total = spots_many in
      elim (cases_lt i many) [
        | inl less ↦ ap (λ (s : Spot). s.number) (port_spot_at i less)
        | inr over ↦ (let here : many + (i - many) ≡ i = omega (arith, over) in
            let less : i - many < length (implicit_ends l c) = omega (arith, h, total, over) in
            ap (λ k. (spot_at (spots l p c) k).number) (sym here)
            ∙ ap (λ (s : Spot). s.number) (end_spot_at (i - many) less)
            ∙ ap (λ k. many + k) (end_place (implicit_ends l c) (i - many) (end_at 0 true) (implicit_distinct l c) less)
            ∙ here)
      ]

  pub has_is_spot : (s : Spot) → Has (spots l p c) s → IsSpot (child_at l c) s
  has_is_spot s h =
      ⊎_elim
      (λ port. let r = map_has (port_spot l p c) (range_with_len 0 many) s port in
      subst (IsSpot (child_at l c)) r.2 (port_is_spot l p c r.0 (below_has many r.0 r.1)))
      (λ end. let r = map_has (implicit_spot l p c) (implicit_ends l c) s end in subst (IsSpot (child_at l c)) r.2 (implicit_is_spot l p c r.0))
      (append_has at_ports at_ends s h)

  -- what is asked of the spots of a child
  pub spots_are : AreSpots (child_at l c) (spots l p c)
  spots_are =
      record {
        each = λ i h. has_is_spot (spot_at (spots l p c) i) (has_at (spots l p c) i no_spot h);
        differ = λ i j hi hj same. sym (number_is i hi) ∙ same ∙ number_is j hj;
      }
