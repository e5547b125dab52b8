-- Names that fall until both ends of each edge have one, and their numbers.
use Rattle.std.proofs.Common.{◌≡◌, ◌≢◌, ℕ, zero, suc, ◌+◌, ◌*◌, ◌<◌, ◌≤◌, cond, ltb, Bool, true, false, ◌||◌, ◌⊎◌, List, length, get_or, set, arith, refl, sym, ap, subst, ◌∙◌, inl, inr}
use Rattle.std.specs.List.{sum}
use Rattle.std.proofs.lemmas.Bool.{cases_eq, cases_order, ltb-true}
use Rattle.std.proofs.lemmas.List.{get_or-set_same, get_or-set_other, length-set}
use Rattle.std.proofs.lemmas.List.Sums.{sum_by-set}
use borrow.Author.Count.{below_more}
use Rattle.network_laws.specs.declared.network.NetEdge.{NetEdge}
use Rattle.network_laws.specs.Network.{edge_at, HasEdge, Joined, InOnePart}
use Rattle.network_laws.specs.Parts.{AreNames, HaveOneName, AreNumberedTo, ArePartNumbers, NumbersAll}
use Rattle.network_laws.specs.Joining.{ArePassed, IsPassed}

module _ (edges : List NetEdge) where
  pub part_self : (a : ℕ) → InOnePart edges a a
  part_self a = (0, refl)

  more_before : (a b c n : ℕ) → (HasEdge edges a b ⊎ HasEdge edges b a) → Joined edges b c n → Joined edges a c (suc n)
  more_before a b c zero s w = (a, refl, subst (λ x. HasEdge edges a x ⊎ HasEdge edges x a) w s)
  more_before a b c (suc n) s w = (w.0, more_before a b w.0 n s w.1, w.2)

  turn : (a b : ℕ) → (HasEdge edges a b ⊎ HasEdge edges b a) → HasEdge edges b a ⊎ HasEdge edges a b
  turn a b (inl h) = inr h
  turn a b (inr h) = inl h

  back_by : (a b n : ℕ) → Joined edges a b n → Joined edges b a n
  back_by a b zero w = sym w
  back_by a b (suc n) w = more_before b w.0 a n (turn w.0 b w.2) (back_by a w.0 n w.1)

  pub part_back : (a b : ℕ) → InOnePart edges a b → InOnePart edges b a
  part_back a b w = (w.0, back_by a b w.0 w.1)

  join_by : (a b c m n : ℕ) → Joined edges a b m → Joined edges b c n → InOnePart edges a c
  join_by a b c m zero v w = (m, subst (λ x. Joined edges a x m) w v)
  join_by a b c m (suc n) v w = let r = join_by a b w.0 m n v w.1 in (suc r.0, (w.0, r.1, w.2))

  pub part_join : (a b c : ℕ) → InOnePart edges a b → InOnePart edges b c → InOnePart edges a c
  part_join a b c v w = join_by a b c v.0 w.0 v.1 w.1

  pub part_edge : (k : ℕ) → k < length edges → InOnePart edges (edge_at edges k).tail (edge_at edges k).head
  part_edge k l = (1, ((edge_at edges k).tail, refl, inl (record { number = k; is_there = l; from_is = refl; to_is = refl })))

  -- what is the same at both ends of each edge is the same in a part
  pub same_in_part : (f : ℕ → ℕ) → ((k : ℕ) → k < length edges → f (edge_at edges k).tail ≡ f (edge_at edges k).head) → (a b n : ℕ) → Joined edges a b n → f a ≡ f b
  same_in_part f h a b zero w = ap f w
  same_in_part f h a b (suc n) w =
      same_in_part f h a w.0 n w.1 ∙ elim w.2 [
        | inl e ↦ sym (ap f e.from_is) ∙ (h e.number e.is_there ∙ ap f e.to_is)
        | inr e ↦ sym (ap f e.to_is) ∙ (sym (h e.number e.is_there) ∙ ap f e.from_is)
      ]

-- a name that is no later and in the part keeps the names
pub renamed : (nodes : ℕ) (edges : List NetEdge) (names : List ℕ) (v w : ℕ) → AreNames nodes edges names → v < nodes → w ≤ v → InOnePart edges w v → AreNames nodes edges (set names v w)
renamed nodes edges names v w a l le p = record {
  name_for_each = length-set names v w ∙ a.name_for_each;
  no_later = λ u lu. elim (cases_eq u v) [
    | inl e ↦ let n = a.name_for_each in let at = ap (λ x. get_or (set names v w) x 0) e ∙ get_or-set_same names v w 0 (omega (arith, n, l)) in omega (arith, at, e, le)
    | inr ne ↦ let at = get_or-set_other names v u w 0 ne in let b = a.no_later u lu in omega (arith, at, b)
  ];
  in_part = λ u lu. elim (cases_eq u v) [
    | inl e ↦
        let n = a.name_for_each in
        let at : get_or (set names v w) u 0 ≡ w = ap (λ x. get_or (set names v w) x 0) e ∙ get_or-set_same names v w 0 (omega (arith, n, l)) in
        subst (λ x. InOnePart edges x u) (sym at) (subst (λ x. InOnePart edges w x) (sym e) p)
    | inr ne ↦ subst (λ x. InOnePart edges x u) (sym (get_or-set_other names v u w 0 ne)) (a.in_part u lu)
  ];
}

pub sum_after : (xs : List ℕ) (v w : ℕ) → v < length xs → sum (set xs v w) + get_or xs v 0 ≡ sum xs + w
sum_after xs v w l = sum_by-set (λ x. x) xs v w 0 l

-- one name lowered or not
lowered_names : (nodes : ℕ) (edges : List NetEdge) (names : List ℕ) (v w : ℕ) (b : Bool) → b ≡ ltb w (get_or names v 0) → AreNames nodes edges names → v < nodes → w ≤ v → InOnePart edges w v → AreNames nodes edges (cond b (set names v w) names) × (sum (cond b (set names v w) names) ≤ sum names)
lowered_names nodes edges names v w true is a l le p =
    let n = a.name_for_each in
    let s = sum_after names v w (omega (arith, n, l)) in
    let less = ltb-true w (get_or names v 0) (sym is) in
    (renamed nodes edges names v w a l le p, omega (arith, s, less))
lowered_names nodes edges names v w false is a l le p = (a, omega arith)

-- the greater name's node gets the lower name at one end of an edge, and where it is named
pub joined_at : (edges : List NetEdge) (k : ℕ) (old new : List ℕ) (at low high : ℕ) → k < length edges → AreNames (length old) edges old → at < length old → high ≡ get_or old at 0 → low < high → InOnePart edges low at → new ≡ cond (ltb low (get_or (set old at low) high 0)) (set (set old at low) high low) (set old at low) → IsPassed edges k old new true
joined_at edges k old new at low high there a l is less p new_is =
    let nodes = length old in
    let up : high ≤ at = let b = a.no_later at l in omega (arith, is, b) in
    let first = renamed nodes edges old at low a l (omega (arith, less, up)) p in
    let in_part : InOnePart edges low high = part_join edges low at high p (part_back edges high at (subst (λ x. InOnePart edges x at) (sym is) (a.in_part at l))) in
    let second = lowered_names nodes edges (set old at low) high low (ltb low (get_or (set old at low) high 0)) refl first (omega (arith, l, up)) (omega (arith, less)) in_part in
    let s = sum_after old at low l in
    let t = second.1 in
    record {
      names = subst (λ x. AreNames nodes edges x) (sym new_is) second.0;
      unchanged = λ h. let bad : true ≡ false = h in absurd cc;
      less = λ _. let e = ap sum new_is in omega (arith, e, s, t, is, less);
    }

pub join_start : (edges : List NetEdge) (old : List ℕ) → AreNames (length old) edges old → ArePassed edges 0 old old false
join_start edges old a = record { names = a; unchanged = λ _. (refl, λ k l. absurd (omega (arith, l))); less = λ h. let bad : false ≡ true = h in absurd cc }

pub join_more : (edges : List NetEdge) (i : ℕ) (first old new : List ℕ) (changed now : Bool) → ArePassed edges i first old changed → length old ≡ length first → IsPassed edges i old new now → ArePassed edges (i + 1) first new (changed || now)
join_more edges i first old new true true j n s = record {
  names = subst (λ x. AreNames x edges new) n s.names;
  unchanged = λ h. let bad : true ≡ false = h in absurd cc;
  less = λ _. let a = j.less refl in let b = s.less refl in omega (arith, a, b);
}
join_more edges i first old new false true j n s = record {
  names = subst (λ x. AreNames x edges new) n s.names;
  unchanged = λ h. let bad : true ≡ false = h in absurd cc;
  less = λ _. let a = ap sum (j.unchanged refl).0 in let b = s.less refl in omega (arith, a, b);
}
join_more edges i first old new true false j n s = record {
  names = subst (λ x. AreNames x edges new) n s.names;
  unchanged = λ h. let bad : true ≡ false = h in absurd cc;
  less = λ _. let a = j.less refl in let b = ap sum (s.unchanged refl).0 in omega (arith, a, b);
}
join_more edges i first old new false false j n s = record {
  names = subst (λ x. AreNames x edges new) n s.names;
  unchanged = λ _.
      let u = j.unchanged refl in
      let w = s.unchanged refl in
      (w.0 ∙ u.0, below_more (λ k. get_or first (edge_at edges k).tail 0 ≡ get_or first (edge_at edges k).head 0) i u.1 (subst (λ x. get_or x (edge_at edges i).tail 0 ≡ get_or x (edge_at edges i).head 0) u.0 w.1));
  less = λ h. let bad : false ≡ true = h in absurd cc;
}

-- what is left to lower falls
pub join_falls : (edges : List NetEdge) (i : ℕ) (old flat new : List ℕ) (b c : Bool) → b ≡ true → sum flat ≤ sum old → ArePassed edges i flat new c → cond c 1 0 + 2 * sum new < cond b 1 0 + 2 * sum old
join_falls edges i old flat new b true is le j = let l = j.less refl in rw is (omega (arith, l, le))
join_falls edges i old flat new b false is le j = let l = ap sum (j.unchanged refl).0 in rw is (omega (arith, l, le))

-- the node after which a node is named gives its own name on
pub flat_more : (nodes : ℕ) (edges : List NetEdge) (names : List ℕ) (v : ℕ) → AreNames nodes edges names → v < nodes → AreNames nodes edges (set names v (get_or names (get_or names v 0) 0)) × (sum (set names v (get_or names (get_or names v 0) 0)) ≤ sum names)
flat_more nodes edges names v a l =
    let m = get_or names v 0 in
    let first = a.no_later v l in
    let second = a.no_later m (omega (arith, first, l)) in
    let n = a.name_for_each in
    let s = sum_after names v (get_or names m 0) (omega (arith, n, l)) in
    (renamed nodes edges names v (get_or names m 0) a l (omega (arith, first, second)) (part_join edges (get_or names m 0) m v (a.in_part m (omega (arith, first, l))) (a.in_part v l)), omega (arith, s, second))

pub named_self : (nodes : ℕ) (edges : List NetEdge) (names : List ℕ) → length names ≡ nodes → ((v : ℕ) → v < nodes → get_or names v 0 ≡ v) → AreNames nodes edges names
named_self nodes edges names n h = record {
  name_for_each = n;
  no_later = λ v l. let e = h v l in omega (arith, e);
  in_part = λ v l. subst (λ x. InOnePart edges x v) (sym (h v l)) (part_self edges v);
}

-- the numbers of the names
module _ (names numbers : List ℕ) (count v : ℕ) (there : v < length names) (a : (u : ℕ) → u < length names → get_or names u 0 ≤ u) (s : AreNumberedTo names numbers count v) where
  old_number : (u x : ℕ) → u < v → get_or (set numbers v x) u 0 ≡ get_or numbers u 0
  old_number u x l = get_or-set_other numbers v u x 0 (λ e. omega (arith, l, e))

  new_number : (x : ℕ) → get_or (set numbers v x) v 0 ≡ x
  new_number x = let n = s.as_long in get_or-set_same numbers v x 0 (omega (arith, n, there))

  by_name_still : (u x : ℕ) → u < v → get_or (set numbers v x) u 0 ≡ get_or (set numbers v x) (get_or names u 0) 0
  by_name_still u x l =
      let b = a u (omega (arith, l, there)) in
      old_number u x l ∙ (s.by_name u l ∙ sym (old_number (get_or names u 0) x (omega (arith, b, l))))

  pub number_new : get_or names v 0 ≡ v → AreNumberedTo names (set numbers v count) (count + 1) (v + 1)
  number_new own = record {
    as_long = length-set numbers v count ∙ s.as_long;
    no_more = let m = s.no_more in omega (arith, m);
    by_name = λ u l. elim (cases_eq u v) [
      | inl e ↦ ap (λ x. get_or (set numbers v count) x 0) (e ∙ (sym own ∙ ap (λ x. get_or names x 0) (sym e)))
      | inr ne ↦ by_name_still u count (omega (arith, l, ne))
    ];
    below = λ u l. elim (cases_eq u v) [
      | inl e ↦ let n = ap (λ x. get_or (set numbers v count) x 0) e ∙ new_number count in omega (arith, n)
      | inr ne ↦ let o = old_number u count (omega (arith, l, ne)) in let b = s.below u (omega (arith, l, ne)) in omega (arith, o, b)
    ];
    rising = λ u w lu lw r. elim (cases_eq w v) [
      | inl e ↦ let n = ap (λ x. get_or (set numbers v count) x 0) e ∙ new_number count in let o = old_number u count (omega (arith, lu, e)) in let b = s.below u (omega (arith, lu, e)) in omega (arith, n, o, b)
      | inr ne ↦
          let lv : w < v = omega (arith, lw, ne) in
          let o = old_number u count (omega (arith, lu, lv)) in
          let p = old_number w count lv in
          let b = s.rising u w lu lv r in
          omega (arith, o, p, b)
    ];
    by_least = λ u n l h. elim (cases_eq u v) [
      | inl e ↦
          let is = ap (λ x. get_or (set numbers v count) x 0) e ∙ new_number count in
          let t = s.all_taken n (omega (arith, h, is)) in
          (t.0, omega (arith, t.1, e), old_number t.0 count t.1 ∙ t.2)
      | inr ne ↦
          let lv : u < v = omega (arith, l, ne) in
          let o = old_number u count lv in
          let t = s.by_least u n lv (omega (arith, h, o)) in
          (t.0, t.1, old_number t.0 count (let q = t.1 in omega (arith, q, lv)) ∙ t.2)
    ];
    all_taken = λ n h. elim (cases_eq n count) [
      | inl e ↦ (v, omega arith, new_number count ∙ sym e)
      | inr ne ↦ let t = s.all_taken n (omega (arith, h, ne)) in (t.0, (let q = t.1 in omega (arith, q)), old_number t.0 count t.1 ∙ t.2)
    ];
  }

  pub number_old : get_or names v 0 ≢ v → AreNumberedTo names (set numbers v (get_or numbers (get_or names v 0) 0)) count (v + 1)
  number_old other =
      let m = get_or names v 0 in
      let x = get_or numbers m 0 in
      let lm : m < v = let b = a v there in omega (arith, b, other) in
      record {
        as_long = length-set numbers v x ∙ s.as_long;
        no_more = let q = s.no_more in omega (arith, q);
        by_name = λ u l. elim (cases_eq u v) [
          | inl e ↦ ap (λ y. get_or (set numbers v x) y 0) e ∙ (new_number x ∙ (sym (old_number m x lm) ∙ ap (λ y. get_or (set numbers v x) (get_or names y 0) 0) (sym e)))
          | inr ne ↦ by_name_still u x (omega (arith, l, ne))
        ];
        below = λ u l. elim (cases_eq u v) [
          | inl e ↦ let n = ap (λ y. get_or (set numbers v x) y 0) e ∙ new_number x in let b = s.below m lm in omega (arith, n, b)
          | inr ne ↦ let o = old_number u x (omega (arith, l, ne)) in let b = s.below u (omega (arith, l, ne)) in omega (arith, o, b)
        ];
        rising = λ u w lu lw r. elim (cases_eq w v) [
          | inl e ↦ absurd (other (ap (λ y. get_or names y 0) (sym e) ∙ (r ∙ e)))
          | inr ne ↦
              let lv : w < v = omega (arith, lw, ne) in
              let o = old_number u x (omega (arith, lu, lv)) in
              let p = old_number w x lv in
              let b = s.rising u w lu lv r in
              omega (arith, o, p, b)
        ];
        by_least = λ u n l h. elim (cases_eq u v) [
          | inl e ↦
              let is = ap (λ y. get_or (set numbers v x) y 0) e ∙ new_number x in
              let t = s.by_least m n lm (omega (arith, h, is)) in
              (t.0, (let q = t.1 in omega (arith, q, lm, e)), old_number t.0 x (let q = t.1 in omega (arith, q, lm)) ∙ t.2)
          | inr ne ↦
              let lv : u < v = omega (arith, l, ne) in
              let o = old_number u x lv in
              let t = s.by_least u n lv (omega (arith, h, o)) in
              (t.0, t.1, old_number t.0 x (let q = t.1 in omega (arith, q, lv)) ∙ t.2)
        ];
        all_taken = λ n h. let t = s.all_taken n h in (t.0, (let q = t.1 in omega (arith, q)), old_number t.0 x t.1 ∙ t.2);
      }

pub number_start : (names numbers : List ℕ) → length numbers ≡ length names → AreNumberedTo names numbers 0 0
number_start names numbers n = record {
  as_long = n;
  no_more = omega arith;
  by_name = λ v l. absurd (omega (arith, l));
  below = λ v l. absurd (omega (arith, l));
  rising = λ u v l m r. absurd (omega (arith, m));
  by_least = λ v n l h. absurd (omega (arith, l));
  all_taken = λ n h. absurd (omega (arith, h));
}

-- names that both ends of each edge share number the parts
pub numbered : (nodes : ℕ) (edges : List NetEdge) (names numbers : List ℕ) → AreNames nodes edges names → HaveOneName edges names (length edges) → NumbersAll names numbers → ArePartNumbers nodes edges numbers
numbered nodes edges names numbers a one all =
    let count = all.0 in
    let s = all.1 in
    let n = a.name_for_each in
    let name : ℕ → ℕ = λ v. get_or names v 0 in
    let same : (u v : ℕ) → InOnePart edges u v → name u ≡ name v = λ u v p. same_in_part edges name one u v p.0 p.1 in
    let up : (v : ℕ) → v < nodes → name v < nodes = λ v l. let b = a.no_later v l in omega (arith, b, l) in
    let flat : (v : ℕ) → v < nodes → name (name v) ≡ name v = λ v l. same (name v) v (a.in_part v l) in
    let of_name : (v : ℕ) → v < nodes → get_or numbers v 0 ≡ get_or numbers (name v) 0 = λ v l. s.by_name v (omega (arith, l, n)) in
    let apart : (u v : ℕ) → u < nodes → v < nodes → name u < name v → get_or numbers u 0 ≡ get_or numbers v 0 → ⊥ =
    λ u v lu lv less h.
    let r = s.rising (name u) (name v) less (let q = up v lv in omega (arith, q, n)) (flat v lv) in
    let x = of_name u lu in
    let y = of_name v lv in
    omega (arith, r, x, y, h)
    in
    record {
      number_for_each = s.as_long ∙ n;
      in_range = λ v l. let b = s.below v (omega (arith, l, n)) in let m = s.no_more in omega (arith, b, m, n);
      same_part = λ u v lu lv. (
        λ h. elim (cases_order (name u) (name v)) [
          | inl e ↦ part_join edges u (name u) v (part_back edges (name u) u (a.in_part u lu)) (subst (λ x. InOnePart edges x v) (sym e) (a.in_part v lv))
          | inr o ↦ elim o [
            | inl less ↦ absurd (apart u v lu lv less h)
            | inr more ↦ absurd (apart v u lv lu more (sym h))
          ]
        ],
        λ p. of_name u lu ∙ (ap (λ x. get_or numbers x 0) (same u v p) ∙ sym (of_name v lv)),
      );
      by_least = λ v m l h. s.by_least v m (omega (arith, l, n)) h;
    }
