-- Edges are reversed one after the other.
use Rattle.std.proofs.Common.{◌≡◌, ◌≢◌, ℕ, zero, suc, length, take, get_or, ◌+◌, ◌<◌, ◌≤◌, eq-eqb, nat_eq, cond, Bool, false, List, [], ◌∷◌, ◌++◌, filter, Option, Some, None, IsSome, arith, refl, sym, ap, ◌∙◌, subst, inl, inr}
use Rattle.std.proofs.lemmas.Bool.{cases_eq}
use Rattle.std.proofs.lemmas.List.{length-map, take-map}
use Rattle.graph_arena.specs.Graph.{Graph, Ends, ends_at, out_list, in_list, occurs}
use Rattle.graph_arena.specs.Changes.{Reverses, without}
use Rattle.graph_arena.specs.declared.keys.EdgeKey.{EdgeKey}
use Rattle.cycle_break.specs.Ways.{edge_keys}
use Rattle.cycle_break.specs.Reversed.{ReversesListed}
use Rattle.cycle_break.proofs.Keys.{key_at}
use Rattle.cycle_break.proofs.Lists.{eqb_other, occurs-append, occurs_one, occurs_none}
use Rattle.graph_arena.proofs.Removal.{filter_without, filter_stronger}

filter_last : (p : ℕ → Bool) (e : ℕ) (xs : List ℕ) → p e ≡ false → filter p (xs ++ e ∷ []) ≡ filter p xs
filter_last p e [] h = rw h refl
filter_last p e (x ∷ xs) h = ap (λ (l : List ℕ). cond (p x) (x ∷ l) l) (filter_last p e xs h)

same_ends : (x y : Ends) → Some x ≡ Some y → x ≡ y
same_ends x y h = cc

module _ (g m k : Graph) (listed : List ℕ) (e : ℕ) (x : Ends) (t : ReversesListed g m listed) (is : ends_at m e ≡ Some x) (r : Reverses m k e x.tail x.head) (new : occurs e listed ≡ 0) where
  both : (d : ℕ) → occurs d (listed ++ e ∷ []) ≡ occurs d listed + occurs d (e ∷ [])
  both d = occurs-append d listed (e ∷ [])

  weaker : (d : ℕ) → nat_eq (occurs d listed) 0 ≡ false → nat_eq (occurs d (listed ++ e ∷ [])) 0 ≡ false
  weaker d h =
      elim (cases_eq (occurs d listed) 0) [
        | inl z ↦ let q = rw (eq-eqb (occurs d listed) 0 z) at h in absurd cc
        | inr n ↦ let s : occurs d (listed ++ e ∷ []) ≢ 0 = omega (arith, n, both d) in eqb_other (occurs d (listed ++ e ∷ [])) 0 s
      ]

  off : nat_eq (occurs e (listed ++ e ∷ [])) 0 ≡ false
  off = let s : occurs e (listed ++ e ∷ []) ≢ 0 = omega (arith, both e, occurs_one e) in eqb_other (occurs e (listed ++ e ∷ [])) 0 s

  out_step : (v : ℕ) → filter (λ d. nat_eq (occurs d (listed ++ e ∷ [])) 0) (out_list k v) ≡ filter (λ d. nat_eq (occurs d (listed ++ e ∷ [])) 0) (out_list m v)
  out_step v =
      let p : ℕ → Bool = λ d. nat_eq (occurs d (listed ++ e ∷ [])) 0 in
      elim (cases_eq v x.head) [
        | inl s ↦
            subst (λ (j : ℕ). filter p (out_list k j) ≡ filter p (out_list m j)) (sym s)
            (ap (λ (l : List ℕ). filter p l) r.at_head ∙ (filter_last p e (without e (out_list m x.head)) off ∙ filter_without p e (out_list m x.head) off))
        | inr n ↦
            elim (cases_eq v x.tail) [
              | inl s ↦
                  subst (λ (j : ℕ). filter p (out_list k j) ≡ filter p (out_list m j)) (sym s)
                  (ap (λ (l : List ℕ). filter p l) (r.left_tail (λ q. n (s ∙ q))) ∙ filter_without p e (out_list m x.tail) off)
              | inr d ↦ ap (λ (l : List ℕ). filter p l) (r.other_outs v d n)
            ]
      ]

  in_step : (v : ℕ) → filter (λ d. nat_eq (occurs d (listed ++ e ∷ [])) 0) (in_list k v) ≡ filter (λ d. nat_eq (occurs d (listed ++ e ∷ [])) 0) (in_list m v)
  in_step v =
      let p : ℕ → Bool = λ d. nat_eq (occurs d (listed ++ e ∷ [])) 0 in
      elim (cases_eq v x.tail) [
        | inl s ↦
            subst (λ (j : ℕ). filter p (in_list k j) ≡ filter p (in_list m j)) (sym s)
            (ap (λ (l : List ℕ). filter p l) r.at_tail ∙ (filter_last p e (without e (in_list m x.tail)) off ∙ filter_without p e (in_list m x.tail) off))
        | inr n ↦
            elim (cases_eq v x.head) [
              | inl s ↦
                  subst (λ (j : ℕ). filter p (in_list k j) ≡ filter p (in_list m j)) (sym s)
                  (ap (λ (l : List ℕ). filter p l) (r.left_head (λ q. n (s ∙ sym q))) ∙ filter_without p e (in_list m x.head) off)
              | inr d ↦ ap (λ (l : List ℕ). filter p l) (r.other_ins v n d)
            ]
      ]

  pub turns_more : ReversesListed g k (listed ++ e ∷ [])
  turns_more =
      let p : ℕ → Bool = λ d. nat_eq (occurs d (listed ++ e ∷ [])) 0 in
      let q : ℕ → Bool = λ d. nat_eq (occurs d listed) 0 in
      record {
        is_reversed = λ d y h at. elim (cases_eq d e) [
          | inl s ↦
              let same : x ≡ y = same_ends x y (sym is ∙ (t.others e new ∙ subst (λ (j : ℕ). ends_at g j ≡ Some y) s at)) in
              subst (λ (z : Ends). ends_at k d ≡ Some (record { tail = z.head; head = z.tail })) same (ap (λ (j : ℕ). ends_at k j) s ∙ r.is_reversed)
          | inr n ↦ let z = occurs_none d e (λ i. n (sym i)) in r.other_edges d n ∙ t.is_reversed d y (omega (arith, h, both d, z)) at
        ];
        others = λ d h.
            let n : d ≢ e = λ s. (let h2 : occurs e (listed ++ e ∷ []) ≡ 0 = subst (λ (j : ℕ). occurs j (listed ++ e ∷ []) ≡ 0) s h in omega (arith, h2, both e, occurs_one e)) in
            r.other_edges d n ∙ t.others d (omega (arith, h, both d));
        same_nodes = λ v. (λ h. (t.same_nodes v).0 ((r.same_nodes v).0 h), λ h. (r.same_nodes v).1 ((t.same_nodes v).1 h));
        outs = λ v. out_step v ∙ (sym (filter_stronger p q (out_list m v) weaker) ∙ (ap (λ (l : List ℕ). filter p l) (t.outs v) ∙ filter_stronger p q (out_list g v) weaker));
        ins = λ v. in_step v ∙ (sym (filter_stronger p q (in_list m v) weaker) ∙ (ap (λ (l : List ℕ). filter p l) (t.ins v) ∙ filter_stronger p q (in_list g v) weaker));
      }

-- ---- one more edge of a list without repeats

pub occurs_at : (xs : List ℕ) (i : ℕ) → i < length xs → 0 < occurs (get_or xs i 0) xs
occurs_at [] i h = absurd (omega arith)
occurs_at (x ∷ xs) zero h = rw (eq-eqb x x refl) (omega arith)
occurs_at (x ∷ xs) (suc i) h = let r = occurs_at xs i (omega (arith, h)) in omega (arith, r)

pub not_before : (xs : List ℕ) (i : ℕ) → i < length xs → ((k : ℕ) → occurs k xs ≤ 1) → occurs (get_or xs i 0) (take i xs) ≡ 0
not_before [] i h once = absurd (omega arith)
not_before (x ∷ xs) zero h once = refl
not_before (x ∷ xs) (suc i) h once =
    let r = not_before xs i (omega (arith, h)) (λ k. let o = once k in omega (arith, o)) in
    let there = occurs_at xs i (omega (arith, h)) in
    let d : x ≢ get_or xs i 0 = λ e. (let o = once (get_or xs i 0) in let o2 = rw (eq-eqb x (get_or xs i 0) e) at o in omega (arith, o2, there)) in
    rw (eqb_other x (get_or xs i 0) d) (omega (arith, r))

pub key_new : (xs : List EdgeKey) (i : ℕ) → i < length xs → ((k : ℕ) → occurs k (edge_keys xs) ≤ 1) → occurs (get_or xs i (record { at = 0 })).at (edge_keys (take i xs)) ≡ 0
key_new xs i h once =
    let len = length-map xs (λ (z : EdgeKey). z.at) in
    let n = not_before (edge_keys xs) i (omega (arith, h, len)) once in
    let m : occurs (get_or (edge_keys xs) i 0) (edge_keys (take i xs)) ≡ 0 = subst (λ (l : List ℕ). occurs (get_or (edge_keys xs) i 0) l ≡ 0) (take-map (λ (z : EdgeKey). z.at) i xs) n in
    subst (λ (k : ℕ). occurs k (edge_keys (take i xs)) ≡ 0) (key_at xs i h) m

pub key_there : (xs : List EdgeKey) (i : ℕ) → i < length xs → 0 < occurs (get_or xs i (record { at = 0 })).at (edge_keys xs)
key_there xs i h =
    let len = length-map xs (λ (z : EdgeKey). z.at) in
    subst (λ (k : ℕ). 0 < occurs k (edge_keys xs)) (key_at xs i h) (occurs_at (edge_keys xs) i (omega (arith, h, len)))

ends_there : (o : Option Ends) → IsSome o → (x : Ends) × (o ≡ Some x)
ends_there None h = cc
ends_there (Some x) h = (x, refl)

pub turns_next : (g m k : Graph) (listed l1 : List ℕ) (e : ℕ) → ReversesListed g m listed → IsSome (ends_at m e) → ((x : Ends) → ends_at m e ≡ Some x → Reverses m k e x.tail x.head) → occurs e listed ≡ 0 → l1 ≡ listed ++ e ∷ [] → ReversesListed g k l1
turns_next g m k listed l1 e t live r new is =
    let x = ends_there (ends_at m e) live in
    subst (λ (l : List ℕ). ReversesListed g k l) (sym is) (turns_more g m k listed e x.0 t x.1 (r x.0 x.1) new)
