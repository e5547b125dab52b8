-- Keys in lists, and where they stand first.
use Rattle.std.proofs.Common.{◌≡◌, ◌≢◌, ℕ, zero, suc, ◌+◌, ◌<◌, eqb, eq-eqb, cond, false, List, [], ◌∷◌, ◌++◌, length, get_or, set, replicate, count_by, Option, Some, None, arith, refl, ap, inl, inr}
use Rattle.std.specs.Option.{is_none}
use Rattle.std.proofs.lemmas.Bool.{cases_eq}
use Rattle.std.proofs.lemmas.Bool.Decides.{nat_tests}
use Rattle.std.proofs.lemmas.List.Sums.{sum_by-cons}
use Rattle.graph_arena.specs.Graph.{Graph, Ends, ends_at, out_list, in_list, front, occurs, tail_in, head_in, IsIncidence}
use Rattle.cycle_break.specs.Order.{place}
use Rattle.graph_arena.proofs.Chains.{owned}

pub eqb_other : (m n : ℕ) → m ≢ n → eqb m n ≡ false
eqb_other m n h = grind (arith, nat_tests, h)

pub occurs-append : (k : ℕ) (xs ys : List ℕ) → occurs k (xs ++ ys) ≡ occurs k xs + occurs k ys
occurs-append k [] ys = omega arith
occurs-append k (x ∷ xs) ys = let i = occurs-append k xs ys in omega (arith, i)

pub occurs_one : (k : ℕ) → occurs k (k ∷ []) ≡ 1
occurs_one k = rw (eq-eqb k k refl) refl

pub occurs_none : (k j : ℕ) → j ≢ k → occurs k (j ∷ []) ≡ 0
occurs_none k j h = rw (eqb_other j k h) refl

pub occurs_within : (k : ℕ) (xs : List ℕ) → 0 < occurs k xs → place xs k < length xs
occurs_within k [] h = absurd (omega arith)
occurs_within k (x ∷ xs) h =
    elim (cases_eq x k) [
      | inl e ↦ rw (eq-eqb x k e) (omega arith)
      | inr n ↦
          let z = eqb_other x k n in
          let g = rw z at h in
          let i = occurs_within k xs (omega (arith, g)) in
          rw z (omega (arith, i))
    ]

pub place_kept : (k : ℕ) (xs ys : List ℕ) → 0 < occurs k xs → place (xs ++ ys) k ≡ place xs k
place_kept k [] ys h = absurd (omega arith)
place_kept k (x ∷ xs) ys h =
    elim (cases_eq x k) [
      | inl e ↦ rw (eq-eqb x k e) refl
      | inr n ↦
          let z = eqb_other x k n in
          let g = rw z at h in
          rw z (ap suc (place_kept k xs ys (omega (arith, g))))
    ]

pub place_last : (k : ℕ) (xs : List ℕ) → occurs k xs ≡ 0 → place (xs ++ k ∷ []) k ≡ length xs
place_last k [] h = rw (eq-eqb k k refl) refl
place_last k (x ∷ xs) h =
    let n : x ≢ k = λ e. let o = rw (eq-eqb x k e) at h in omega (arith, o) in
    let z = eqb_other x k n in
    let g = rw z at h in
    let i = place_last k xs (omega (arith, g)) in
    rw z (omega (arith, i))

-- ---- an edge in a list has the list's node

pub front_occurs : (xs : List ℕ) (e : ℕ) → front xs ≡ Some e → 0 < occurs e xs
front_occurs [] e h = cc
front_occurs (x ∷ xs) e h = let s : x ≡ e = (let q : Some x ≡ Some e = h in cc) in rw (eq-eqb x e s) (omega arith)

pub tail_from : (o : Option Ends) (v : ℕ) → tail_in o ≡ Some v → (x : Ends) × (o ≡ Some x) × (x.tail ≡ v)
tail_from None v h = cc
tail_from (Some x) v h = (x, refl, let q : Some x.tail ≡ Some v = h in cc)

pub head_from : (o : Option Ends) (v : ℕ) → head_in o ≡ Some v → (x : Ends) × (o ≡ Some x) × (x.head ≡ v)
head_from None v h = cc
head_from (Some x) v h = (x, refl, let q : Some x.head ≡ Some v = h in cc)

-- the first edge out of a node leaves it
pub first_out_ends : (g : Graph) (v e : ℕ) → IsIncidence g → front (out_list g v) ≡ Some e → (x : Ends) × (ends_at g e ≡ Some x) × (x.tail ≡ v)
first_out_ends g v e i h =
    let o = front_occurs (out_list g v) e h in
    let q = i.outs v e in
    tail_from (ends_at g e) v (owned (tail_in (ends_at g e)) v (omega (arith, o, q)))

pub first_in_ends : (g : Graph) (v e : ℕ) → IsIncidence g → front (in_list g v) ≡ Some e → (x : Ends) × (ends_at g e ≡ Some x) × (x.head ≡ v)
first_in_ends g v e i h =
    let o = front_occurs (in_list g v) e h in
    let q = i.ins v e in
    head_from (ends_at g e) v (owned (head_in (ends_at g e)) v (omega (arith, o, q)))

front_empty : (xs : List ℕ) → front xs ≡ None → xs ≡ []
front_empty [] h = refl
front_empty (x ∷ xs) h = cc

-- where there is no first edge no edge leaves the node, or enters it
pub none_out : (g : Graph) (v e : ℕ) (x : Ends) → IsIncidence g → front (out_list g v) ≡ None → ends_at g e ≡ Some x → x.tail ≢ v
none_out g v e x i h is t =
    let q = i.outs v e in
    let q2 = rw (front_empty (out_list g v) h, is, eq-eqb x.tail v t) at q in
    omega (arith, q2)

pub none_in : (g : Graph) (v e : ℕ) (x : Ends) → IsIncidence g → front (in_list g v) ≡ None → ends_at g e ≡ Some x → x.head ≢ v
none_in g v e x i h is t =
    let q = i.ins v e in
    let q2 = rw (front_empty (in_list g v) h, is, eq-eqb x.head v t) at q in
    omega (arith, q2)

-- ---- one more place of an index is used

pub one_less : {T : Type 0} (xs : List (Option T)) (i : ℕ) (x : T) → i < length xs → get_or xs i None ≡ None → count_by is_none (set xs i (Some x)) + 1 ≡ count_by is_none xs
one_less [] i x l h = absurd (omega arith)
one_less {T} (y ∷ ys) zero x l h =
    let one : Option T → ℕ = λ o. cond (is_none o) 1 0 in
    let a = sum_by-cons one y ys in
    let b = sum_by-cons one (Some x) ys in
    let c : one y ≡ 1 = ap one h in
    omega (arith, a, b, c)
one_less {T} (y ∷ ys) (suc i) x l h =
    let one : Option T → ℕ = λ o. cond (is_none o) 1 0 in
    let a = sum_by-cons one y ys in
    let b = sum_by-cons one y (set ys i (Some x)) in
    let r = one_less ys i x (omega (arith, l)) h in
    omega (arith, a, b, r)

-- ---- an index of which no place is used

abbrev pub no_places : ℕ → List (Option ℕ)
no_places n = replicate n None

pub none_placed : (n v : ℕ) → get_or (no_places n) v None ≡ None
none_placed zero v = refl
none_placed (suc n) zero = refl
none_placed (suc n) (suc v) = none_placed n v
