-- Ends in document order, and their places among some of them.
use Rattle.std.proofs.Common.{◌≡◌, ℕ, zero, suc, ◌+◌, ◌≤◌, ◌==◌, List, [], ◌∷◌, ◌++◌, length, Bool, true, false, not, cond, refl, sym, ◌∙◌, ap, arith, add-zero, append_assoc, ne_eqb}
use Rattle.std.specs.List.{filter, All, range_with_len}
use Rattle.std.proofs.lemmas.Bool.{and_left, and_right}
use Rattle.std.proofs.lemmas.List.Elements.{All-nil, All-cons, All-head, All-tail, All-filter, All-weaker}
use Rattle.level_model.specs.Level.{End, end_at, end_eq, ends_of_edges, place_of_end}
use Rattle.level_model.proofs.NumberedSpots.{end_eq-self}

-- no two ends of the list are the same
abbrev pub Differ : List End → Type 0
Differ [] = Unit {0}
Differ (n ∷ ns) = (All (λ m. end_eq n m ≡ false) ns) × Differ ns

pub range_more : (a n : ℕ) → range_with_len a (n + 1) ≡ range_with_len a n ++ (a + n) ∷ []
range_more a zero = rw (add-zero a) refl
range_more a (suc n) =
    let e : suc n + 1 ≡ suc (n + 1) = omega arith in
    let h = range_more (a + 1) n in
    let s : a + 1 + n ≡ a + suc n = omega arith in
    rw (e, h, s) refl

pub range_split : (a n k : ℕ) → range_with_len a (n + k) ≡ range_with_len a n ++ range_with_len (a + n) k
range_split a zero k = let e : 0 + k ≡ k = omega arith in rw (e, add-zero a) refl
range_split a (suc n) k =
    let e : suc n + k ≡ suc (n + k) = omega arith in
    let h = range_split (a + 1) n k in
    let s : a + 1 + n ≡ a + suc n = omega arith in
    rw (e, h, s) refl

pub ends_append : (xs ys : List ℕ) → ends_of_edges (xs ++ ys) ≡ ends_of_edges xs ++ ends_of_edges ys
ends_append [] ys = refl
ends_append (x ∷ xs) ys = ap (λ ns. end_at x true ∷ end_at x false ∷ ns) (ends_append xs ys)

-- the ends of one more edge
pub ends_more : (e : ℕ) → ends_of_edges (range_with_len 0 (e + 1)) ≡ (ends_of_edges (range_with_len 0 e) ++ end_at e true ∷ []) ++ end_at e false ∷ []
ends_more e =
    let zero_plus : 0 + e ≡ e = omega arith in
    ap ends_of_edges (range_more 0 e)
    ∙ ends_append (range_with_len 0 e) ((0 + e) ∷ [])
    ∙ ap (λ x. ends_of_edges (range_with_len 0 e) ++ end_at x true ∷ end_at x false ∷ []) zero_plus
    ∙ sym (append_assoc (ends_of_edges (range_with_len 0 e)) (end_at e true ∷ []) (end_at e false ∷ []))

-- all ends, split before the two of an edge
pub ends_split : (e m : ℕ) → ends_of_edges (range_with_len 0 (e + suc m)) ≡ ends_of_edges (range_with_len 0 e) ++ end_at e true ∷ end_at e false ∷ ends_of_edges (range_with_len (e + 1) m)
ends_split e m =
    let zero_plus : 0 + e ≡ e = omega arith in
    ap ends_of_edges (range_split 0 e (suc m))
    ∙ ends_append (range_with_len 0 e) (range_with_len (0 + e) (suc m))
    ∙ ap (λ x. ends_of_edges (range_with_len 0 e) ++ end_at x true ∷ end_at x false ∷ ends_of_edges (range_with_len (x + 1) m)) zero_plus

ends_from : (a m : ℕ) → All (λ (n : End). a ≤ n.edge) (ends_of_edges (range_with_len a m))
ends_from a zero = All-nil (λ (n : End). a ≤ n.edge)
ends_from a (suc m) =
    All-cons (λ (n : End). a ≤ n.edge) (end_at a true) (end_at a false ∷ ends_of_edges (range_with_len (a + 1) m)) (omega arith)
    (All-cons (λ (n : End). a ≤ n.edge) (end_at a false) (ends_of_edges (range_with_len (a + 1) m)) (omega arith)
    (All-weaker (λ (n : End). a + 1 ≤ n.edge) (λ (n : End). a ≤ n.edge) (λ n h. omega (arith, h)) (ends_of_edges (range_with_len (a + 1) m)) (ends_from (a + 1) m)))

other_edge : (m n : End) → m.edge + 1 ≤ n.edge → end_eq m n ≡ false
other_edge m n h = and_left (m.edge == n.edge) (cond m.at_source n.at_source (not n.at_source)) (ne_eqb m.edge n.edge (λ e. omega (arith, h, e)))

pub ends_differ : (a m : ℕ) → Differ (ends_of_edges (range_with_len a m))
ends_differ a zero = tt
ends_differ a (suc m) =
    let later : (t : Bool) → All (λ n. end_eq (end_at a t) n ≡ false) (ends_of_edges (range_with_len (a + 1) m)) = λ t.
    All-weaker (λ (n : End). a + 1 ≤ n.edge) (λ n. end_eq (end_at a t) n ≡ false) (λ n h. other_edge (end_at a t) n h) (ends_of_edges (range_with_len (a + 1) m)) (ends_from (a + 1) m)
    in (
      All-cons (λ n. end_eq (end_at a true) n ≡ false) (end_at a false) (ends_of_edges (range_with_len (a + 1) m)) (and_right (a == a) false refl) (later true),
      (later false, ends_differ (a + 1) m),
    )

cons_filter : (test : End → Bool) (b : Bool) (n : End) (ns : List End) → All (λ m. end_eq n m ≡ false) (filter test ns) → Differ (filter test ns) → Differ (cond b (n ∷ filter test ns) (filter test ns))
cons_filter test true n ns all rest = (all, rest)
cons_filter test false n ns all rest = rest

pub differ_filter : (test : End → Bool) (ns : List End) → Differ ns → Differ (filter test ns)
differ_filter test [] d = tt
differ_filter test (n ∷ ns) d = cons_filter test (test n) n ns (All-filter test (λ m. end_eq n m ≡ false) ns d.0) (differ_filter test ns d.1)

middle : (P : End → Type 0) (pre : List End) (n : End) (post : List End) → All P (pre ++ n ∷ post) → P n
middle P [] n post all = All-head P n post all
middle P (m ∷ pre) n post all = middle P pre n post (All-tail P m (pre ++ n ∷ post) all)

-- an end's place among ends that differ is the number of those before it
pub place_there : (pre : List End) (n : End) (post : List End) → Differ (pre ++ n ∷ post) → place_of_end (pre ++ n ∷ post) n ≡ length pre
place_there [] n post d = rw (end_eq-self n) refl
place_there (m ∷ pre) n post d =
    let rest = place_there pre n post d.1 in
    let other : end_eq m n ≡ false = middle (λ k. end_eq m k ≡ false) pre n post d.0 in
    rw other (omega (arith, rest))
