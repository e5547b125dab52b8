-- The docks of a child, each once, and their lanes, by the numbers of spots.
use Rattle.std.proofs.Common.{◌≡◌, ◌≢◌, ℕ, zero, suc, ◌+◌, ◌-◌, ◌<◌, ◌≤◌, ◌==◌, List, [], ◌∷◌, ◌++◌, length, map, take, get_or, Bool, true, false, not, ◌&&◌, ◌||◌, cond, refl, sym, ◌∙◌, ap, subst, inl, inr, arith, append_assoc, append-nil, eq-eqb, ne_eqb}
use Rattle.std.specs.List.{filter, list_any, range_with_len, All}
use Rattle.std.proofs.lemmas.Bool.{cases_Bool}
use Rattle.std.proofs.lemmas.List.{length-map, take_more, take_all, map-append}
use Rattle.std.proofs.lemmas.List.Elements.{All-nil, All-cons, All-head, All-tail, All-map, All-filter, filter-append}
use Rattle.std.proofs.lemmas.List.Folds.{list_any-append, list_any_none, list_any_at}
use Rattle.std.proofs.lemmas.List.FromFn.{get_or-range_with_len, length-range_with_len}
use Rattle.drawing_types.specs.declared.shape.Dock.{Dock}
use Rattle.level_model.specs.Stage.{Line}
use Rattle.level_model.specs.Lanes.{dock_eq, line_eq, once, place_of_line}
use Rattle.dock_table.specs.Lanes.{first_same, same_dock}
use Rattle.dock_table.specs.Outlines.{dock_in}
use Rattle.dock_table.proofs.EndLemmas.{range_split}
use Rattle.dock_table.proofs.FirstLemmas.{filter_more_no, filter_more_yes, first_found}
use Rattle.dock_table.proofs.LaneLemmas.{any_more, or_true}

once_bits : (test : Dock → Bool) (d : Dock) (b c : Bool) → test d ≡ not c → filter test (cond b [] (d ∷ [])) ≡ cond (c || b) [] (d ∷ [])
once_bits test d true c e = sym (ap (λ x. cond x [] (d ∷ [])) (or_true c))
once_bits test d false true e = rw e refl
once_bits test d false false e = rw e refl

once_more : (ds : List Dock) (d : Dock) → once (ds ++ d ∷ []) ≡ once ds ++ cond (list_any (λ k. dock_eq k d) ds) [] (d ∷ [])
once_more [] d = refl
once_more (x ∷ ds) d =
    let b : Bool = list_any (λ k. dock_eq k d) ds in
    ap (λ ks. x ∷ filter (λ k. not (dock_eq x k)) ks) (once_more ds d)
    ∙ ap (λ ks. x ∷ ks) (filter-append (λ k. not (dock_eq x k)) (once ds) (cond (list_any (λ k. dock_eq k d) ds) [] (d ∷ [])))
    ∙ ap (λ ks. x ∷ (filter (λ k. not (dock_eq x k)) (once ds) ++ ks)) (once_bits (λ k. not (dock_eq x k)) d (list_any (λ k. dock_eq k d) ds) (dock_eq x d) refl)

-- ---- tests over the numbers below a bound

pub any_same : (f g : ℕ → Bool) (n : ℕ) → ((m : ℕ) → m < n → f m ≡ g m) → list_any f (range_with_len 0 n) ≡ list_any g (range_with_len 0 n)
any_same f g zero h = refl
any_same f g (suc n) h =
    let e : suc n ≡ n + 1 = omega arith in
    subst (λ x. list_any f (range_with_len 0 x) ≡ list_any g (range_with_len 0 x)) (sym e) (any_more f n ∙ ap (λ b. b || f n) (any_same f g n (λ m less. h m (omega (arith, less)))) ∙ ap (λ b. list_any g (range_with_len 0 n) || b) (h n (omega arith)) ∙ sym (any_more g n))

pub filter_same : (f g : ℕ → Bool) (n : ℕ) → ((m : ℕ) → m < n → f m ≡ g m) → filter f (range_with_len 0 n) ≡ filter g (range_with_len 0 n)
filter_same f g zero h = refl
filter_same f g (suc n) h =
    let e : suc n ≡ n + 1 = omega arith in
    let rest = filter_same f g n (λ m less. h m (omega (arith, less))) in
    let here = h n (omega arith) in
    elim (cases_Bool (f n)) [
      | inl passed ↦ subst (λ x. filter f (range_with_len 0 x) ≡ filter g (range_with_len 0 x)) (sym e) (filter_more_yes f n passed ∙ ap (λ ns. ns ++ n ∷ []) rest ∙ sym (filter_more_yes g n (sym here ∙ passed)))
      | inr no_test ↦ subst (λ x. filter f (range_with_len 0 x) ≡ filter g (range_with_len 0 x)) (sym e) (filter_more_no f n no_test ∙ rest ∙ sym (filter_more_no g n (sym here ∙ no_test)))
    ]

pub filter_map : {X Y : Type 0} (test : Y → Bool) (g : X → Y) (xs : List X) → filter test (map g xs) ≡ map g (filter (λ x. test (g x)) xs)
filter_map test g [] = refl
filter_map test g (x ∷ xs) = let h = filter_map test g xs in elim (cases_Bool (test (g x))) [ inl passed ↦ rw (passed, h) refl | inr no_test ↦ rw (no_test, h) refl ]

pub filter_twice : {X : Type 0} (p q : X → Bool) (xs : List X) → filter p (filter q xs) ≡ filter (λ x. q x && p x) xs
filter_twice p q [] = refl
filter_twice p q (x ∷ xs) = let h = filter_twice p q xs in elim (cases_Bool (q x)) [
  | inr no_test ↦ rw (no_test, h) refl
  | inl passed ↦ elim (cases_Bool (p x)) [ inl too ↦ rw (passed, too, h) refl | inr no_other ↦ rw (passed, no_other, h) refl ]
]

pub any_take : {X : Type 0} (test : X → Bool) (xs : List X) (d : X) (i : ℕ) → i ≤ length xs → list_any test (take i xs) ≡ list_any (λ m. test (get_or xs m d)) (range_with_len 0 i)
any_take test xs d zero h = refl
any_take test xs d (suc i) h =
    let e : suc i ≡ i + 1 = omega arith in
    subst (λ x. list_any test (take x xs) ≡ list_any (λ m. test (get_or xs m d)) (range_with_len 0 x)) (sym e) (ap (list_any test) (take_more xs i d (omega (arith, h))) ∙ list_any-append test (take i xs) (get_or xs i d ∷ []) ∙ ap (λ b. list_any test (take i xs) || b) (or_false (test (get_or xs i d)))
    ∙ ap (λ b. b || test (get_or xs i d)) (any_take test xs d i (omega (arith, h))) ∙ sym (any_more (λ m. test (get_or xs m d)) i))
  where
    or_false : (b : Bool) → (b || false) ≡ b
    or_false true = refl
    or_false false = refl

pub any_list : {X : Type 0} (test : X → Bool) (xs : List X) (d : X) → list_any test xs ≡ list_any (λ m. test (get_or xs m d)) (range_with_len 0 (length xs))
any_list test xs d = ap (list_any test) (sym (take_all (length xs) xs (omega arith))) ∙ any_take test xs d (length xs) (omega arith)

range_all : (P : ℕ → Type 0) (a m : ℕ) → ((k : ℕ) → a ≤ k → k < a + m → P k) → All P (range_with_len a m)
range_all P a zero h = All-nil P
range_all P a (suc m) h = All-cons P a (range_with_len (a + 1) m) (h a (omega arith) (omega arith)) (range_all P (a + 1) m (λ k low less. h k (omega (arith, low)) (omega (arith, less))))

-- a spot is the first of its dock where no spot before it has the dock
first_is_new : (docks : List Dock) (i : ℕ) → (first_same docks i == i) ≡ not (list_any (λ m. same_dock (dock_in docks m) (dock_in docks i)) (range_with_len 0 i))
first_is_new docks i =
    let is = first_found (λ m. same_dock (dock_in docks m) (dock_in docks i)) 0 i i in
    elim is.found [
      | inl at ↦
          let n : ℕ = first_same docks i in
          let less = at.1 in
          let ne : first_same docks i ≢ i = λ e. omega (arith, less, e) in
          let read : get_or (range_with_len 0 i) (first_same docks i) 0 ≡ first_same docks i = get_or-range_with_len 0 i (first_same docks i) 0 (omega (arith, less)) ∙ (let z : 0 + first_same docks i ≡ first_same docks i = omega arith in z) in
          let inside : first_same docks i < length (range_with_len 0 i) = let long = length-range_with_len 0 i in omega (arith, less, long) in
          let some = list_any_at (λ m. same_dock (dock_in docks m) (dock_in docks i)) (range_with_len 0 i) (first_same docks i) 0 inside (ap (λ m. same_dock (dock_in docks m) (dock_in docks i)) read ∙ at.2) in
          ne_eqb (first_same docks i) i ne ∙ sym (ap not some)
      | inr none ↦
          let all = list_any_none (λ m. same_dock (dock_in docks m) (dock_in docks i)) (range_with_len 0 i) (range_all (λ m. same_dock (dock_in docks m) (dock_in docks i) ≡ false) 0 i (λ k low less. none.1 k low less)) in
          eq-eqb (first_same docks i) i none.0 ∙ sym (ap not all)
    ]

pub eq_same : (d k : Dock) → d.node ≡ k.node → dock_eq d k ≡ same_dock d k
eq_same d k e = rw (eq-eqb d.node k.node e) refl

pub once_upto : (docks : List Dock) (c i : ℕ) → ((m : ℕ) → m < length docks → (dock_in docks m).node ≡ c) → i ≤ length docks → once (take i docks) ≡ map (dock_in docks) (filter (λ m. first_same docks m == m) (range_with_len 0 i))
once_upto docks c zero nodes h = refl
once_upto docks c (suc i) nodes h =
    let e : suc i ≡ i + 1 = omega arith in
    let rest = once_upto docks c i nodes (omega (arith, h)) in
    let d : Dock = dock_in docks i in
    let test : ℕ → Bool = λ m. first_same docks m == m in
    let any : list_any (λ k. dock_eq k (dock_in docks i)) (take i docks) ≡ list_any (λ m. same_dock (dock_in docks m) (dock_in docks i)) (range_with_len 0 i) =
    any_take (λ k. dock_eq k (dock_in docks i)) docks (dock_in [] 0) i (omega (arith, h))
    ∙ any_same (λ m. dock_eq (dock_in docks m) (dock_in docks i)) (λ m. same_dock (dock_in docks m) (dock_in docks i)) i
    (λ m less. eq_same (dock_in docks m) (dock_in docks i) (nodes m (omega (arith, less, h)) ∙ sym (nodes i (omega (arith, h)))))
    in
    let new = first_is_new docks i in
    let start : once (take (i + 1) docks) ≡ map (dock_in docks) (filter (λ m. first_same docks m == m) (range_with_len 0 i)) ++ cond (list_any (λ m. same_dock (dock_in docks m) (dock_in docks i)) (range_with_len 0 i)) [] (dock_in docks i ∷ []) =
    ap once (take_more docks i (dock_in [] 0) (omega (arith, h)))
    ∙ once_more (take i docks) (dock_in docks i)
    ∙ ap (λ ks. ks ++ cond (list_any (λ k. dock_eq k (dock_in docks i)) (take i docks)) [] (dock_in docks i ∷ [])) rest
    ∙ ap (λ b. map (dock_in docks) (filter (λ m. first_same docks m == m) (range_with_len 0 i)) ++ cond b [] (dock_in docks i ∷ [])) any
    in
    elim (cases_Bool (list_any (λ m. same_dock (dock_in docks m) (dock_in docks i)) (range_with_len 0 i))) [
      | inl old ↦
          subst (λ x. once (take x docks) ≡ map (dock_in docks) (filter (λ m. first_same docks m == m) (range_with_len 0 x))) (sym e) (start ∙ ap (λ b. map (dock_in docks) (filter (λ m. first_same docks m == m) (range_with_len 0 i)) ++ cond b [] (dock_in docks i ∷ [])) old
          ∙ append-nil (map (dock_in docks) (filter (λ m. first_same docks m == m) (range_with_len 0 i)))
          ∙ sym (ap (map (dock_in docks)) (filter_more_no (λ m. first_same docks m == m) i (new ∙ ap not old))))
      | inr fresh ↦
          subst (λ x. once (take x docks) ≡ map (dock_in docks) (filter (λ m. first_same docks m == m) (range_with_len 0 x))) (sym e) (start ∙ ap (λ b. map (dock_in docks) (filter (λ m. first_same docks m == m) (range_with_len 0 i)) ++ cond b [] (dock_in docks i ∷ [])) fresh
          ∙ sym (map-append (dock_in docks) (filter (λ m. first_same docks m == m) (range_with_len 0 i)) (i ∷ []))
          ∙ sym (ap (map (dock_in docks)) (filter_more_yes (λ m. first_same docks m == m) i (new ∙ ap not fresh))))
    ]

pub once_all : (docks : List Dock) (c : ℕ) → ((m : ℕ) → m < length docks → (dock_in docks m).node ≡ c) → once docks ≡ map (dock_in docks) (filter (λ m. first_same docks m == m) (range_with_len 0 (length docks)))
once_all docks c nodes = ap once (sym (take_all (length docks) docks (omega arith))) ∙ once_upto docks c (length docks) nodes (omega arith)

-- ---- places of lines

place_skip : (ks ms : List Line) (m : Line) → All (λ k. line_eq k m ≡ false) ks → place_of_line (ks ++ ms) m ≡ length ks + place_of_line ms m
place_skip [] ms m all = omega arith
place_skip (k ∷ ks) ms m all =
    let other = All-head (λ x. line_eq x m ≡ false) k ks all in
    let rest = place_skip ks ms m (All-tail (λ x. line_eq x m ≡ false) k ks all) in
    rw other (omega (arith, rest))

-- behind lines that are others, the place of a line among those of numbers that pass a test
pub place_tested : (front : List Line) (g : ℕ → Line) (test : ℕ → Bool) (n j : ℕ) (rest : List Line) → j < n → test j ≡ true → All (λ k. line_eq k (g j) ≡ false) front → ((m : ℕ) → m < j → line_eq (g m) (g j) ≡ false) → line_eq (g j) (g j) ≡ true
    → place_of_line (front ++ (map g (filter test (range_with_len 0 n)) ++ rest)) (g j) ≡ length front + length (filter test (range_with_len 0 j))
place_tested front g test n j rest h passed others before self =
    let k : ℕ = n - (j + 1) in
    let count : n ≡ (j + 1) + (n - (j + 1)) = omega (arith, h) in
    let post : List ℕ = filter test (range_with_len (0 + (j + 1)) (n - (j + 1))) in
    let split : filter test (range_with_len 0 n) ≡ (filter test (range_with_len 0 j) ++ j ∷ []) ++ filter test (range_with_len (0 + (j + 1)) (n - (j + 1))) =
    ap (λ x. filter test (range_with_len 0 x)) count
    ∙ ap (filter test) (range_split 0 (j + 1) (n - (j + 1)))
    ∙ filter-append test (range_with_len 0 (j + 1)) (range_with_len (0 + (j + 1)) (n - (j + 1)))
    ∙ ap (λ ns. ns ++ filter test (range_with_len (0 + (j + 1)) (n - (j + 1)))) (filter_more_yes test j passed)
    in
    let pre : List ℕ = filter test (range_with_len 0 j) in
    let mapped : map g (filter test (range_with_len 0 n)) ++ rest ≡ map g (filter test (range_with_len 0 j)) ++ (g j ∷ (map g (filter test (range_with_len (0 + (j + 1)) (n - (j + 1)))) ++ rest)) =
    ap (λ ns. map g ns ++ rest) split
    ∙ ap (λ ms. ms ++ rest) (map-append g (filter test (range_with_len 0 j) ++ j ∷ []) (filter test (range_with_len (0 + (j + 1)) (n - (j + 1)))))
    ∙ ap (λ ms. (ms ++ map g (filter test (range_with_len (0 + (j + 1)) (n - (j + 1))))) ++ rest) (map-append g (filter test (range_with_len 0 j)) (j ∷ []))
    ∙ append_assoc (map g (filter test (range_with_len 0 j)) ++ g j ∷ []) (map g (filter test (range_with_len (0 + (j + 1)) (n - (j + 1))))) rest
    ∙ append_assoc (map g (filter test (range_with_len 0 j))) (g j ∷ []) (map g (filter test (range_with_len (0 + (j + 1)) (n - (j + 1)))) ++ rest)
    in
    let earlier : All (λ x. line_eq x (g j) ≡ false) (map g (filter test (range_with_len 0 j))) =
    All-map (λ x. line_eq x (g j) ≡ false) g (filter test (range_with_len 0 j))
    (All-filter test (λ m. line_eq (g m) (g j) ≡ false) (range_with_len 0 j) (range_all (λ m. line_eq (g m) (g j) ≡ false) 0 j (λ m low less. before m (omega (arith, less)))))
    in
    let skip = place_skip front (map g (filter test (range_with_len 0 j)) ++ (g j ∷ (map g (filter test (range_with_len (0 + (j + 1)) (n - (j + 1)))) ++ rest))) (g j) others in
    let skip_more = place_skip (map g (filter test (range_with_len 0 j))) (g j ∷ (map g (filter test (range_with_len (0 + (j + 1)) (n - (j + 1)))) ++ rest)) (g j) earlier in
    let here : place_of_line (g j ∷ (map g (filter test (range_with_len (0 + (j + 1)) (n - (j + 1)))) ++ rest)) (g j) ≡ 0 = rw self refl in
    let long = length-map (filter test (range_with_len 0 j)) g in
    ap (λ ms. place_of_line (front ++ ms) (g j)) mapped ∙ omega (arith, skip, skip_more, here, long)
