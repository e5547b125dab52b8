-- The rows of a drawing, woven from left to right, order its blocks.
use Rattle.std.proofs.Common.{◌≡◌, ◌≢◌, ℕ, zero, suc, ◌+◌, ◌<◌, ◌≤◌, List, [], ◌∷◌, length, map, get_or, true, false, arith, refl, sym, ◌∙◌, ap, subst, inl, inr, ⊎_elim, ltb-true, lt-ltb, le-ltb, not}
use Rattle.std.specs.List.{filter}
use Rattle.std.proofs.lemmas.Bool.{cases_order, cases_lt}
use Rattle.std.proofs.lemmas.List.{get_or-map, length-map}
use Rattle.elk_layers.specs.Layered.{Plain, IsSound, AreRows, layer_of, row_at, place_in, place_of, is_child}
use Rattle.unit_blocks.specs.Weaving.{IsSublist, woven, CanWeave}
use Rattle.unit_blocks.specs.Blocks.{AreNames, IsEntered, names_of, is_before, woven_rows, block_order, IsBlockOrder, GoesForward, AreBlockNumbers, IsWovenTo}
use Rattle.unit_blocks.specs.Constraints.{AreBlocks, Rises}
use Rattle.std.proofs.lemmas.List.Elements.{All-filter, All-from_get_or}
use Rattle.unit_blocks.proofs.WeavingLemmas.{woven_names, woven_row, woven_once, woven_occurs, sub_filter, sub_occurs, sub_trans, sub_refl}
use Rattle.elk_layers.specs.Occurring.{occurs, HasNoRepeat}
use Rattle.elk_layers.specs.Straight.{chosen_link, AreStraight}
use Rattle.elk_layers.proofs.OccursLemmas.{occurs_at, no_repeat_from}
use Rattle.elk_layers.proofs.PlaceLemmas.{place_at, place_named, place_below, place_reads, place_once}
use Rattle.unit_blocks.proofs.SublistLemmas.{sub_from, sub_forward}

-- a filter of a list's images is a list of images of a filter
pub map-sub : (f : ℕ → ℕ) (xs ys : List ℕ) → IsSublist xs ys → IsSublist (map f xs) (map f ys)
map-sub f [] ys h = tt
map-sub f (x ∷ xs) [] h = absurd h
map-sub f (x ∷ xs) (y ∷ ys) (inl h) = inl (ap f h.0, map-sub f xs ys h.1)
map-sub f (x ∷ xs) (y ∷ ys) (inr h) = inr (map-sub f (x ∷ xs) ys h)

module _ (l : Plain) (rows : List (List ℕ)) (chosen names : List ℕ) (sound : IsSound l) (are : AreRows l rows) (straight : AreStraight l rows chosen) (named : AreNames l chosen names) where
  abbrev name : ℕ → ℕ
  name u = get_or names u 0

  abbrev tail_of : (u : ℕ) → IsEntered l chosen u → ℕ
  tail_of u e = (chosen_link l chosen e.number).tail

  tail_in_range : (u : ℕ) (e : IsEntered l chosen u) → tail_of u e < length l.units
  tail_in_range u e = (sound.links_are _ (straight.known e.number e.within)).tail

  tail_layer : (u : ℕ) (e : IsEntered l chosen u) → layer_of l u ≡ layer_of l (tail_of u e) + 1
  tail_layer u e = subst (λ v. layer_of l v ≡ layer_of l (tail_of u e) + 1) e.head_is (sound.links_are _ (straight.known e.number e.within)).next_layer

  tail_name : (u : ℕ) (e : IsEntered l chosen u) → name (tail_of u e) ≡ name u
  tail_name u e = named.joined e.number e.within ∙ ap name e.head_is

  -- a block's name is a unit of its leftmost layer
  pub name_low : (g u : ℕ) → u < length l.units → layer_of l u ≡ g → layer_of l (name u) ≤ g
  name_low zero u h is = elim (named.first u h) [
    | inl own ↦ let e : layer_of l (name u) ≡ layer_of l u = ap (layer_of l) own in omega (arith, e, is)
    | inr e ↦ let t = tail_layer u e in absurd (omega (arith, t, is))
  ]
  name_low (suc g) u h is = elim (named.first u h) [
    | inl own ↦ let e : layer_of l (name u) ≡ layer_of l u = ap (layer_of l) own in omega (arith, e, is)
    | inr e ↦
        let t = tail_layer u e in
        let low = name_low g (tail_of u e) (tail_in_range u e) (omega (arith, t, is)) in
        let same : layer_of l (name (tail_of u e)) ≡ layer_of l (name u) = ap (layer_of l) (tail_name u e) in
        omega (arith, low, same)
  ]

  -- a block's name is its own unit's name
  name_own : (g u : ℕ) → u < length l.units → layer_of l u ≡ g → (name u < length l.units) × (name (name u) ≡ name u)
  name_own zero u h is = elim (named.first u h) [
    | inl own ↦ (rw own h, ap name own)
    | inr e ↦ let t = tail_layer u e in absurd (omega (arith, t, is))
  ]
  name_own (suc g) u h is = elim (named.first u h) [
    | inl own ↦ (rw own h, ap name own)
    | inr e ↦
        let t = tail_layer u e in
        subst (λ n. (n < length l.units) × (name n ≡ n)) (tail_name u e) (name_own g (tail_of u e) (tail_in_range u e) (omega (arith, t, is)))
  ]

  -- a unit that gives its block the name isn't in a block named by a unit further left
  own_not_entered : (u v : ℕ) → u < length l.units → v < length l.units → layer_of l u ≡ layer_of l v → name u ≡ u → IsEntered l chosen v → name u ≢ name v
  own_not_entered u v hu hv same own e is =
      let low = name_low (layer_of l (tail_of v e)) (tail_of v e) (tail_in_range v e) refl in
      let t = tail_layer v e in
      let names_same : layer_of l u ≡ layer_of l (name (tail_of v e)) = ap (layer_of l) (sym own ∙ is ∙ sym (tail_name v e)) in
      omega (arith, low, t, names_same, same)

  -- links that begin at one unit are one link
  one_link : (u v : ℕ) (d : IsEntered l chosen u) (e : IsEntered l chosen v) → tail_of u d ≡ tail_of v e → u ≡ v
  one_link u v d e same = elim (cases_order d.number e.number) [
    | inl is ↦ sym d.head_is ∙ ap (λ j. (chosen_link l chosen j).head) is ∙ e.head_is
    | inr (inl less) ↦
        let places : place_of l rows (tail_of u d) ≡ place_of l rows (tail_of v e) = ap (place_of l rows) same in
        ⊎_elim (λ b. absurd (omega (arith, places, b.0))) (λ b. absurd (omega (arith, places, b.0)))
        (straight.beside d.number e.number less e.within (ap (layer_of l) same))
    | inr (inr more) ↦
        let places : place_of l rows (tail_of u d) ≡ place_of l rows (tail_of v e) = ap (place_of l rows) same in
        ⊎_elim (λ b. absurd (omega (arith, places, b.0))) (λ b. absurd (omega (arith, places, b.0)))
        (straight.beside e.number d.number more d.within (ap (layer_of l) (sym same)))
  ]

  -- a block has one unit of a layer at most
  pub one_unit : (g u v : ℕ) → u < length l.units → v < length l.units → layer_of l u ≡ g → layer_of l v ≡ g → name u ≡ name v → u ≡ v
  one_unit zero u v hu hv lu lv is = elim (named.first u hu) [
    | inr e ↦ let t = tail_layer u e in absurd (omega (arith, t, lu))
    | inl own_u ↦ elim (named.first v hv) [
      | inr e ↦ let t = tail_layer v e in absurd (omega (arith, t, lv))
      | inl own_v ↦ sym own_u ∙ is ∙ own_v
    ]
  ]
  one_unit (suc g) u v hu hv lu lv is = elim (named.first u hu) [
    | inl own_u ↦ elim (named.first v hv) [
      | inl own_v ↦ sym own_u ∙ is ∙ own_v
      | inr e ↦ absurd (own_not_entered u v hu hv (lu ∙ sym lv) own_u e is)
    ]
    | inr d ↦ elim (named.first v hv) [
      | inl own_v ↦ absurd (own_not_entered v u hv hu (lv ∙ sym lu) own_v d (sym is))
      | inr e ↦
          let s = tail_layer u d in
          let t = tail_layer v e in
          one_link u v d e (one_unit g (tail_of u d) (tail_of v e) (tail_in_range u d) (tail_in_range v e)
          (omega (arith, s, lu)) (omega (arith, t, lv)) (tail_name u d ∙ is ∙ sym (tail_name v e)))
    ]
  ]

  name_row : (r i : ℕ) → i < length (row_at rows r) → get_or (names_of names (row_at rows r)) i 0 ≡ name (get_or (row_at rows r) i 0)
  name_row r i h = get_or-map name (row_at rows r) i 0 0 h

  pub row_names_once : (r : ℕ) → r < length rows → HasNoRepeat (names_of names (row_at rows r))
  row_names_once r h = no_repeat_from (names_of names (row_at rows r)) (λ i j less k is.
      let kj : j < length (row_at rows r) = rw (length-map (row_at rows r) name) at k in
      let ki : i < length (row_at rows r) = omega (arith, less, kj) in
      are.once r h i j less kj (one_unit r _ _ (are.in_range r h i ki) (are.in_range r h j kj) (are.in_layer r h i ki) (are.in_layer r h j kj)
      (sym (name_row r i ki) ∙ is ∙ name_row r j kj)))

  -- of a unit whose block begins further left, the chosen link into it
  entered : (g u : ℕ) → u < length l.units → layer_of l u ≡ g → is_before l g (name u) ≡ true → IsEntered l chosen u
  entered g u h is t = elim (named.first u h) [
    | inr e ↦ e
    | inl own ↦
        let less = ltb-true (layer_of l (name u)) g t in
        let e : layer_of l (name u) ≡ layer_of l u = ap (layer_of l) own in
        absurd (omega (arith, less, e, is))
  ]

  -- the unit's name stands among those of the row before, at the place of the link's tail
  tail_place : (g u : ℕ) → g < length rows → layer_of l u ≡ g + 1 → (e : IsEntered l chosen u)
      → (1 ≤ occurs (name u) (names_of names (row_at rows g))) × (place_in (names_of names (row_at rows g)) (name u) ≡ place_of l rows (tail_of u e))
  tail_place g u h is e =
      let t : layer_of l (tail_of u e) ≡ g = let q = tail_layer u e in omega (arith, q, is) in
      let has = are.complete (tail_of u e) (tail_in_range u e) in
      let row : row_at rows (layer_of l (tail_of u e)) ≡ row_at rows g = ap (row_at rows) t in
      let within : has.place < length (row_at rows g) = subst (λ xs. has.place < length xs) row has.within in
      let reads : get_or (row_at rows g) has.place 0 ≡ tail_of u e = subst (λ xs. get_or xs has.place 0 ≡ tail_of u e) row has.unit_is in
      let shows : get_or (names_of names (row_at rows g)) has.place 0 ≡ name u = name_row g has.place within ∙ ap name reads ∙ tail_name u e in
      let long : has.place < length (names_of names (row_at rows g)) = rw (length-map (row_at rows g) name) within in
      let at : place_in (names_of names (row_at rows g)) (name (tail_of u e)) ≡ place_in (row_at rows g) (tail_of u e) =
      place_named name (row_at rows g) (tail_of u e) (λ i k same.
      one_unit g _ _ (are.in_range g h i k) (tail_in_range u e) (are.in_layer g h i k) t same) in (
        subst (λ n. 1 ≤ occurs n (names_of names (row_at rows g))) shows (occurs_at (names_of names (row_at rows g)) has.place long),
        ap (place_in (names_of names (row_at rows g))) (sym (tail_name u e)) ∙ at ∙ ap (λ xs. place_in xs (tail_of u e)) (sym row),
      )

  head_place : (g i : ℕ) → g < length rows → i < length (row_at rows g) → place_of l rows (get_or (row_at rows g) i 0) ≡ i
  head_place g i h k =
      ap (λ r. place_in (row_at rows r) (get_or (row_at rows g) i 0)) (are.in_layer g h i k)
      ∙ place_at (row_at rows g) (are.once g h) i k

  -- of two units of a row that chosen links enter, the first has the first tail
  tails_ascend : (g i j : ℕ) → g + 1 < length rows → i < j → j < length (row_at rows (g + 1))
      → (d : IsEntered l chosen (get_or (row_at rows (g + 1)) i 0)) (e : IsEntered l chosen (get_or (row_at rows (g + 1)) j 0))
      → place_of l rows (tail_of _ d) < place_of l rows (tail_of _ e)
  tails_ascend g i j h less kj d e =
      let ki : i < length (row_at rows (g + 1)) = omega (arith, less, kj) in
      let a : place_of l rows (chosen_link l chosen d.number).head ≡ i = ap (place_of l rows) d.head_is ∙ head_place (g + 1) i h ki in
      let b : place_of l rows (chosen_link l chosen e.number).head ≡ j = ap (place_of l rows) e.head_is ∙ head_place (g + 1) j h kj in
      let s = tail_layer _ d in
      let t = tail_layer _ e in
      let li = are.in_layer (g + 1) h i ki in
      let lj = are.in_layer (g + 1) h j kj in
      let gap : layer_of l (tail_of _ d) ≡ layer_of l (tail_of _ e) = omega (arith, s, t, li, lj) in
      elim (cases_order d.number e.number) [
        | inl is ↦
            let c : place_of l rows (chosen_link l chosen d.number).head ≡ place_of l rows (chosen_link l chosen e.number).head =
            ap (λ n. place_of l rows (chosen_link l chosen n).head) is in
            absurd (omega (arith, a, b, c, less))
        | inr (inl before) ↦
            ⊎_elim (λ x. x.0) (λ x. absurd (omega (arith, a, b, x.1, less))) (straight.beside d.number e.number before e.within gap)
        | inr (inr after) ↦
            ⊎_elim (λ x. absurd (omega (arith, a, b, x.1, less))) (λ x. x.0) (straight.beside e.number d.number after d.within (sym gap))
      ]

  -- the names that the row after takes over stand in the row's order
  pub kept_in_order : (g : ℕ) → g + 1 < length rows
      → IsSublist (filter (is_before l (g + 1)) (names_of names (row_at rows (g + 1)))) (names_of names (row_at rows g))
  kept_in_order g h =
      let row : List ℕ = row_at rows (g + 1) in
      let here : List ℕ = names_of names (row_at rows g) in
      let in_row : (i : ℕ) → i < length (map name row) → i < length row = λ i k. rw (length-map row name) at k in
      let hg : g < length rows = omega (arith, h) in
      let enters : (i : ℕ) → i < length row → is_before l (g + 1) (get_or (map name row) i 0) ≡ true → IsEntered l chosen (get_or row i 0) =
      λ i k t. entered (g + 1) (get_or row i 0) (are.in_range (g + 1) h i k) (are.in_layer (g + 1) h i k)
      (subst (λ n. is_before l (g + 1) n ≡ true) (name_row (g + 1) i k) t) in
      let at : (i : ℕ) (k : i < length row) (e : IsEntered l chosen (get_or row i 0))
      → (1 ≤ occurs (get_or (map name row) i 0) here) × (place_in here (get_or (map name row) i 0) ≡ place_of l rows (tail_of _ e)) =
      λ i k e. subst (λ n. (1 ≤ occurs n here) × (place_in here n ≡ place_of l rows (tail_of _ e))) (sym (name_row (g + 1) i k))
      (tail_place g (get_or row i 0) hg (are.in_layer (g + 1) h i k) e) in
      sub_from (is_before l (g + 1)) here 0 (map name row)
      (λ i k t. ((at i (in_row i k) (enters i (in_row i k) t)).0, omega arith))
      (λ i j less k ti tj.
      let kj = in_row j k in
      let ki : i < length row = omega (arith, less, kj) in
      let a = (at i ki (enters i ki ti)).1 in
      let b = (at j kj (enters j kj tj)).1 in
      let up = tails_ascend g i j h less kj (enters i ki ti) (enters j kj tj) in
      omega (arith, a, b, up))

  abbrev IsWoven : ℕ → List ℕ → Type 0
  IsWoven g order = IsWovenTo l rows names g order

  taken_in_order : (g : ℕ) (order : List ℕ) → g < length rows → IsWoven g order → IsSublist (filter (is_before l g) (names_of names (row_at rows g))) order
  taken_in_order zero order h w =
      sub_from (is_before l 0) order 0 (names_of names (row_at rows 0))
      (λ i k t. absurd (let bad = ltb-true (layer_of l (get_or (names_of names (row_at rows 0)) i 0)) 0 t in omega (arith, bad)))
      (λ i j less k t. absurd (let bad = ltb-true (layer_of l (get_or (names_of names (row_at rows 0)) i 0)) 0 t in omega (arith, bad)))
  taken_in_order (suc g) order h w =
      let n : g + 1 ≡ suc g = omega arith in
      sub_trans _ _ _ (rw n at (kept_in_order g (omega (arith, h)))) (w.previous g (sym n))

  pub can_weave : (g : ℕ) (order : List ℕ) → g < length rows → IsWoven g order → CanWeave (is_before l g) order (names_of names (row_at rows g))
  can_weave g order h w =
      record { in_order = taken_in_order g order h w; all_known = λ n k. lt-ltb (layer_of l n) g (w.below n k) }

  row_name_low : (g n : ℕ) → g < length rows → 1 ≤ occurs n (names_of names (row_at rows g)) → layer_of l n ≤ g
  row_name_low g n h k =
      let xs : List ℕ = names_of names (row_at rows g) in
      let i : ℕ = place_in xs n in
      let ki : i < length (row_at rows g) = rw (length-map (row_at rows g) name) at (place_below n xs k) in
      let is : name (get_or (row_at rows g) i 0) ≡ n = sym (name_row g i ki) ∙ place_reads n xs k in
      subst (λ m. layer_of l m ≤ g) is (name_low g _ (are.in_range g h i ki) (are.in_layer g h i ki))

  row_name_own : (g n : ℕ) → g < length rows → 1 ≤ occurs n (names_of names (row_at rows g)) → (n < length l.units) × (name n ≡ n)
  row_name_own g n h k =
      let xs : List ℕ = names_of names (row_at rows g) in
      let i : ℕ = place_in xs n in
      let ki : i < length (row_at rows g) = rw (length-map (row_at rows g) name) at (place_below n xs k) in
      let is : name (get_or (row_at rows g) i 0) ≡ n = sym (name_row g i ki) ∙ place_reads n xs k in
      subst (λ m. (m < length l.units) × (name m ≡ m)) is (name_own g _ (are.in_range g h i ki) (are.in_layer g h i ki))

  pub weave_on : (g : ℕ) (order : List ℕ) → g < length rows → IsWoven g order → IsWoven (g + 1) (woven (is_before l g) order (names_of names (row_at rows g)))
  weave_on g order h w =
      let can = can_weave g order h w in
      let xs : List ℕ = names_of names (row_at rows g) in
      record {
        once = woven_once (is_before l g) order xs can w.once (row_names_once g h);
        below = λ n k.
            let all = woven_occurs (is_before l g) order xs can n in
            elim (cases_lt 0 (occurs n order)) [
              | inl some ↦ let b = w.below n (omega (arith, some)) in omega (arith, b)
              | inr none ↦
                  let few = sub_occurs (filter (λ m. not (is_before l g m)) xs) xs (sub_filter (λ m. not (is_before l g m)) xs) n in
                  let b = row_name_low g n h (omega (arith, few, all, none, k)) in
                  omega (arith, b)
            ];
        own = λ n k.
            let all = woven_occurs (is_before l g) order xs can n in
            elim (cases_lt 0 (occurs n order)) [
              | inl some ↦ w.own n (omega (arith, some))
              | inr none ↦
                  let few = sub_occurs (filter (λ m. not (is_before l g m)) xs) xs (sub_filter (λ m. not (is_before l g m)) xs) n in
                  row_name_own g n h (omega (arith, few, all, none, k))
            ];
        previous = λ p e.
            let same : g ≡ p = omega (arith, e) in
            subst (λ q. IsSublist (names_of names (row_at rows q)) (woven (is_before l g) order xs)) same (woven_row (is_before l g) order xs);
      }

  record EndsWell (order : List ℕ) (rest : List (List ℕ)) (end : List ℕ) : Type 0 where
    once : HasNoRepeat end
    own : (n : ℕ) → 1 ≤ occurs n end → (n < length l.units) × (name n ≡ n)
    kept : IsSublist order end
    rows_kept : (i : ℕ) → i < length rest → IsSublist (names_of names (row_at rest i)) end

  weave_rest : (rest : List (List ℕ)) (g : ℕ) (order : List ℕ) → ((i : ℕ) → row_at rest i ≡ row_at rows (g + i)) → length rest + g ≡ length rows → IsWoven g order → EndsWell order rest (woven_rows l names g order rest)
  weave_rest [] g order are_rest long w =
      record { once = w.once; own = w.own; kept = sub_refl order; rows_kept = λ i k. absurd (omega (arith, k)) }
  weave_rest (row ∷ rest) g order are_rest long w =
      let h : g < length rows = omega (arith, long) in
      let row_is : row ≡ row_at rows g = are_rest 0 ∙ ap (row_at rows) (omega arith) in
      let can : CanWeave (is_before l g) order (names_of names row) = rw row_is (can_weave g order h w) in
      let next : IsWoven (g + 1) (woven (is_before l g) order (names_of names row)) = rw row_is (weave_on g order h w) in
      let more = weave_rest rest (g + 1) (woven (is_before l g) order (names_of names row))
      (λ i. are_rest (suc i) ∙ ap (row_at rows) (omega arith)) (omega (arith, long)) next in
      record {
        once = more.once;
        own = more.own;
        kept = sub_trans _ _ _ (woven_names (is_before l g) order (names_of names row) can) more.kept;
        rows_kept = kept_at row rest (woven_rows l names (g + 1) (woven (is_before l g) order (names_of names row)) rest)
            (sub_trans _ _ _ (woven_row (is_before l g) order (names_of names row)) more.kept) more.rows_kept;
      }
    where
      kept_at : (row : List ℕ) (rest : List (List ℕ)) (end : List ℕ) → IsSublist (names_of names row) end → ((i : ℕ) → i < length rest → IsSublist (names_of names (row_at rest i)) end) → (i : ℕ) → i < length (row ∷ rest) → IsSublist (names_of names (row_at (row ∷ rest) i)) end
      kept_at row rest end a b zero k = a
      kept_at row rest end a b (suc i) k = b i (omega (arith, k))

  pub nothing_woven : IsWovenTo l rows names 0 []
  nothing_woven = record { once = λ n. omega arith; below = λ n k. absurd (omega (arith, k)); own = λ n k. absurd (omega (arith, k)); previous = λ p e. absurd (omega (arith, e)) }

  pub is_known : (g i : ℕ) → g < length rows → i < length (row_at rows g) → IsEntered l chosen (get_or (row_at rows g) i 0) → is_before l g (name (get_or (row_at rows g) i 0)) ≡ true
  is_known g i h k e =
      let u = get_or (row_at rows g) i 0 in
      let t = tail_layer u e in
      let low = name_low (layer_of l (tail_of u e)) (tail_of u e) (tail_in_range u e) refl in
      let same : layer_of l (name (tail_of u e)) ≡ layer_of l (name u) = ap (layer_of l) (tail_name u e) in
      let at = are.in_layer g h i k in
      lt-ltb (layer_of l (name u)) g (omega (arith, t, low, same, at))

  pub is_new : (g i : ℕ) → g < length rows → i < length (row_at rows g) → name (get_or (row_at rows g) i 0) ≡ get_or (row_at rows g) i 0 → is_before l g (name (get_or (row_at rows g) i 0)) ≡ false
  is_new g i h k own =
      let same : layer_of l (name (get_or (row_at rows g) i 0)) ≡ layer_of l (get_or (row_at rows g) i 0) = ap (layer_of l) own in
      let at = are.in_layer g h i k in
      le-ltb (layer_of l (name (get_or (row_at rows g) i 0))) g (omega (arith, same, at))

  pub block_order_is : IsBlockOrder l rows names (block_order l rows names)
  block_order_is =
      let end = weave_rest rows 0 [] (λ i. ap (row_at rows) (omega arith)) (omega arith) nothing_woven in
      record {
        no_repeat = end.once;
        own = end.own;
        rows_kept = end.rows_kept;
        units = λ r h i k. sub_forward name (row_at rows r) (block_order l rows names) (end.rows_kept r h) end.once i k;
        children = λ r h i k. sub_forward name (filter (is_child l) (row_at rows r)) (block_order l rows names)
            (sub_trans _ _ _ (map-sub name _ _ (sub_filter (is_child l) (row_at rows r))) (end.rows_kept r h)) end.once i k;
      }

  -- each unit's name stands in the order
  pub in_order : (order : List ℕ) → IsBlockOrder l rows names order → (u : ℕ) → u < length l.units → 1 ≤ occurs (name u) order
  in_order order is u h =
      let r = layer_of l u in
      let has = are.complete u h in
      let hr : r < length rows = rw (are.as_many) (sound.layers_are u h) in
      let long : has.place < length (names_of names (row_at rows r)) = rw (length-map (row_at rows r) name) has.within in
      let here = occurs_at (names_of names (row_at rows r)) has.place long in
      let at : get_or (names_of names (row_at rows r)) has.place 0 ≡ name u = name_row r has.place has.within ∙ ap name has.unit_is in
      let some : 1 ≤ occurs (name u) (names_of names (row_at rows r)) = subst (λ n. 1 ≤ occurs n (names_of names (row_at rows r))) at here in
      let more = sub_occurs _ _ (is.rows_kept r hr) (name u) in
      omega (arith, some, more)

  -- the numbers of the blocks in an order
  module _ (order blocks : List ℕ) (is : IsBlockOrder l rows names order) (numbered : AreBlockNumbers l names order blocks) where
    root_is : (u : ℕ) → u < length l.units → get_or order (get_or blocks u 0) 0 ≡ name u
    root_is u h = ap (λ b. get_or order b 0) (numbered.number_is u h) ∙ place_reads (name u) order (in_order order is u h)

    rises : (units : List ℕ) → ((i : ℕ) → i < length units → get_or units i 0 < length l.units) → GoesForward names order units → Rises blocks units
    rises units within forward i k =
        let u = numbered.number_is (get_or units i 0) (within i (omega (arith, k))) in
        let v = numbered.number_is (get_or units (i + 1) 0) (within (i + 1) k) in
        let f = forward i k in
        omega (arith, u, v, f)

    pub blocks_from : AreBlocks l rows chosen blocks order
    blocks_from =
        record {
          as_many = numbered.as_many;
          numbers = λ u h. rw (numbered.number_is u h) (place_below (name u) order (in_order order is u h));
          roots_in_range = λ b h. (is.own (get_or order b 0) (occurs_at order b h)).0;
          of_roots = λ b h.
              let own = is.own (get_or order b 0) (occurs_at order b h) in
              numbered.number_is (get_or order b 0) own.0 ∙ ap (place_in order) own.1 ∙ place_once order is.no_repeat b h;
          leftmost = λ u h. rw (root_is u h) (name_low (layer_of l u) u h refl);
          first = λ u h. ⊎_elim (λ own. inl (root_is u h ∙ own)) (λ e. inr e) (named.first u h);
          joined = λ j h.
              let s = sound.links_are _ (straight.known j h) in
              numbered.number_is _ s.tail ∙ ap (place_in order) (named.joined j h) ∙ sym (numbered.number_is _ s.head);
          one_in_layer = λ u v hu hv same e.
              one_unit (layer_of l v) u v hu hv same refl (sym (root_is u hu) ∙ ap (λ b. get_or order b 0) e ∙ root_is v hv);
          rising = λ r h. rises (row_at rows r) (are.in_range r h) (is.units r h);
          children_rising = λ r h. rises (filter (is_child l) (row_at rows r))
              (λ i k. All-filter (is_child l) (λ u. u < length l.units) (row_at rows r) (All-from_get_or (λ u. u < length l.units) (row_at rows r) 0 (are.in_range r h)) i 0 k)
              (is.children r h);
        }
