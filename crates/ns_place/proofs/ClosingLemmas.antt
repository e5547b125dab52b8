-- Gaps closed one after the other.
use Rattle.std.proofs.Common.{◌≡◌, ◌≢◌, ℕ, ◌+◌, ◌<◌, ◌≤◌, ◌==◌, cond, ◌⊎◌, List, [], ◌∷◌, length, take, map, get_or, set, arith, refl, sym, ◌∙◌, ap, subst, inl, inr}
use Rattle.std.proofs.lemmas.Bool.{cases_eq, cases_lt}
use Rattle.std.specs.List.{All, sum_by}
use Rattle.std.specs.List.Sorted.{IsPermutation, IsNonDecreasingBy}
use Rattle.std.proofs.lemmas.List.{get_or-map, length-map, get_or-set_same, get_or-set_other, get_or_default, take_all}
use Rattle.std.proofs.lemmas.List.Elements.{All-from_get_or, Contains-get_or}
use Rattle.std.proofs.lemmas.List.Sums.{sum_by_more, sum_by-cons}
use Rattle.std.proofs.lemmas.List.Sorted.{All-permutation, Contains-permutation, IsPermutation-map, sum_by-IsPermutation}
use borrow.Author.Count.{below_more}
use Rattle.elk_layers.specs.Occurring.{occurs, HasNoRepeat}
use Rattle.elk_layers.proofs.OccursLemmas.{no_repeat_from}
use Rattle.elk_layers.proofs.PlaceLemmas.{place_once}
use Rattle.elk_layers.specs.Layered.{place_in}
use Rattle.ns_place.specs.declared.closing.Standing.{Standing}
use Rattle.ns_place.specs.Closing.{standing_at, closed_at, StaysApart, IsClosedTo, IsClosedUp, StandByNumber}

abbrev pub UnitsDiffer : List Standing → Type 0
UnitsDiffer all = (i j : ℕ) → i < j → j < length all → (standing_at all i).unit ≢ (standing_at all j).unit

-- one unit more, in plain numbers

held_on : (c t span last top now shift shift' reach : ℕ) → last ≤ top → c + span ≤ reach → shift' + now ≡ top → (now + shift ≡ top) ⊎ (now ≡ reach) → (c + shift ≤ t) ⊎ (c + span + shift ≤ last) → (c + shift' ≤ t) ⊎ (c + span + shift' ≤ top)
held_on c t span last top now shift shift' reach up near is (inr far) held = inr (omega arith)
held_on c t span last top now shift shift' reach up near is (inl same) (inl held) = inl (omega arith)
held_on c t span last top now shift shift' reach up near is (inl same) (inr held) = inr (omega arith)

kept_on : (c t span last top now shift reach : ℕ) → last ≤ top → c + span ≤ reach → (now + shift ≡ top) ⊎ (now ≡ reach) → (c + shift ≤ t) ⊎ (c + span + shift ≤ last) → (c + top ≤ now + t) ⊎ (c + span ≤ now)
kept_on c t span last top now shift reach up near (inr far) held = inr (omega arith)
kept_on c t span last top now shift reach up near (inl same) (inl held) = inl (omega arith)
kept_on c t span last top now shift reach up near (inl same) (inr held) = inr (omega arith)

stays_itself : (t span c : ℕ) → StaysApart t span t c c
stays_itself t span c = record { no_wider = omega arith; kept = inl (omega arith) }

stays_at : (t span t' c c' d d' : ℕ) → d ≡ c → d' ≡ c' → StaysApart t span t' c c' → StaysApart t span t' d d'
stays_at t span t' c c' d d' e f h = subst (λ x. StaysApart t span t' x d') (sym e) (subst (λ x. StaysApart t span t' c x) (sym f) h)

-- two units with one top stay together
stays_turned : (t span t' span' c c' : ℕ) → t ≡ t' → StaysApart t' span' t c' c → StaysApart t span t' c c'
stays_turned t span t' span' c c' e h =
    let a = h.no_wider in
    let b : c' ≤ c = elim h.kept [
      | inl k ↦ omega (arith, k, e)
      | inr k ↦ omega (arith, k)
    ] in
    record { no_wider = omega (arith, a, b, e); kept = inl (omega (arith, a, b, e)) }

pub closed_more : (all : List Standing) (i last shift reach now shift' reach' : ℕ) (closed : List ℕ) → UnitsDiffer all
    → i < length all → (standing_at all i).unit < length closed → last ≤ (standing_at all i).top
    → now + shift ≤ (standing_at all i).top → (now + shift ≡ (standing_at all i).top) ⊎ (now ≡ reach) → now ≤ reach
    → shift' + now ≡ (standing_at all i).top → reach ≤ reach' → now + (standing_at all i).span ≤ reach' → reach' ≤ reach + (standing_at all i).span
    → IsClosedTo all i last shift reach closed
    → IsClosedTo all (i + 1) (standing_at all i).top shift' reach' (set closed (standing_at all i).unit now)
closed_more all i last shift reach now shift' reach' closed differ h below up low either within is wide far short s =
    let at : ℕ = (standing_at all i).unit in
    let top : ℕ = (standing_at all i).top in
    let new : List ℕ = set closed at now in
    let here : closed_at all new i ≡ now = get_or-set_same closed at now 0 below in
    let before : (j : ℕ) → j < i → closed_at all new j ≡ closed_at all closed j =
    λ j l. get_or-set_other closed at (standing_at all j).unit now 0 (differ j i l h) in
    let more = sum_by_more (λ (x : Standing). x.span) all i (record { top = 0; span = 0; unit = 0 }) h in
    let last_apart : (j : ℕ) → j ≤ i → StaysApart (standing_at all j).top (standing_at all j).span top (closed_at all new j) (closed_at all new i) =
    λ j l. elim (cases_eq j i) [
      | inl e ↦ subst (λ x. StaysApart (standing_at all x).top (standing_at all x).span top (closed_at all new x) (closed_at all new i)) (sym e) (stays_itself top (standing_at all i).span (closed_at all new i))
      | inr ne ↦
          let less : j < i = omega (arith, l, ne) in
          let a = s.shifted j less in
          stays_at (standing_at all j).top (standing_at all j).span top (closed_at all closed j) now _ _ (before j less) here
          (record { no_wider = omega (arith, a, up); kept = kept_on (closed_at all closed j) (standing_at all j).top (standing_at all j).span last top now shift reach (omega arith) (s.within_reach j less) either (s.held j less) })
    ] in
    record {
      in_order = below_more (λ j. (standing_at all j).top ≤ top) i (λ j l. let a = s.in_order j l in omega (arith, a)) (omega arith);
      within_reach = below_more (λ j. closed_at all new j + (standing_at all j).span ≤ reach') i (λ j l. let a = s.within_reach j l in let b = before j l in omega (arith, a, b, wide)) (omega (arith, here, far));
      shifted = below_more (λ j. (standing_at all j).top ≤ shift' + closed_at all new j) i (λ j l. let a = s.shifted j l in let b = before j l in omega (arith, a, b, is, up)) (omega (arith, here, is));
      held = below_more (λ j. (closed_at all new j + shift' ≤ (standing_at all j).top) ⊎ (closed_at all new j + (standing_at all j).span + shift' ≤ top)) i
          (λ j l. rw (before j l) (held_on (closed_at all closed j) (standing_at all j).top (standing_at all j).span last top now shift shift' reach (omega arith) (s.within_reach j l) is either (s.held j l)))
          (inl (omega (arith, here, is)));
      apart = λ j k le l. elim (cases_eq k i) [
        | inl e ↦ subst (λ x. StaysApart (standing_at all j).top (standing_at all j).span (standing_at all x).top (closed_at all new j) (closed_at all new x)) (sym e) (last_apart j (omega (arith, le, e)))
        | inr ne ↦
            let less : k < i = omega (arith, l, ne) in
            stays_at (standing_at all j).top (standing_at all j).span (standing_at all k).top (closed_at all closed j) (closed_at all closed k) _ _ (before j (omega (arith, le, less))) (before k less) (s.apart j k le less)
      ];
      shift_small = omega (arith, is);
      reach_small = let r = s.reach_small in omega (arith, more, r, short);
    }

-- a list and the same in another order

occurs_is : (n : ℕ) (xs : List ℕ) → occurs n xs ≡ sum_by (λ m. cond (m == n) 1 0) xs
occurs_is n [] = refl
occurs_is n (x ∷ xs) = let h = occurs_is n xs in let c = sum_by-cons (λ m. cond (m == n) 1 0) x xs in omega (arith, h, c)

unit_read : (all : List Standing) (i : ℕ) → i < length all → get_or (map (λ (s : Standing). s.unit) all) i 0 ≡ (standing_at all i).unit
unit_read all i h = get_or-map (λ (s : Standing). s.unit) all i (record { top = 0; span = 0; unit = 0 }) 0 h

module _ (first all : List Standing) (moved : IsPermutation first all) (numbered : StandByNumber first) where
  once_first : HasNoRepeat (map (λ (s : Standing). s.unit) first)
  once_first = no_repeat_from (map (λ (s : Standing). s.unit) first)
      (λ i j l h e.
      let long = length-map first (λ (s : Standing). s.unit) in
      let hj : j < length first = omega (arith, h, long) in
      let hi : i < length first = omega (arith, hj, l) in
      let a = unit_read first i hi ∙ numbered i hi in
      let b = unit_read first j hj ∙ numbered j hj in
      omega (arith, a, b, e, l))

  once_all : HasNoRepeat (map (λ (s : Standing). s.unit) all)
  once_all n =
      let same = sum_by-IsPermutation (λ m. cond (m == n) 1 0) (map (λ (s : Standing). s.unit) first) (map (λ (s : Standing). s.unit) all) (IsPermutation-map (λ (s : Standing). s.unit) first all moved) in
      let a = occurs_is n (map (λ (s : Standing). s.unit) first) in
      let b = occurs_is n (map (λ (s : Standing). s.unit) all) in
      let c = once_first n in
      omega (arith, same, a, b, c)

  pub units_differ : UnitsDiffer all
  units_differ i j l h e =
      let xs : List ℕ = map (λ (s : Standing). s.unit) all in
      let long = length-map all (λ (s : Standing). s.unit) in
      let a = place_once (map (λ (s : Standing). s.unit) all) once_all i (omega (arith, l, h, long)) in
      let b = place_once (map (λ (s : Standing). s.unit) all) once_all j (omega (arith, h, long)) in
      let same : get_or xs i 0 ≡ get_or xs j 0 = unit_read all i (omega (arith, l, h)) ∙ e ∙ sym (unit_read all j h) in
      let c : place_in xs (get_or xs i 0) ≡ place_in xs (get_or xs j 0) = ap (place_in xs) same in
      omega (arith, a, b, c, l)

  -- where a unit stands in the other order
  place_of_unit : (u : ℕ) → u < length first → (k : ℕ) × (k < length all) × (standing_at all k ≡ standing_at first u)
  place_of_unit u h =
      let c = Contains-permutation first all (standing_at first u) moved (Contains-get_or first u (record { top = 0; span = 0; unit = 0 }) h) in
      (c.0, c.1, get_or_default all c.0 (record { top = 0; span = 0; unit = 0 }) (standing_at first u) c.1 ∙ c.2)

  pub closed_all : (closed : List ℕ) (last shift reach : ℕ) → length closed ≡ length first → IsNonDecreasingBy (λ (s : Standing). s.top) all → IsClosedTo all (length all) last shift reach closed → IsClosedUp first closed
  closed_all closed last shift reach long sorted s =
      record {
        as_many = long;
        apart = λ u v hu hv le.
            let a = place_of_unit u hu in
            let b = place_of_unit v hv in
            let there : StaysApart (standing_at all a.0).top (standing_at all a.0).span (standing_at all b.0).top (closed_at all closed a.0) (closed_at all closed b.0) =
            elim (cases_lt b.0 a.0) [
              | inr k ↦ s.apart a.0 b.0 k b.1
              | inl k ↦
                  let up = sorted b.0 a.0 (record { top = 0; span = 0; unit = 0 }) (omega (arith, k)) a.1 in
                  let ea : (standing_at all a.0).top ≡ (standing_at first u).top = ap (λ (x : Standing). x.top) a.2 in
                  let eb : (standing_at all b.0).top ≡ (standing_at first v).top = ap (λ (x : Standing). x.top) b.2 in
                  stays_turned (standing_at all a.0).top (standing_at all a.0).span (standing_at all b.0).top (standing_at all b.0).span (closed_at all closed a.0) (closed_at all closed b.0) (omega (arith, up, ea, eb, le)) (s.apart b.0 a.0 (omega (arith, k)) a.1)
            ] in
            let moved_u = subst (λ (x : Standing). StaysApart x.top x.span (standing_at all b.0).top (get_or closed x.unit 0) (closed_at all closed b.0)) a.2 there in
            let moved_v = subst (λ (x : Standing). StaysApart (standing_at first u).top (standing_at first u).span x.top (get_or closed (standing_at first u).unit 0) (get_or closed x.unit 0)) b.2 moved_u in
            subst (λ n. StaysApart (standing_at first u).top (standing_at first u).span (standing_at first v).top (get_or closed u 0) (get_or closed n 0)) (numbered v hv)
            (subst (λ n. StaysApart (standing_at first u).top (standing_at first u).span (standing_at first v).top (get_or closed n 0) (get_or closed (standing_at first v).unit 0)) (numbered u hu) moved_v);
        within = λ u hu.
            let a = place_of_unit u hu in
            let r = s.within_reach a.0 a.1 in
            let far = s.reach_small in
            let whole : sum_by (λ (x : Standing). x.span) (take (length all) all) ≡ sum_by (λ (x : Standing). x.span) all = ap (sum_by (λ (x : Standing). x.span)) (take_all (length all) all (omega arith)) in
            let same = sum_by-IsPermutation (λ (x : Standing). x.span) first all moved in
            let span : (standing_at all a.0).span ≡ (standing_at first u).span = ap (λ (x : Standing). x.span) a.2 in
            let at : closed_at all closed a.0 ≡ get_or closed u 0 = ap (λ (x : Standing). get_or closed x.unit 0) a.2 ∙ ap (λ n. get_or closed n 0) (numbered u hu) in
            omega (arith, r, far, whole, same, span, at);
      }

pub units_in_range : (first all : List Standing) → IsPermutation first all → StandByNumber first → All (λ (s : Standing). s.unit < length first) all
units_in_range first all moved numbered =
    All-permutation (λ (s : Standing). s.unit < length first) first all moved
    (All-from_get_or (λ (s : Standing). s.unit < length first) first (record { top = 0; span = 0; unit = 0 }) (λ u h. let e = numbered u h in omega (arith, e, h)))
